-- What is gathered of one element more, and that the gathered are the first fault, else all.
use Rattle.std.proofs.Common.{ℕ, zero, suc, ◌≡◌, ◌<◌, ◌≤◌, ◌+◌, ◌-◌, ◌++◌, List, [], ◌∷◌, length, take, Result, Ok, Err, Option, Some, None, refl, sym, ap, subst, ◌∙◌, arith, add-one, length-append}
use Rattle.std.proofs.Common.{get_or}
use Rattle.std.specs.Prelude.{true, false, IsOk, is_some, slice_get, All}
use Rattle.std.proofs.Math.Seq.{take-length}
use Rattle.std.proofs.lemmas.Option.{slice_get-get_or}
use Rattle.ray_contents.specs.Gathering.{with_next, gathered, AreAll, IsFirstOrAll, required, given, all_some}

-- what a loop that reads one element after the other cites: nothing, one more, a fault
pub gathered_none : {X F : Type 0} (element : ℕ → Result X F) → gathered element 0 ≡ Ok []
unfolding gathered
gathered_none element = refl

gathered_suc : {X F : Type 0} (element : ℕ → Result X F) (n : ℕ) → gathered element (suc n) ≡ with_next (gathered element n) (element n)
unfolding gathered
gathered_suc element n = refl

pub gathered_next : {X F : Type 0} (element : ℕ → Result X F) (n : ℕ) → gathered element (n + 1) ≡ with_next (gathered element n) (element n)
gathered_next element n = rw add-one (gathered_suc element n)

pub gathered_more : {X F : Type 0} (element : ℕ → Result X F) (n : ℕ) (xs : List X) (x : X) → gathered element n ≡ Ok xs → element n ≡ Ok x → gathered element (n + 1) ≡ Ok (xs ++ x ∷ [])
gathered_more element n xs x p q = gathered_next element n ∙ (λ i. with_next (p i) (q i))

fault_after : {X F : Type 0} (element : ℕ → Result X F) (n : ℕ) (fault : F) → gathered element n ≡ Err fault → (k m : ℕ) → n + k ≡ m → gathered element m ≡ Err fault
fault_after element n fault p zero m e = subst (λ j. gathered element j ≡ Err fault) (let same : n ≡ m = omega arith in same) p
fault_after element n fault p (suc k) zero e = absurd (omega arith)
fault_after element n fault p (suc k) (suc m) e =
    gathered_suc element m ∙ ap (λ r. with_next r (element m)) (fault_after element n fault p k m (omega arith))

pub gathered_fault : {X F : Type 0} (element : ℕ → Result X F) (n count : ℕ) (xs : List X) (fault : F) → gathered element n ≡ Ok xs → element n ≡ Err fault → n < count → gathered element count ≡ Err fault
gathered_fault element n (suc m) xs fault p q below =
    fault_after element (n + 1) fault (gathered_next element n ∙ (λ i. with_next (p i) (q i))) (m - n) (suc m) (omega arith)
gathered_fault element n zero xs fault p q below = absurd (omega arith)

-- ---- the law

-- what is under each number of a list, also with one item more at the end
each_more : {X : Type 0} (P : ℕ → X → Type 0) (xs : List X) (x : X) → ((k : ℕ) (y : X) → slice_get xs k ≡ Some y → P k y) → P (length xs) x →
    (k : ℕ) (y : X) → slice_get (xs ++ x ∷ []) k ≡ Some y → P k y
each_more P [] x each last zero y e = let same : x ≡ y = cc in subst (λ z. P 0 z) same last
each_more P [] x each last (suc k) y e = absurd cc
each_more P (z ∷ zs) x each last zero y e = each zero y e
each_more P (z ∷ zs) x each last (suc k) y e = each_more (λ j. P (suc j)) zs x (λ j w h. each (suc j) w h) last k y e

-- a number below the length of a list has an item
item_below : {X : Type 0} (xs : List X) (k : ℕ) → k < length xs → (x : X) × (slice_get xs k ≡ Some x)
item_below [] k below = absurd (omega arith)
item_below (x ∷ xs) zero below = (x, refl)
item_below (x ∷ xs) (suc k) below = item_below xs k (omega arith)

ok_of : {X F : Type 0} (r : Result X F) (x : X) → r ≡ Ok x → IsOk r
ok_of (Ok y) x e = refl
ok_of (Err fault) x e = absurd cc

step : {X F : Type 0} (element : ℕ → Result X F) (n : ℕ) (so_far : Result (List X) F) (next : Result X F) → element n ≡ next →
    IsFirstOrAll element n so_far → IsFirstOrAll element (suc n) (with_next so_far next)
step element n (Err fault) next e first =
    (first.0, record { within = let h = first.1.within in omega arith; is_fault = first.1.is_fault; before = first.1.before })
step element n (Ok xs) (Ok x) e all =
    record {
      as_many = let many = all.as_many in length-append xs (x ∷ []) ∙ (omega arith);
      each = each_more (λ k y. element k ≡ Ok y) xs x all.each (subst (λ k. element k ≡ Ok x) (sym all.as_many) e);
    }
step element n (Ok xs) (Err fault) e all = (
  n,
  record {
    within = omega arith;
    is_fault = e;
    before = λ j below.
        let many = all.as_many in
        let item = item_below xs j (omega arith) in
        ok_of (element j) item.0 (all.each j item.0 item.1);
  },
)

pub gathered_law : {X F : Type 0} (element : ℕ → Result X F) (count : ℕ) → IsFirstOrAll element count (gathered element count)
gathered_law element zero = subst (λ r. IsFirstOrAll element zero r) (sym (gathered_none element)) (record { as_many = refl; each = λ k x e. absurd cc })
gathered_law element (suc n) =
    subst (λ r. IsFirstOrAll element (suc n) r) (sym (gathered_suc element n)) (step element n (gathered element n) (element n) refl (gathered_law element n))

-- what is gathered, when all can be
pub gathered_all : {X F : Type 0} (element : ℕ → Result X F) (count : ℕ) (xs : List X) → gathered element count ≡ Ok xs → AreAll element count xs
gathered_all element count xs e = subst (λ r. IsFirstOrAll element count r) e (gathered_law element count)

-- what holds of each element that can be read holds of all that are gathered
pub All-gathered : {X F : Type 0} (P : X → Type 0) (element : ℕ → Result X F) → ((k : ℕ) (x : X) → element k ≡ Ok x → P x) →
    (count : ℕ) (xs : List X) → gathered element count ≡ Ok xs → All P xs
All-gathered P element each count xs e k d below =
    each k (get_or xs k d) ((gathered_all element count xs e).each k (get_or xs k d) (slice_get-get_or xs k d below))

-- the first n + 1 items of a list
take-suc-item : {X : Type 0} (xs : List X) (n : ℕ) (x : X) → slice_get xs n ≡ Some x → take (suc n) xs ≡ take n xs ++ x ∷ []
take-suc-item [] n x e = absurd cc
take-suc-item (y ∷ ys) zero x e = let same : y ≡ x = cc in ap (λ z. z ∷ []) same
take-suc-item (y ∷ ys) (suc n) x e = ap (λ zs. y ∷ zs) (take-suc-item ys n x e)

-- elements that are the items of a list are gathered as this list
gathered_take : {X F : Type 0} (element : ℕ → Result X F) (xs : List X) → ((k : ℕ) (x : X) → slice_get xs k ≡ Some x → element k ≡ Ok x) →
    (n : ℕ) → n ≤ length xs → gathered element n ≡ Ok (take n xs)
gathered_take element xs each zero within = gathered_none element
gathered_take element xs each (suc n) within =
    let item = item_below xs n (omega arith) in
    gathered_suc element n
    ∙ ((λ i. with_next (gathered_take element xs each n (omega arith) i) (each n item.0 item.1 i))
    ∙ ap Ok (sym (take-suc-item xs n item.0 item.1)))

pub gathered_items : {X F : Type 0} (element : ℕ → Result X F) (xs : List X) → ((k : ℕ) (x : X) → slice_get xs k ≡ Some x → element k ≡ Ok x) →
    gathered element (length xs) ≡ Ok xs
gathered_items element xs each = gathered_take element xs each (length xs) (omega arith) ∙ ap Ok (take-length xs)

-- ---- where a value may be missing

pub all_some_none : {X : Type 0} (value : ℕ → Option X) → all_some value 0 ≡ Some []
unfolding all_some
all_some_none value = ap given (gathered_none (λ i. required (value i)))

given_ok : {X : Type 0} (r : Result X (Unit {0})) (x : X) → given r ≡ Some x → r ≡ Ok x
given_ok (Ok y) x e = let same : y ≡ x = cc in cc
given_ok (Err missing) x e = absurd cc

pub all_some_more : {X : Type 0} (value : ℕ → Option X) (n : ℕ) (xs : List X) (x : X) → all_some value n ≡ Some xs → value n ≡ Some x →
    all_some value (n + 1) ≡ Some (xs ++ x ∷ [])
unfolding all_some
all_some_more value n xs x p q =
    ap given (gathered_more (λ i. required (value i)) n xs x (given_ok (gathered (λ i. required (value i)) n) xs p) (ap required q))

pub all_some_missing : {X : Type 0} (value : ℕ → Option X) (n count : ℕ) (xs : List X) → all_some value n ≡ Some xs → value n ≡ None → n < count →
    all_some value count ≡ None
unfolding all_some
all_some_missing value n count xs p q below =
    ap given (gathered_fault (λ i. required (value i)) n count xs tt (given_ok (gathered (λ i. required (value i)) n) xs p) (ap required q) below)

-- whether there are all
some_of : {X : Type 0} (o : Option X) → is_some o ≡ true → (x : X) × (o ≡ Some x)
some_of (Some x) e = (x, refl)
some_of None e = absurd cc

none_of : {X : Type 0} (o : Option X) → is_some o ≡ false → o ≡ None
none_of (Some x) e = absurd cc
none_of None e = refl

pub has_all_none : {X : Type 0} (value : ℕ → Option X) → is_some (all_some value 0) ≡ true
has_all_none value = ap is_some (all_some_none value)

pub has_all_more : {X : Type 0} (value : ℕ → Option X) (n : ℕ) → is_some (all_some value n) ≡ true → is_some (value n) ≡ true →
    is_some (all_some value (n + 1)) ≡ true
has_all_more value n p q =
    let xs = some_of (all_some value n) p in
    let x = some_of (value n) q in
    ap is_some (all_some_more value n xs.0 x.0 xs.1 x.1)

pub has_all_missing : {X : Type 0} (value : ℕ → Option X) (n count : ℕ) → is_some (all_some value n) ≡ true → is_some (value n) ≡ false → n < count →
    is_some (all_some value count) ≡ false
has_all_missing value n count p q below =
    let xs = some_of (all_some value n) p in ap is_some (all_some_missing value n count xs.0 xs.1 (none_of (value n) q) below)

-- values that are the items of a list are all of them
pub all_some_items : {X : Type 0} (value : ℕ → Option X) (xs : List X) → ((k : ℕ) (x : X) → slice_get xs k ≡ Some x → value k ≡ Some x) →
    all_some value (length xs) ≡ Some xs
unfolding all_some
all_some_items value xs each = ap given (gathered_items (λ i. required (value i)) xs (λ k x e. ap required (each k x e)))

-- what is known of all values
all_given : {X : Type 0} (value : ℕ → Option X) (count : ℕ) (xs : List X) → all_some value count ≡ Some xs → gathered (λ i. required (value i)) count ≡ Ok xs
unfolding all_some
all_given value count xs e = given_ok (gathered (λ i. required (value i)) count) xs e

required_ok : {X : Type 0} (o : Option X) (x : X) → required o ≡ Ok x → o ≡ Some x
required_ok (Some y) x e = let same : y ≡ x = cc in cc
required_ok None x e = absurd cc

pub length-all_some : {X : Type 0} (value : ℕ → Option X) (count : ℕ) (xs : List X) → all_some value count ≡ Some xs → length xs ≡ count
length-all_some value count xs e = (gathered_all (λ i. required (value i)) count xs (all_given value count xs e)).as_many

pub All-all_some : {X : Type 0} (P : X → Type 0) (value : ℕ → Option X) → ((k : ℕ) (x : X) → value k ≡ Some x → P x) →
    (count : ℕ) (xs : List X) → all_some value count ≡ Some xs → All P xs
All-all_some P value each count xs e =
    All-gathered P (λ i. required (value i)) (λ k x h. each k x (required_ok (value k) x h)) count xs (all_given value count xs e)

pub each-all_some : {X : Type 0} (value : ℕ → Option X) (count : ℕ) (xs : List X) → all_some value count ≡ Some xs →
    (k : ℕ) (x : X) → slice_get xs k ≡ Some x → value k ≡ Some x
each-all_some value count xs e k x h =
    required_ok (value k) x ((gathered_all (λ i. required (value i)) count xs (all_given value count xs e)).each k x h)

-- ---- what loops name: to gather with a fault, to gather where a value may be missing, and to test whether there are all

pub ruleset gathering = (gathered_none, gathered_more, gathered_fault)

pub ruleset all_values = (all_some_none, all_some_more, all_some_missing)

pub ruleset has_all = (has_all_none, has_all_more, has_all_missing)
