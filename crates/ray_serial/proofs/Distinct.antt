-- How many handles there are, instance by instance.
use Rattle.std.proofs.Common.{ℕ, zero, suc, ◌≡◌, ◌<◌, ◌≤◌, ◌+◌, ◌==◌, ◌&&◌, ◌||◌, Bool, true, false, not, List, [], ◌∷◌, ◌++◌, length, take, get_or, Option, None, refl, sym, ap, subst, ◌∙◌, arith}
use Rattle.std.specs.Prelude.{if◌then◌else◌}
use Rattle.std.specs.List.{list_any}
use Rattle.std.specs.Ordering.{nat_cmp, match_ordering}
use Rattle.std.specs.declared.cmp.Ordering.{Ordering}
use Rattle.std.specs.declared.cmp.Ordering.TheVariants.{Less, Equal, Greater}
use Rattle.std.specs.BTreeSet.{insert_key}
use Rattle.std.proofs.lemmas.Bool.Decides.{nat_tests}
use Rattle.std.proofs.Math.Seq.{take-length}
use Rattle.std.proofs.lemmas.List.{take_more}
use Rattle.ray_bytes.specs.References.{reference_of}
use Rattle.ray_top.specs.declared.instance.Instance.{Instance}
use Rattle.ray_top.specs.Instances.{InstanceValue, told_instance}
use Rattle.ray_serial.specs.TopWritten.{with_handle, handles_of, refers_to}
use Rattle.ray_serial.proofs.TopSteps.{handles_more}

-- ---- rising lists

-- a list rises from a bound on
Rises : ℕ → List ℕ → Type 0
Rises low [] = Unit {0}
Rises low (x ∷ xs) = (low ≤ x) × Rises (x + 1) xs

unfoldable pub has : ℕ → List ℕ → Bool
has k [] = false
has k (x ∷ xs) = (x == k) || has k xs

abbrev one_if : Bool → ℕ
one_if b = if b then 0 else 1

lower : (low other : ℕ) (xs : List ℕ) → other ≤ low → Rises low xs → Rises other xs
unfolding Rises
lower low other [] h r = tt
lower low other (x ∷ xs) h r = let first = r.0 in (omega arith, r.1)

absent : (k low : ℕ) (xs : List ℕ) → k < low → Rises low xs → has k xs ≡ false
unfolding Rises has
absent k low [] h r = refl
absent k low (x ∷ xs) h r =
    let first = r.0 in
    let differs : (x == k) ≡ false = grind (arith, nat_tests) in
    λ i. differs i || absent k (x + 1) xs (omega arith) r.1 i

is_less : (a b : ℕ) → nat_cmp a b ≡ Less → a < b
is_less a b e = grind (arith, nat_tests)

is_same : (a b : ℕ) → nat_cmp a b ≡ Equal → a ≡ b
is_same a b e = grind (arith, nat_tests)

is_more : (a b : ℕ) → nat_cmp a b ≡ Greater → b < a
is_more a b e = grind (arith, nat_tests)

-- what one number more does
record IsInserted (low k : ℕ) (xs ys : List ℕ) : Type 0 where
  rises : Rises low ys
  length_is : length ys ≡ length xs + one_if (has k xs)
  has_is : (j : ℕ) → has j ys ≡ ((k == j) || has j xs)

or_false : (a : Bool) → (false || a) ≡ a
or_false a = refl

swap_or : (a b c : Bool) → (a || (b || c)) ≡ (b || (a || c))
swap_or true true c = refl
swap_or true false c = refl
swap_or false true c = refl
swap_or false false c = refl

by_order : (o : Ordering) (low k x : ℕ) (xs ys : List ℕ) → nat_cmp k x ≡ o → low ≤ k → low ≤ x → Rises (x + 1) xs → (x < k → IsInserted (x + 1) k xs ys) →
    IsInserted low k (x ∷ xs) (match_ordering o (k ∷ x ∷ xs) (x ∷ xs) (x ∷ ys))
unfolding Rises has
by_order Less low k x xs ys e p q r others =
    let less = is_less k x e in
    let differs : (x == k) ≡ false = grind (arith, nat_tests) in
    let none = absent k (x + 1) xs (omega arith) r in
    record {
      rises = (p, (omega arith, r));
      length_is = (let n : suc (suc (length xs)) ≡ suc (length xs) + 1 = omega arith in n) ∙ sym (λ i. suc (length xs) + one_if (differs i || none i));
      has_is = λ j. refl;
    }
by_order Equal low k x xs ys e p q r others =
    let same = is_same k x e in
    let first : (x == k) ≡ true = grind (arith, nat_tests) in
    record {
      rises = (q, r);
      length_is = (let n : suc (length xs) ≡ suc (length xs) + 0 = omega arith in n) ∙ sym (λ i. suc (length xs) + one_if (first i || has k xs));
      has_is = λ j. twice (x == j) (has j xs) ∙ ap (λ (n : ℕ). (n == j) || ((x == j) || has j xs)) (sym same);
    }
  where
    twice : (a b : Bool) → (a || b) ≡ (a || (a || b))
    twice true b = refl
    twice false b = refl
by_order Greater low k x xs ys e p q r others =
    let more = is_more k x e in
    let ins = others more in
    let differs : (x == k) ≡ false = grind (arith, nat_tests) in
    record {
      rises = (q, ins.rises);
      length_is = ap suc ins.length_is
          ∙ ((let n : suc (length xs + one_if (has k xs)) ≡ suc (length xs) + one_if (has k xs) = omega arith in n)
          ∙ sym (λ i. suc (length xs) + one_if (differs i || has k xs)));
      has_is = λ j. ap (λ b. (x == j) || b) (ins.has_is j) ∙ swap_or (x == j) (k == j) (has j xs);
    }

inserted : (low k : ℕ) (xs : List ℕ) → low ≤ k → Rises low xs → IsInserted low k xs (insert_key nat_cmp xs k)
unfolding Rises has
inserted low k [] h r = record { rises = (h, tt); length_is = refl; has_is = λ j. refl }
inserted low k (x ∷ xs) h r =
    by_order (nat_cmp k x) low k x xs (insert_key nat_cmp xs k) refl h r.0 r.1 (λ more. inserted (x + 1) k xs (omega arith) r.1)

-- ---- handles

record AreHandles (handles : List ℕ) (instances : List (Option InstanceValue)) : Type 0 where
  rises : Rises 0 handles
  has_is : (id : ℕ) → has (reference_of id) handles ≡ list_any (refers_to id) instances

-- what one instance more does
record IsNoted (handles next : List ℕ) (told : Instance) : Type 0 where
  rises : Rises 0 next
  has_is : (id : ℕ) → has (reference_of id) next ≡ (has (reference_of id) handles || (told.active && (told.id == id)))
  length_is : length next ≡ length handles + (if told.active && not (has (reference_of told.id) handles) then 1 else 0)

same_id : (a b : ℕ) → (reference_of a == reference_of b) ≡ (a == b)
same_id a b = grind (arith, nat_tests)

or_comm : (a b : Bool) → (a || b) ≡ (b || a)
or_comm true true = refl
or_comm true false = refl
or_comm false true = refl
or_comm false false = refl

one_by : (b : Bool) → one_if b ≡ (if true && not b then 1 else 0)
one_by true = refl
one_by false = refl

or_nothing : (a : Bool) → a ≡ (a || false)
or_nothing true = refl
or_nothing false = refl

noted_by : (handles : List ℕ) (id : ℕ) (active : Bool) → Rises 0 handles →
    (Rises 0 (if active then insert_key nat_cmp handles (reference_of id) else handles))
    × ((j : ℕ) → has (reference_of j) (if active then insert_key nat_cmp handles (reference_of id) else handles) ≡ (has (reference_of j) handles || (active && (id == j))))
    × (length (if active then insert_key nat_cmp handles (reference_of id) else handles)
    ≡ length handles + (if active && not (has (reference_of id) handles) then 1 else 0))
noted_by handles id true r =
    let ins = inserted 0 (reference_of id) handles (omega arith) r in (
      ins.rises,
      λ j. ins.has_is (reference_of j) ∙ (ap (λ b. b || has (reference_of j) handles) (same_id id j) ∙ or_comm (id == j) (has (reference_of j) handles)),
      ins.length_is ∙ ap (λ n. length handles + n) (one_by (has (reference_of id) handles)),
    )
noted_by handles id false r = (r, λ j. or_nothing (has (reference_of j) handles), let n : length handles ≡ length handles + 0 = omega arith in n)

any_push : {X : Type 0} (p : X → Bool) (xs : List X) (x : X) → list_any p (xs ++ x ∷ []) ≡ (list_any p xs || p x)
any_push p [] x = sym (or_nothing (p x))
any_push p (y ∷ ys) x = ap (λ b. p y || b) (any_push p ys x) ∙ assoc (p y) (list_any p ys) (p x)
  where
    assoc : (a b c : Bool) → (a || (b || c)) ≡ ((a || b) || c)
    assoc true b c = refl
    assoc false b c = refl

handles_are : (instances : List (Option InstanceValue)) (i : ℕ) → i ≤ length instances → AreHandles (handles_of (take i instances)) (take i instances)
unfolding handles_of Rises has
handles_are instances zero h = record { rises = tt; has_is = λ id. refl }
handles_are instances (suc i) h =
    let so_far = handles_are instances i (omega arith) in
    let x = get_or instances i None in
    let told = told_instance x in
    let step = noted_by (handles_of (take i instances)) told.id told.active so_far.rises in
    let next : with_handle (handles_of (take i instances)) told ≡ handles_of (take (i + 1) instances) = handles_more instances i (omega arith) in
    let taken : take (i + 1) instances ≡ take i instances ++ x ∷ [] = take_more instances i None (omega arith) in
    let one : i + 1 ≡ suc i = omega arith in
    let P : List ℕ → Type 0 = λ hs. AreHandles hs (take (i + 1) instances) in
    let Q : ℕ → Type 0 = λ n. AreHandles (handles_of (take n instances)) (take n instances) in
    subst Q one
    (subst P next
    (record {
      rises = step.0;
      has_is = λ id. step.1 id
          ∙ (ap (λ b. b || (told.active && (told.id == id))) (so_far.has_is id)
          ∙ (sym (any_push (refers_to id) (take i instances) x) ∙ ap (list_any (refers_to id)) (sym taken)));
    }))

pub handles_counted : (instances : List (Option InstanceValue)) (i : ℕ) → i < length instances →
    length (handles_of (take (i + 1) instances))
    ≡ length (handles_of (take i instances))
    + (if (told_instance (get_or instances i None)).active
    && not (list_any (refers_to (told_instance (get_or instances i None)).id) (take i instances)) then 1 else 0)
handles_counted instances i below =
    let so_far = handles_are instances i (omega arith) in
    let told = told_instance (get_or instances i None) in
    let step = noted_by (handles_of (take i instances)) told.id told.active so_far.rises in
    ap length (sym (handles_more instances i below))
    ∙ (step.2 ∙ ap (λ b. length (handles_of (take i instances)) + (if told.active && not b then 1 else 0)) (so_far.has_is told.id))

pub any_none : (id : ℕ) (instances : List (Option InstanceValue)) (i : ℕ) → i < length instances → list_any (refers_to id) (take i instances) ≡ false →
    list_any (refers_to id) (take (i + 1) instances) ≡ refers_to id (get_or instances i None)
any_none id instances i below e =
    ap (list_any (refers_to id)) (take_more instances i None below)
    ∙ (any_push (refers_to id) (take i instances) (get_or instances i None) ∙ ap (λ b. b || refers_to id (get_or instances i None)) e)

-- what is among the first is among more
pub any_more : (id : ℕ) (instances : List (Option InstanceValue)) (i n : ℕ) → i < n → n ≤ length instances → refers_to id (get_or instances i None) ≡ true →
    list_any (refers_to id) (take n instances) ≡ true
any_more id [] i n p q e = absurd (omega arith)
any_more id (x ∷ xs) i zero p q e = absurd (omega arith)
any_more id (x ∷ xs) zero (suc n) p q e = ap (λ b. b || list_any (refers_to id) (take n xs)) e
any_more id (x ∷ xs) (suc i) (suc n) p q e =
    ap (λ b. refers_to id x || b) (any_more id xs i n (omega arith) (omega arith) e) ∙ or_comm (refers_to id x) true

-- the reference of each active instance is a handle
pub has_handle : (instances : List (Option InstanceValue)) (k : ℕ) → k < length instances → (told_instance (get_or instances k None)).active ≡ true →
    has (reference_of (told_instance (get_or instances k None)).id) (handles_of instances) ≡ true
has_handle instances k below active =
    let id = (told_instance (get_or instances k None)).id in
    let all = handles_are instances (length instances) (omega arith) in
    let same : (id == id) ≡ true = grind (arith, nat_tests) in
    ap (λ xs. has (reference_of id) (handles_of xs)) (sym (take-length instances))
    ∙ (all.has_is id ∙ any_more id instances k (length instances) below (omega arith) (λ i. active i && same i))
