-- Truth values, lists and look-ups.
use Rattle.std.proofs.Common.{◌≡◌, ◌<◌, ◌+◌, ◌++◌, ℕ, zero, suc, Bool, true, false, List, [], ◌∷◌, Some, None, refl, sym, ◌∙◌, ap, arith, map, length}
use Rattle.std.specs.Prelude.{◌||◌, ◌&&◌, ◌==◌, not, nat_lt, slice_get}
use Rattle.std.specs.List.{list_any, range_with_len}
use Rattle.std.proofs.lemmas.Bool.Decides.{nat_tests}

-- ---- truth values

pub or_left : (a b : Bool) → a ≡ true → (a || b) ≡ true
or_left true b e = refl
or_left false b e = absurd cc

pub or_right : (a b : Bool) → b ≡ true → (a || b) ≡ true
or_right true b e = refl
or_right false b e = e

pub either : {X : Type 0} (a b : Bool) → (a || b) ≡ true → (a ≡ true → X) → (b ≡ true → X) → X
either true b e first second = first refl
either false b e first second = second e

pub no_first : (a b : Bool) → (a || b) ≡ false → a ≡ false
no_first true b e = e
no_first false b e = refl

pub no_second : (a b : Bool) → (a || b) ≡ false → b ≡ false
no_second true b e = absurd cc
no_second false b e = e

pub and_first : (a b : Bool) → (a && b) ≡ true → a ≡ true
and_first true b e = refl
and_first false b e = absurd cc

pub and_second : (a b : Bool) → (a && b) ≡ true → b ≡ true
and_second true b e = e
and_second false b e = absurd cc

pub both : (a b : Bool) → a ≡ true → b ≡ true → (a && b) ≡ true
both true b h e = e
both false b h e = absurd cc

-- where the first of two holds, and not both, the second doesn't
pub not_both : (a b : Bool) → a ≡ true → (a && b) ≡ false → b ≡ false
not_both true b is e = e
not_both false b is e = absurd cc

pub not_false : (b : Bool) → not b ≡ false → b ≡ true
not_false true e = refl
not_false false e = absurd cc

pub contradict : {X : Type 0} (b : Bool) → b ≡ true → b ≡ false → X
contradict b is isnt = absurd (both_ways (sym is ∙ isnt))
  where
    both_ways : true ≡ false → ⊥
    both_ways e = absurd cc

pub less_is : (a b : ℕ) → a < b → nat_lt a b ≡ true
less_is a b less = grind (arith, nat_tests, less)

pub is_less : (a b : ℕ) → nat_lt a b ≡ true → a < b
is_less a b e = grind (arith, nat_tests, e)

pub equal_is : (a b : ℕ) → a ≡ b → (a == b) ≡ true
equal_is a b same = grind (arith, nat_tests, same)

pub is_equal : (a b : ℕ) → (a == b) ≡ true → a ≡ b
is_equal a b e = grind (arith, nat_tests, e)

-- ---- what is there

pub same_some : {X : Type 0} (x y : X) → Some x ≡ Some y → x ≡ y
same_some x y e = cc

pub never_none : {X : Type 0} {Y : Type 0} (x : X) → None ≡ Some x → Y
never_none x e = absurd cc

-- ---- lists

-- a member of a list passes a test where any does
pub any_at : {X : Type 0} (test : X → Bool) (xs : List X) (k : ℕ) (x : X) → slice_get xs k ≡ Some x → test x ≡ true → list_any test xs ≡ true
any_at test [] k x there is = never_none x there
any_at test (y ∷ xs) zero x there is = or_left (test y) (list_any test xs) (ap test (same_some y x there) ∙ is)
any_at test (y ∷ xs) (suc k) x there is = or_right (test y) (list_any test xs) (any_at test xs k x there is)

pub none_at : {X : Type 0} (test : X → Bool) (xs : List X) (k : ℕ) (x : X) → slice_get xs k ≡ Some x → list_any test xs ≡ false → test x ≡ false
none_at test [] k x there is = never_none x there
none_at test (y ∷ xs) zero x there is = ap test (sym (same_some y x there)) ∙ no_first (test y) (list_any test xs) is
none_at test (y ∷ xs) (suc k) x there is = none_at test xs k x there (no_second (test y) (list_any test xs) is)

-- a member that passes a test
pub record Passes {X : Type 0} (test : X → Bool) (xs : List X) : Type 0 where
  pub place : ℕ
  pub item : X
  pub there : slice_get xs place ≡ Some item
  pub passes : test item ≡ true

pub some_passes : {X : Type 0} (test : X → Bool) (xs : List X) → list_any test xs ≡ true → Passes test xs
some_passes test [] e = absurd cc
some_passes test (x ∷ xs) e =
    either (test x) (list_any test xs) e
    (λ here. record { place = 0; item = x; there = refl; passes = here })
    (λ later. let p = some_passes test xs later in record { place = suc p.place; item = p.item; there = p.there; passes = p.passes })

pub item_at : {X : Type 0} (xs : List X) (p : ℕ) → p < length xs → (x : X) × (slice_get xs p ≡ Some x)
item_at [] p less = absurd (omega (arith, less))
item_at (x ∷ xs) zero less = (x, refl)
item_at (x ∷ xs) (suc p) less = item_at xs p (omega (arith, less))

pub within : {X : Type 0} (xs : List X) (p : ℕ) (x : X) → slice_get xs p ≡ Some x → p < length xs
within [] p x there = never_none x there
within (y ∷ xs) zero x there = omega arith
within (y ∷ xs) (suc p) x there = let rest : p < length xs = within xs p x there in omega (arith, rest)

-- in two lists, one after the other
pub in_front : {X : Type 0} (xs ys : List X) (p : ℕ) (x : X) → slice_get xs p ≡ Some x → slice_get (xs ++ ys) p ≡ Some x
in_front [] ys p x there = never_none x there
in_front (y ∷ xs) ys zero x there = there
in_front (y ∷ xs) ys (suc p) x there = in_front xs ys p x there

pub data Part {X : Type 0} (xs ys : List X) (p : ℕ) (x : X) : Type 0 where
  Front : slice_get xs p ≡ Some x → Part xs ys p x
  Back : (k : ℕ) → p ≡ length xs + k → slice_get ys k ≡ Some x → Part xs ys p x

pub part_of : {X : Type 0} (xs ys : List X) (p : ℕ) (x : X) → slice_get (xs ++ ys) p ≡ Some x → Part xs ys p x
part_of [] ys p x there = Back p (omega arith) there
part_of (y ∷ xs) ys zero x there = Front there
part_of (y ∷ xs) ys (suc p) x there = later (part_of xs ys p x there)
  where
    later : Part xs ys p x → Part (y ∷ xs) ys (suc p) x
    later (Front t) = Front t
    later (Back k at t) = Back k (omega (arith, at)) t

-- what is made of an item
pub made_of_item : {X : Type 0} {Y : Type 0} (f : X → Y) (xs : List X) (p : ℕ) (y : Y) → slice_get (map f xs) p ≡ Some y
    → (x : X) × (slice_get xs p ≡ Some x) × (f x ≡ y)
made_of_item f [] p y there = never_none y there
made_of_item f (x ∷ xs) zero y there = (x, refl, same_some (f x) y there)
made_of_item f (x ∷ xs) (suc p) y there = made_of_item f xs p y there

-- what is made of numbers, one after the other
pub made_of_number : {Y : Type 0} (f : ℕ → Y) (n m k : ℕ) (y : Y) → slice_get (map f (range_with_len n m)) k ≡ Some y → (k < m) × (f (n + k) ≡ y)
made_of_number f n zero k y there = never_none y there
made_of_number f n (suc m) zero y there =
    let plain : n + 0 ≡ n = omega arith in (omega arith, ap f plain ∙ same_some (f n) y there)
made_of_number f n (suc m) (suc k) y there =
    let rest = made_of_number f (n + 1) m k y there in
    let less : k < m = rest.0 in
    let plain : n + suc k ≡ (n + 1) + k = omega arith in (omega (arith, less), ap f plain ∙ rest.1)

-- the one item of a list
pub one_item : {X : Type 0} (x y : X) (k : ℕ) → slice_get (x ∷ []) k ≡ Some y → (k ≡ 0) × (x ≡ y)
one_item x y zero there = (refl, same_some x y there)
one_item x y (suc k) there = never_none y there
