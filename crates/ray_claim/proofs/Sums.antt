-- Sums over views, and how often a number stands in a list.
use Rattle.std.proofs.Common.{◌≡◌, ℕ, zero, suc, ◌+◌, ◌<◌, ◌≤◌, Bool, true, false, cond, eqb, min, List, [], ◌∷◌, ◌++◌, length, set, sym, refl, ap, ◌∙◌, subst, arith}
use Rattle.std.proofs.lemmas.Bool.Decides.{nat_tests}
use Rattle.std.proofs.Math.Nat.{min-eq_left, min-eq_right}
use mathlib.Core.Option.{some, some-injective, some-ne-none}
use mathlib.Core.Logic.{dite}
use native.Mathlib.Decide.{dec_le}
use lib.ListN.{get_elem?}
use Rattle.ray_claim.specs.declared.rule.View.{View}
use Rattle.ray_claim.specs.Rule.{total, times, once_below, mark}

-- a sum after a change of one view
pub total_set : (f : View → ℕ) (views : List View) (id : ℕ) (v w : View) → get_elem? views id ≡ some v
    → total f (set views id w) + f v ≡ total f views + f w
total_set f [] id v w at = absurd (some-ne-none v (sym at))
total_set f (x ∷ xs) zero v w at = let is : f x ≡ f v = ap f (some-injective x v at) in omega arith
total_set f (x ∷ xs) (suc id) v w at = let r = total_set f xs id v w at in omega arith

-- a sum after a view is added
pub total_snoc : (f : View → ℕ) (views : List View) (w : View) → total f (views ++ w ∷ []) ≡ total f views + f w
total_snoc f [] w = omega arith
total_snoc f (x ∷ xs) w = let r = total_snoc f xs w in omega arith

-- a view's part is at most the sum
pub part_le : (f : View → ℕ) (views : List View) (id : ℕ) (v : View) → get_elem? views id ≡ some v → f v ≤ total f views
part_le f [] id v at = absurd (some-ne-none v (sym at))
part_le f (x ∷ xs) zero v at = let is : f x ≡ f v = ap f (some-injective x v at) in omega arith
part_le f (x ∷ xs) (suc id) v at = let r = part_le f xs id v at in omega arith

one_le : (b : Bool) → cond {A = ℕ} b 1 0 ≤ 1
one_le true = omega arith
one_le false = omega arith

-- no more views are marked than there are
pub marks_le : (views : List View) → total mark views ≤ length views
marks_le [] = omega arith
marks_le (v ∷ vs) = let r = marks_le vs in let b : mark v ≤ 1 = one_le _ in omega arith

pub times_append : (x : ℕ) (xs ys : List ℕ) → times x (xs ++ ys) ≡ times x xs + times x ys
times_append x [] ys = omega arith
times_append x (z ∷ zs) ys = let r = times_append x zs ys in omega arith

-- one number more
pub once_next : (x c : ℕ) → once_below x (c + 1) ≡ once_below x c + times x (c ∷ [])
once_next x c = grind (arith, nat_tests)

-- the lesser of c and n after a draw
pub once_more : (x c n : ℕ) → c < n → once_below x (min (c + 1) n) ≡ once_below x (min c n) + times x (c ∷ [])
once_more x c n less =
    ap (once_below x) (min-eq_left (omega arith))
    ∙ (once_next x c ∙ ap (λ m. once_below x m + times x (c ∷ [])) (sym (min-eq_left (omega arith))))

pub once_full : (x c n : ℕ) → n ≤ c → once_below x (min (c + 1) n) ≡ once_below x (min c n)
once_full x c n full = ap (once_below x) (min-eq_right (omega arith) ∙ sym (min-eq_right full))

-- the word itself isn't below the lesser of it and n
pub once_none : (c n : ℕ) → once_below c (min c n) ≡ 0
once_none c n =
    dite (dec_le c n) (λ le. ap (once_below c) (min-eq_left le) ∙ once_at c) (λ more. ap (once_below c) (min-eq_right (omega arith)) ∙ once_past c n (omega arith))
  where
    once_at : (m : ℕ) → once_below m m ≡ 0
    once_at m = grind (arith, nat_tests)

    once_past : (x m : ℕ) → m ≤ x → once_below x m ≡ 0
    once_past x m h = grind (arith, nat_tests)

once_wider : (x a b : ℕ) → a ≤ b → once_below x a ≤ once_below x b
once_wider x a b h = grind (arith, nat_tests)

-- how many members of the list are below the bound
below : ℕ → List ℕ → ℕ
below m [] = 0
below m (y ∷ ys) = once_below y m + below m ys

below_next : (m : ℕ) (xs : List ℕ) → below (m + 1) xs ≡ below m xs + times m xs
unfolding below
below_next m [] = omega arith
below_next m (y ∷ ys) = let r = below_next m ys in let one : once_below y (m + 1) ≡ once_below y m + cond (eqb y m) 1 0 = grind (arith, nat_tests) in omega arith

below_zero : (xs : List ℕ) → below 0 xs ≡ 0
unfolding below
below_zero [] = refl
below_zero (y ∷ ys) = let r = below_zero ys in let none : once_below y 0 ≡ 0 = grind (arith, nat_tests) in omega arith

once_le : (x m : ℕ) → once_below x m ≤ 1
once_le x m = one_le _

below_le : (m : ℕ) (xs : List ℕ) → ((x : ℕ) → times x xs ≤ 1) → below m xs ≤ m
below_le zero xs h = let z = below_zero xs in omega arith
below_le (suc m) xs h =
    let r = below_le m xs h in
    let next = below_next m xs in
    let one = h m in
    let same : below (suc m) xs ≡ below (m + 1) xs = ap (λ k. below k xs) (omega arith) in
    omega arith

times_head : (y : ℕ) (ys : List ℕ) → times y (y ∷ ys) ≡ 1 + times y ys
times_head y ys = let one : cond {A = ℕ} (eqb y y) 1 0 ≡ 1 = grind (arith, nat_tests) in omega arith

all_below : (m : ℕ) (xs : List ℕ) → ((x : ℕ) → times x xs ≤ once_below x m) → length xs ≤ below m xs
unfolding below
all_below m [] h = omega arith
all_below m (y ∷ ys) h =
    let r = all_below m ys (λ x. let here = h x in omega arith) in
    let here = h y in
    let head = times_head y ys in
    omega arith

-- a list with each number below m at most once, and no other, has at most m numbers
pub short : (m : ℕ) (xs : List ℕ) → ((x : ℕ) → times x xs ≤ once_below x m) → length xs ≤ m
short m xs h =
    let all = all_below m xs h in
    let few = below_le m xs (λ x. let one = once_le x m in let here = h x in omega arith) in
    omega arith

-- the same, of the numbers below the lesser of two bounds
pub short_of_min : (c n : ℕ) (xs : List ℕ) → ((x : ℕ) → times x xs ≤ once_below x (min c n)) → length xs ≤ n
short_of_min c n xs h =
    short n xs (λ x. let here = h x in let wide = once_wider x (min c n) n (min_le c n) in omega arith)
  where
    min_le : (a b : ℕ) → min a b ≤ b
    min_le a b = dite (dec_le a b) (λ le. subst (λ k. k ≤ b) (sym (min-eq_left le)) le) (λ more. subst (λ k. k ≤ b) (sym (min-eq_right (omega arith))) (omega arith))
