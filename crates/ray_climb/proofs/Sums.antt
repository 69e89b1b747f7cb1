-- Sums over views, and how often a leaf stands in a list.
use Rattle.std.proofs.Common.{◌≡◌, ◌≢◌, ℕ, zero, suc, ◌+◌, ◌<◌, ◌≤◌, Bool, true, false, cond, eqb, List, [], ◌∷◌, ◌++◌, set, take, drop, inl, inr, sym, refl, ap, subst, ⊎_elim, arith}
use Rattle.std.proofs.lemmas.Bool.Decides.{nat_tests}
use mathlib.Core.Option.{some, some-injective, some-ne-none}
use mathlib.Core.Logic.{dite}
use native.Mathlib.Decide.{ℕ_discrete}
use lib.ListN.{get_elem?}
use Rattle.atomic_table.proofs.Lists.{at_set, at_snoc}
use Rattle.ray_climb.specs.declared.rule.View.{View}
use Rattle.ray_climb.specs.Rule.{total, times}
use Rattle.ray_climb.specs.Steps.{without}
use Rattle.ray_climb.specs.Seats.{AreLeaves}
use Rattle.ray_tree.proofs.Counting.{either}
use Rattle.std.specs.List.{range_with_len}
use Rattle.std.proofs.lemmas.List.{take-append-drop}

-- a sum after a change of one view
pub total_set : (f : View → ℕ) (views : List View) (id : ℕ) (v w : View) → get_elem? views id ≡ some v
    → total f (set views id w) + f v ≡ total f views + f w
total_set f [] id v w at = absurd (some-ne-none v (sym at))
total_set f (x ∷ xs) zero v w at = let is : f x ≡ f v = ap f (some-injective x v at) in omega arith
total_set f (x ∷ xs) (suc id) v w at = let r = total_set f xs id v w at in omega arith

-- a sum after a view is added
pub total_snoc : (f : View → ℕ) (views : List View) (w : View) → total f (views ++ w ∷ []) ≡ total f views + f w
total_snoc f [] w = omega arith
total_snoc f (x ∷ xs) w = let r = total_snoc f xs w in omega arith

-- a view's part is at most the sum
pub part_le : (f : View → ℕ) (views : List View) (id : ℕ) (v : View) → get_elem? views id ≡ some v → f v ≤ total f views
part_le f [] id v at = absurd (some-ne-none v (sym at))
part_le f (x ∷ xs) zero v at = let is : f x ≡ f v = ap f (some-injective x v at) in omega arith
part_le f (x ∷ xs) (suc id) v at = let r = part_le f xs id v at in omega arith

-- a sum of nothing
pub total_none : (f : View → ℕ) (views : List View) → ((id : ℕ) (v : View) → get_elem? views id ≡ some v → f v ≡ 0) → total f views ≡ 0
total_none f [] h = refl
total_none f (x ∷ xs) h = let r = total_none f xs (λ id v at. h (suc id) v at) in let here = h 0 x refl in omega arith

-- a fact about each view after a change of one
pub each_set : (F : View → Type 0) (views : List View) (id : ℕ) (w : View) → F w → ((j : ℕ) (v : View) → get_elem? views j ≡ some v → F v)
    → (j : ℕ) (v : View) → get_elem? (set views id w) j ≡ some v → F v
each_set F views id w mine all j v at = ⊎_elim (λ t. subst F t.1 mine) (λ t. all j v t.1) (at_set views id j w v at)

-- the same where the others are known to be others
pub each_set_else : (F : View → Type 0) (views : List View) (id : ℕ) (w : View) → F w
    → ((j : ℕ) (v : View) → j ≢ id → get_elem? views j ≡ some v → F v)
    → (j : ℕ) (v : View) → get_elem? (set views id w) j ≡ some v → F v
each_set_else F views id w mine all j v at = ⊎_elim (λ t. subst F t.1 mine) (λ t. all j v t.0 t.1) (at_set views id j w v at)

-- and after one is added
pub each_snoc : (F : View → Type 0) (views : List View) (w : View) → F w → ((j : ℕ) (v : View) → get_elem? views j ≡ some v → F v)
    → (j : ℕ) (v : View) → get_elem? (views ++ w ∷ []) j ≡ some v → F v
each_snoc F views w mine all j v at = ⊎_elim (λ t. all j v t) (λ e. subst F e mine) (at_snoc views w v j at)

-- a test of two numbers
pub alike : (a b : ℕ) → a ≡ b → cond {A = ℕ} (eqb a b) 1 0 ≡ 1
alike a b e = grind (arith, nat_tests)

pub unlike : (a b : ℕ) → a ≢ b → cond {A = ℕ} (eqb a b) 1 0 ≡ 0
unlike a b ne = grind (arith, nat_tests)

pub times_append : (k : ℕ) (xs ys : List ℕ) → times k (xs ++ ys) ≡ times k xs + times k ys
times_append k [] ys = omega arith
times_append k (j ∷ js) ys = let r = times_append k js ys in omega arith

-- a list without a leaf has it once less, and all others as often
pub times_without : (k j : ℕ) (xs : List ℕ) → 0 < times j xs → times k (without j xs) + cond {A = ℕ} (eqb j k) 1 0 ≡ times k xs
times_without k j [] there = absurd (omega arith)
times_without k j (x ∷ xs) there = dite (ℕ_discrete x j)
    (λ e. subst (λ b. times k (cond b xs (x ∷ without j xs)) + cond {A = ℕ} (eqb j k) 1 0 ≡ times k (x ∷ xs)) (sym (eq_true x j e))
    (let same : cond {A = ℕ} (eqb x k) 1 0 ≡ cond {A = ℕ} (eqb j k) 1 0 = ap (λ z. cond {A = ℕ} (eqb z k) 1 0) e in omega arith))
    (λ ne. subst (λ b. times k (cond b xs (x ∷ without j xs)) + cond {A = ℕ} (eqb j k) 1 0 ≡ times k (x ∷ xs)) (sym (eq_false x j ne))
    (let no = unlike x j ne in let r = times_without k j xs (omega arith) in omega arith))
  where
    eq_true : (a b : ℕ) → a ≡ b → eqb a b ≡ true
    eq_true a b e = grind (arith, nat_tests)

    eq_false : (a b : ℕ) → a ≢ b → eqb a b ≡ false
    eq_false a b ne = grind (arith, nat_tests)

-- none more often
without_fewer : (k j : ℕ) (xs : List ℕ) → times k (without j xs) ≤ times k xs
without_fewer k j [] = omega arith
without_fewer k j (x ∷ xs) = by_test (eqb x j) (without_fewer k j xs)
  where
    by_test : (b : Bool) → times k (without j xs) ≤ times k xs → times k (cond b xs (x ∷ without j xs)) ≤ times k (x ∷ xs)
    by_test true r = omega arith
    by_test false r = omega arith

-- lists of leaf numbers
pub leaves_without : (n j : ℕ) (xs : List ℕ) → AreLeaves n xs → AreLeaves n (without j xs)
leaves_without n j xs are = record { each = λ k there. are.each k (let f = without_fewer k j xs in omega arith) }

pub leaves_take : (n i : ℕ) (xs : List ℕ) → AreLeaves n xs → AreLeaves n (take i xs)
leaves_take n i xs are =
    record { each = λ k there. are.each k (let s = times_append k (take i xs) (drop i xs) in let e = ap (times k) (take-append-drop i xs) in omega arith) }

pub leaves_drop : (n i : ℕ) (xs : List ℕ) → AreLeaves n xs → AreLeaves n (drop i xs)
leaves_drop n i xs are =
    record { each = λ k there. are.each k (let s = times_append k (take i xs) (drop i xs) in let e = ap (times k) (take-append-drop i xs) in omega arith) }

pub leaves_append : (n m : ℕ) (xs ys : List ℕ) → m ≡ n → AreLeaves n xs → AreLeaves m ys → AreLeaves n (xs ++ ys)
leaves_append n m xs ys same are also = record {
  each = λ k there. elim (either 0 (times k xs)) [
    | inl a ↦ are.each k a
    | inr b ↦ (let s = times_append k xs ys in let lt = also.each k (omega arith) in omega arith)
  ];
}

-- so is that of all leaves
pub leaves_range : (n : ℕ) → AreLeaves n (range_with_len 0 n)
leaves_range n = record { each = λ k there. let r = below k 0 n there in omega arith }
  where
    below : (k a n : ℕ) → 0 < times k (range_with_len a n) → k < a + n
    below k a zero there = absurd (omega arith)
    below k a (suc n) there = dite (ℕ_discrete a k) (λ e. omega arith)
        (λ ne. let z = unlike a k ne in let r = below k (a + 1) n (omega arith) in omega arith)
