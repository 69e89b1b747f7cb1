-- Two seats have no number in common.
use Rattle.std.proofs.Common.{◌≡◌, ℕ, zero, suc, ◌+◌, ◌≤◌, min, List, [], ◌∷◌, sym, refl, ap, arith}
use Rattle.std.proofs.lemmas.Bool.Decides.{nat_tests}
use mathlib.Core.Option.{some, some-injective, some-ne-none}
use lib.ListN.{get_elem?}
use Rattle.ray_claim.specs.declared.rule.View.{View}
use Rattle.ray_claim.specs.Rule.{total, times, once_below}
use Rattle.ray_claim.specs.Laws.{DrawnApart}
use Rattle.ray_claim.proofs.Sums.{part_le}

once_at_most : (k m : ℕ) → once_below k m ≤ 1
once_at_most k m = grind (arith, nat_tests)

-- two views' parts together are at most the sum
two_parts : (f : View → ℕ) (views : List View) (one other : ℕ) (v w : View) → ¬ (one ≡ other) → get_elem? views one ≡ some v → get_elem? views other ≡ some w
    → f v + f w ≤ total f views
two_parts f [] one other v w apart at there = absurd (some-ne-none v (sym at))
two_parts f (x ∷ xs) zero zero v w apart at there = absurd (apart refl)
two_parts f (x ∷ xs) zero (suc other) v w apart at there =
    let is : f x ≡ f v = ap f (some-injective x v at) in let r = part_le f xs other w there in omega arith
two_parts f (x ∷ xs) (suc one) zero v w apart at there =
    let is : f x ≡ f w = ap f (some-injective x w there) in let r = part_le f xs one v at in omega arith
two_parts f (x ∷ xs) (suc one) (suc other) v w apart at there =
    let r = two_parts f xs one other v w (λ e. apart (ap suc e)) at there in omega arith

pub drawn_apart : DrawnApart
drawn_apart n c views r one other v w apart at there k =
    let both = two_parts (λ u. times k u.drawn) views one other v w apart at there in
    let all = r.each_once k in
    let least = once_at_most k (min c n) in
    omega arith
