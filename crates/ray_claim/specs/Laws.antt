-- What the claim rule says of a number and of two seats, at any moment. (Own.)
use Rattle.std.specs.Prelude.{◌≡◌, ℕ, ◌+◌, ◌<◌, ◌≤◌, List}
use mathlib.Core.Option.{some}
use lib.ListN.{get_elem?}
use Rattle.ray_claim.specs.declared.rule.View.{View}
use Rattle.ray_claim.specs.Rule.{total, times, IsClaimed}

-- each number below n stands in no list while the word is at most this number, and from then on
-- once in all lists together
abbrev pub GivenOnce : Type 0
GivenOnce = (n c : ℕ) (views : List View) → IsClaimed n c views → (k : ℕ) → k < n
    → (c ≤ k → total (λ v. times k v.drawn) views ≡ 0)
    × (k < c → total (λ v. times k v.drawn) views ≡ 1)

-- two seats have no number in common, and neither has one twice
abbrev pub DrawnApart : Type 0
DrawnApart = (n c : ℕ) (views : List View) → IsClaimed n c views
    → (one other : ℕ) (v w : View) → ¬ (one ≡ other)
    → get_elem? views one ≡ some v → get_elem? views other ≡ some w
    → (k : ℕ) → times k v.drawn + times k w.drawn ≤ 1
