use Rattle.std.proofs.Common.{ℕ, ◌≡◌, ◌%◌, ◌+◌}
use Rattle.std.specs.Int.{IsGcd}
use Rattle.ray_geom.proofs.gcd.gcd_of_odd.Given as goal

-- the first is odd, and what divides both is what divides the two numbers that were passed
abbrev pub invariant-loop-b : goal.invariant-loop-b
invariant-loop-b l = (l.a % 2 ≡ 1) × ((g : ℕ) → IsGcd l.a l.b g → IsGcd l.x l.y g)

abbrev pub decreases-loop-b : goal.decreases-loop-b
decreases-loop-b l = l.a + l.b
