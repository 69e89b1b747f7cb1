use Rattle.std.proofs.Common.{rules, arith}
use Rattle.std.proofs.lemmas.Nat.Gcd.{IsGcd-from_zero}
use Rattle.ray_geom.proofs.Odd.{IsGcd-one}
use Rattle.ray_geom.proofs.gcd.gcd_of_odd.Goals as goal

pub returns-then-a-eq1 : goal.returns-then-a-eq1
returns-then-a-eq1 c = c.loop-b.invariant.1 1 (IsGcd-one c.loop-b.a c.loop-b.b (search rules))

pub returns : goal.returns
returns c = c.loop-b.invariant.1 c.loop-b.a (IsGcd-from_zero c.loop-b.a c.loop-b.b (omega arith))
