use Rattle.std.proofs.Common.{arith}
use Rattle.ray_geom.proofs.Odd.{IsGcd-kept, IsGcd-kept_back}
use Rattle.ray_geom.proofs.gcd.lessened.Goals as goal

pub returns-then-odd-a-clause-same : goal.returns-then-odd-a-clause-same
returns-then-odd-a-clause-same c = IsGcd-kept_back _ c.args.a c.args.b c.odd_part-odd.result c.requires.odd c.odd_part-odd.ensures.parts (omega arith)

pub returns-else-odd-a-clause-same : goal.returns-else-odd-a-clause-same
returns-else-odd-a-clause-same c = IsGcd-kept _ c.args.a c.args.b c.odd_part-odd.result c.requires.odd c.odd_part-odd.ensures.parts (omega arith)
