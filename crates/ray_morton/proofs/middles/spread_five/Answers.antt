use Rattle.std.proofs.Common.{refl, arith}
use Rattle.ray_morton.proofs.Spread.{table_at, spread_small}
use Rattle.ray_morton.proofs.middles.spread_five.Goals as goal

pub returns-clause-value : goal.returns-clause-value
returns-clause-value c = table_at _ c.args.x 0 c.requires refl

pub returns-clause-small : goal.returns-clause-small
returns-clause-small c = omega (arith, returns-clause-value c, spread_small 5 c.args.x)
