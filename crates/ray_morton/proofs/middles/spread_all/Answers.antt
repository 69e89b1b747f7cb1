use Rattle.std.proofs.Common.{arith}
use Rattle.ray_morton.proofs.Spread.{spread_all_is, spread_small}
use Rattle.ray_morton.proofs.middles.spread_all.Goals as goal

pub returns-clause-value : goal.returns-clause-value
returns-clause-value c = spread_all_is c.args.x c.spread_ten.result c.spread_ten-2.result c.spread_ten.ensures.value c.spread_ten-2.ensures.value

pub returns-clause-small : goal.returns-clause-small
returns-clause-small c = omega (arith, returns-clause-value c, spread_small 20 c.args.x)
