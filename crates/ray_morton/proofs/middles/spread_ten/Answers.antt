use Rattle.std.proofs.Common.{arith}
use Rattle.ray_morton.proofs.Spread.{spread_ten_is, spread_small}
use Rattle.ray_morton.proofs.middles.spread_ten.Goals as goal

pub returns-clause-value : goal.returns-clause-value
returns-clause-value c = spread_ten_is c.args.x c.spread_five.result c.spread_five-2.result c.spread_five.ensures.value c.spread_five-2.ensures.value

pub returns-clause-small : goal.returns-clause-small
returns-clause-small c = omega (arith, returns-clause-value c, spread_small 10 c.args.x)
