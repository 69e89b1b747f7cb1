use Rattle.std.proofs.Common.{rules}
use Rattle.ray_geom.proofs.LeastBoxes.{IsLeast-is_tri}
use Rattle.ray_geom.proofs.tri.Tri.bounds.Goals as goal

pub returns-clause-least : goal.returns-clause-least
returns-clause-least c = IsLeast-is_tri c.args.self.now c.with_point-2.result (search rules)
