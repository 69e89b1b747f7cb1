use Rattle.std.proofs.Common.{rules}
use Rattle.std.proofs.lemmas.List.{take_all}
use Rattle.ray_geom.proofs.LeastBoxes.{IsLeastOf-points}
use Rattle.ray_geom.proofs.box3.Box3.of_points.Goals as goal

pub returns-clause-least : goal.returns-clause-least
returns-clause-least c = (IsLeastOf-points c.args.points.now _ (search (rules, take_all))).0

pub returns-clause-none : goal.returns-clause-none
returns-clause-none c = (IsLeastOf-points c.args.points.now _ (search (rules, take_all))).1
