use Rattle.std.proofs.Common.{rules}
use Rattle.std.proofs.lemmas.List.{take_all}
use Rattle.ray_geom.proofs.LeastBoxes.{IsLeastOf-boxes}
use Rattle.ray_geom.proofs.box3.Box3.of_boxes.Goals as goal

pub returns-clause-least : goal.returns-clause-least
returns-clause-least c = (IsLeastOf-boxes c.args.boxes.now _ (search (rules, take_all))).0

pub returns-clause-none : goal.returns-clause-none
returns-clause-none c = (IsLeastOf-boxes c.args.boxes.now _ (search (rules, take_all))).1
