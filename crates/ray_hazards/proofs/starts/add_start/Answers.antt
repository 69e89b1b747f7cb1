use Rattle.std.proofs.Common.{◌∙◌, ap}
use Rattle.std.specs.List.{list_any}
use Rattle.ray_hazards.proofs.Starting.{any-insert}
use Rattle.ray_hazards.proofs.starts.add_start.Goals as goal

pub returns : goal.returns
returns c = λ test. ap (list_any test) c.in_ok-insert.ensures.keys ∙ any-insert test c.args.set.now.keys c.args.start
