use Rattle.std.proofs.Common.{◌∙◌, ap}
use Rattle.std.specs.List.{list_any}
use Rattle.ray_valid.proofs.Seeing.{any-insert_key}
use Rattle.ray_valid.proofs.seen.put.Goals as goal

pub returns : goal.returns
returns c = λ test.
    ap (list_any test) c.in_ok-insert.ensures.keys ∙ any-insert_key test c.args.ids.now.keys c.args.id
