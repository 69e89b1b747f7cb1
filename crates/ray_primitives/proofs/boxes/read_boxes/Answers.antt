use Rattle.std.proofs.Common.{◌≡◌, Option, List, length}
use Rattle.std.specs.Prelude.{All}
use Rattle.ray_geom.specs.Boxes.{BoxValue}
use Rattle.ray_primitives.specs.Primitives.{IsAabb}
use Rattle.ray_primitives.proofs.Results.{IfOk-Gives}
use Rattle.ray_primitives.proofs.BoxLimits.{AreRead-boxes_read}
use Rattle.ray_primitives.proofs.boxes.read_boxes.Goals as goal

pub returns-clause-count : goal.returns-clause-count
returns-clause-count c =
    IfOk-Gives (λ (kept : List (Option BoxValue)). length kept ≡ c.args.info.now.count) _ c.read.result c.read.ensures
    (λ kept e. (AreRead-boxes_read c.args.info.now _ _ _ kept e).as_many)

pub returns-clause-limits : goal.returns-clause-limits
returns-clause-limits c =
    IfOk-Gives (λ (kept : List (Option BoxValue)). All IsAabb kept) _ c.read.result c.read.ensures
    (λ kept e. (AreRead-boxes_read c.args.info.now _ _ _ kept e).each)
