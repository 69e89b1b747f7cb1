use Rattle.std.proofs.Common.{◌∙◌}
use Rattle.ray_slabs.specs.AxisRows.{near_row}
use Rattle.ray_slabs.proofs.PerLane.{near-is}
use Rattle.ray_slabs.proofs.eights.near8.Goals as goal

pub returns : goal.returns
returns c =
    near-is c.args.axis c.requires c.near_row.ensures.fit c.args.lo.now c.args.hi.now c.planes_row.ensures.long c.planes_row-2.ensures.long c.near_row.result
    (c.near_row.ensures.value ∙ (λ i. near_row c.args.axis (c.planes_row.ensures.planes i) (c.planes_row-2.ensures.planes i)))
