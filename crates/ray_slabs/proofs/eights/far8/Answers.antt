use Rattle.std.proofs.Common.{◌∙◌}
use Rattle.ray_slabs.specs.AxisRows.{far_row}
use Rattle.ray_slabs.proofs.PerLane.{far-is}
use Rattle.ray_slabs.proofs.eights.far8.Goals as goal

pub returns : goal.returns
returns c =
    far-is c.args.axis c.requires c.far_row.ensures.fit c.args.lo.now c.args.hi.now c.planes_row.ensures.long c.planes_row-2.ensures.long c.far_row.result
    (c.far_row.ensures.value ∙ (λ i. far_row c.args.axis (c.planes_row.ensures.planes i) (c.planes_row-2.ensures.planes i)))
