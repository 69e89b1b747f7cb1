use Rattle.std.proofs.Common.{◌∙◌, arith}
use Rattle.ray_stated.proofs.Sides.{axis_is, far_is, reach_holds}
use Rattle.ray_stated.proofs.reach.reach_of.Goals as goal

pub returns-clause-axis : goal.returns-clause-axis
returns-clause-axis c =
    c.reach_by.ensures.axis
    ∙ axis_is c.args.entries.now c.sides_of-sides.result c.way-x.result c.way-y.result c.way-z.result c.widest_axis-axis.result
    c.sides_of-sides.ensures c.way-x.ensures c.way-y.ensures c.way-z.ensures c.widest_axis-axis.ensures.value

pub returns-clause-far : goal.returns-clause-far
returns-clause-far c =
    c.reach_by.ensures.far
    ∙ far_is c.args.entries.now c.sides_of-sides.result c.way-x.result c.way-y.result c.way-z.result _
    c.sides_of-sides.ensures c.way-x.ensures c.way-y.ensures c.way-z.ensures (omega arith)

pub returns-clause-within : goal.returns-clause-within
returns-clause-within c =
    reach_holds c.args.entries.now c.sides_of-sides.result c.along.result c.widest_axis-axis.result c.reach_by.result
    c.sides_of-sides.ensures c.widest_axis-axis.ensures.axis c.along.ensures c.reach_by.ensures.axis c.reach_by.ensures.lo c.reach_by.ensures.hi c.requires
