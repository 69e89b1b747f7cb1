use Rattle.std.proofs.Common.{ap, ◌∙◌}
use Rattle.ray_slabs.specs.Rows.{high_row}
use Rattle.ray_slabs.proofs.Lanes.{div-ok, high-is, narrow-ok, rem-ok}
use Rattle.ray_slabs.proofs.rows.high_row.Goals as goal

pub nonzero_div-result : goal.nonzero_div-result
nonzero_div-result c = div-ok 8 _

pub nonzero_rem-result : goal.nonzero_rem-result
nonzero_rem-result c = rem-ok 8 _

pub overflow_cast-result : goal.overflow_cast-result
overflow_cast-result c = narrow-ok 8 _

pub returns : goal.returns
returns c = high-is 8 c.from.result c.args.planes c.requires ∙ ap (λ f. high_row c.args.planes f) c.from.ensures
