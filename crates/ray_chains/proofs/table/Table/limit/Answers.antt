use Rattle.std.proofs.Common.{◌∙◌, nat_lt, ap, sym}
use Rattle.ray_chains.proofs.Tables.{table-tells}
use Rattle.ray_chains.proofs.table.Table.limit.Goals as goal

pub returns-clause-tells : goal.returns-clause-tells
returns-clause-tells c acts steps queue n i is =
    table-tells c.args.self c.args.stage c.args.access acts steps queue n i is ∙ ap (nat_lt i) (sym c.visible_at.ensures)
