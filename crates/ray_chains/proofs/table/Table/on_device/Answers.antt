use Rattle.std.proofs.Common.{suc, sym, subst}
use Rattle.ray_chains.specs.Keeping.{IsTable}
use Rattle.ray_chains.specs.Queues.{steps}
use Rattle.ray_chains.proofs.Tables.{table-wait, table-begin}
use Rattle.ray_chains.proofs.table.Table.on_device.Goals as goal

pub returns-clause-wait : goal.returns-clause-wait
returns-clause-wait c acts events source queue is on table =
    subst (IsTable acts (steps events source) queue (suc c.args.number)) (sym c.device.ensures)
    (table-wait acts events source queue c.args.number c.args.self is on table)

pub returns-clause-begin : goal.returns-clause-begin
returns-clause-begin c acts events source queue n waits is on number table =
    subst (IsTable acts (steps events source) queue (suc n)) (sym c.device.ensures)
    (table-begin acts events source queue n c.args.number c.args.self waits is on number table)
