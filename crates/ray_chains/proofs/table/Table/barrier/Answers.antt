use Rattle.std.proofs.Common.{suc, sym, subst}
use Rattle.ray_chains.specs.Keeping.{IsTable}
use Rattle.ray_chains.specs.Queues.{steps}
use Rattle.ray_chains.proofs.Tables.{table-barrier}
use Rattle.ray_chains.proofs.table.Table.barrier.Goals as goal

pub returns-clause-next : goal.returns-clause-next
returns-clause-next c acts events source queue buffers is on direct table =
    subst (IsTable acts (steps events source) queue (suc c.args.n)) (sym c.handed.ensures)
    (table-barrier acts events source queue c.args.n c.args.direct c.args.barrier.now c.args.self buffers is on direct
    table)
