use Rattle.std.proofs.Common.{suc, sym, subst}
use Rattle.ray_chains.specs.Keeping.{IsAll}
use Rattle.ray_chains.proofs.Keeping.{all-after}
use Rattle.ray_chains.proofs.table.Table.barrier_on_all.Goals as goal

pub returns : goal.returns
returns c = record {
  next = λ events source queue buffers is limited direct table.
      subst (IsAll events source queue (suc c.args.n)) (sym c.handed_if.ensures)
      (all-after events source queue c.args.n c.args.limited c.args.direct c.args.barrier.now c.args.self buffers is
      limited direct table);
}
