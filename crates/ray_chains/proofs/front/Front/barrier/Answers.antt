use Rattle.std.proofs.Common.{suc, sym, subst}
use Rattle.ray_chains.specs.Keeping.{IsFront}
use Rattle.ray_chains.specs.Queues.{steps}
use Rattle.ray_chains.proofs.Tables.{front-barrier}
use Rattle.ray_chains.proofs.front.Front.barrier.Goals as goal

pub returns : goal.returns
returns c = record {
  next = λ acts events source queue buffers is on direct front.
      subst (IsFront acts (steps events source) queue (suc c.args.n)) (sym c.handed.ensures)
      (front-barrier acts events source queue c.args.n c.args.direct c.args.barrier.now c.args.self buffers is on
      direct front);
}
