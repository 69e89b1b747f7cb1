use Rattle.std.proofs.Common.{suc, sym, subst}
use Rattle.ray_chains.specs.Keeping.{AreChains}
use Rattle.ray_chains.proofs.Keeping.{chains-wait}
use Rattle.ray_chains.proofs.chains.Chains.wait.Goals as goal

pub returns : goal.returns
returns c = record {
  next = λ events queue is are.
      subst (AreChains events queue (suc c.args.n)) (sym c.on_device.ensures)
      (chains-wait events queue c.args.n c.args.self is are);
}
