use Rattle.std.proofs.Common.{suc, sym, subst}
use Rattle.ray_chains.specs.Keeping.{AreChains}
use Rattle.ray_chains.proofs.Keeping.{chains-after}
use Rattle.ray_chains.proofs.chains.Chains.barrier.Goals as goal

pub returns : goal.returns
returns c = record {
  next = λ events queue buffers is limited are.
      subst (AreChains events queue (suc c.args.n)) (sym c.led_on.ensures)
      (chains-after events queue c.args.n c.args.limited c.args.barrier.now c.args.self buffers is limited are);
}
