use Rattle.std.proofs.Common.{suc, sym, subst}
use Rattle.ray_chains.specs.Keeping.{AreChains}
use Rattle.ray_chains.proofs.Keeping.{chains-begin}
use Rattle.ray_chains.proofs.chains.Chains.begin.Goals as goal

pub returns : goal.returns
returns c = record {
  next = λ events queue waits stage access is number are.
      subst (AreChains events queue (suc c.args.n)) (sym c.on_device.ensures)
      (chains-begin events queue c.args.n c.args.number c.args.self waits stage access is number are);
}
