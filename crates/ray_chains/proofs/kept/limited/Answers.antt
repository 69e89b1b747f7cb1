use Rattle.std.proofs.Common.{suc, sym, subst, Some}
use Rattle.ray_chains.specs.declared.kept.Override.{Override}
use Rattle.ray_chains.specs.Keeping.{IsKept}
use Rattle.ray_chains.proofs.Keeping.{kept-after}
use Rattle.ray_chains.proofs.kept.limited.Goals as goal

pub returns : goal.returns
returns c = record {
  kept = λ acts events source queue buffers acting all kept are is on direct.
      subst (λ (over : Override). IsKept acts events source queue (suc c.args.n) (Some over))
      (sym c.override_after.ensures)
      (kept-after acts events source queue c.args.n c.args.all.now c.args.kept.now c.args.chains.now c.args.direct
      c.args.barrier.now buffers acting all kept are is on direct);
}
