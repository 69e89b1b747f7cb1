use Rattle.std.proofs.Common.{subst, sym}
use Rattle.ray_chains.specs.Keeping.{IsKept}
use Rattle.ray_hazards.proofs.Carrying.{kept-thing}
use Rattle.ray_hazards.proofs.carried.Carried.limit.Goals as goal

pub returns : goal.returns
returns c = λ a source queue n are is chains.
    let thing = c.args.thing in
    c.limit.ensures.front (a.acts thing) a.events source queue n (are.over thing) is.all
    (subst (IsKept (a.acts thing) a.events source queue n) (sym c.kept.ensures)
    (kept-thing a source queue n c.args.self.now thing are is))
    chains
