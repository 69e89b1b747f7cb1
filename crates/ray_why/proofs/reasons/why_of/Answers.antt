use Rattle.std.proofs.Common.{sym, subst}
use Rattle.std.specs.Prelude.{IfOk}
use Rattle.ray_why.specs.Reasons.{IsWhyIf}
use Rattle.ray_why.proofs.reasons.why_of.Goals as goal

pub returns-in-Ok : goal.returns-in-Ok
returns-in-Ok g c = subst (λ found. IfOk c.of_value.result (λ why. IsWhyIf why found)) (sym c.in-Ok.ensures.ok) c.of_value.ensures
