use Rattle.std.proofs.Common.{ℕ, List, ◌≡◌, sym, subst}
use Rattle.ray_serial.specs.TopWritten.{IsRising}
use Rattle.ray_serial.proofs.BottomForms.{IfOk-then}
use Rattle.ray_serial.proofs.handles.handles_of.Goals as goal

pub returns-clause-rising : goal.returns-clause-rising
returns-clause-rising c =
    let P : List ℕ → Type 0 = λ handles. IsRising handles in
    IfOk-then (λ v. v.items ≡ c.in_ok-noted.noted.keys) (λ v. IsRising v.items) c.listed.result (λ v e. subst P (sym e) c.listed.ensures.rising) c.listed.ensures.value
