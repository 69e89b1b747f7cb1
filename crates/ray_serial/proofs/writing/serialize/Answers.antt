use Rattle.std.proofs.Common.{subst, sym, ap, ◌∙◌, ℕ, List, ◌≡◌, Some}
use Rattle.ray_bottom.specs.Trees.{without_tree}
use Rattle.ray_serial.specs.Meaning.{IsForm, bottom_in}
use Rattle.ray_serial.specs.Written.{bottom_form}
use Rattle.ray_serial.proofs.BottomForms.{IfOk-then, IsForm-bottom_form, bottom_in-bottom_form}
use Rattle.ray_serial.proofs.writing.serialize.Goals as goal

pub returns-clause-form : goal.returns-clause-form
returns-clause-form c = λ known.
    let P : List ℕ → Type 0 = λ bytes. IsForm bytes in
    IfOk-then (λ v. v.items ≡ bottom_form (without_tree c.args.bottom.now)) (λ v. IsForm v.items) c.bottom_form.result
    (λ v e. subst P (sym e) (IsForm-bottom_form (without_tree c.args.bottom.now) c.geometries-geometries.ensures.limits known)) c.bottom_form.ensures

pub returns-clause-stands : goal.returns-clause-stands
returns-clause-stands c = λ known.
    IfOk-then (λ v. v.items ≡ bottom_form (without_tree c.args.bottom.now)) (λ v. bottom_in v.items ≡ Some (without_tree c.args.bottom.now)) c.bottom_form.result
    (λ v e. ap bottom_in e ∙ bottom_in-bottom_form (without_tree c.args.bottom.now) c.geometries-geometries.ensures.limits known) c.bottom_form.ensures
