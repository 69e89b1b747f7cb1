use Rattle.std.proofs.Common.{ℕ, List, ◌≡◌, sym, subst}
use Rattle.ray_top.specs.Trees.{without_tree}
use Rattle.ray_serial.specs.Meaning.{IsForm}
use Rattle.ray_serial.specs.TopWritten.{top_form, AreNarrow}
use Rattle.ray_serial.proofs.TopBack.{IsForm-top_form, IfOk-both}
use Rattle.ray_serial.specs.Standing.{StandsFor}
use Rattle.ray_serial.proofs.TopStands.{StandsFor-top_form}
use Rattle.ray_serial.proofs.top_writing.serialize_top.Goals as goal

pub returns-clause-form : goal.returns-clause-form
returns-clause-form c = λ known.
    let t = (without_tree c.args.top.now) in
    let P : List ℕ → Type 0 = λ bytes. IsForm bytes in
    IfOk-both (λ v. v.items ≡ top_form t.contents) (λ v. IsForm v.items) (AreNarrow t.contents.instances) c.top_form.result
    (λ v e narrow. subst P (sym e) (IsForm-top_form t (record { is = c.len-len.ensures.limits; fits = narrow.each; known = known })))
    c.top_form.ensures.value c.top_form.ensures.narrow

pub returns-clause-stands : goal.returns-clause-stands
returns-clause-stands c = λ known.
    let t = (without_tree c.args.top.now) in
    let P : List ℕ → Type 0 = λ bytes. StandsFor t.contents bytes in
    IfOk-both (λ v. v.items ≡ top_form t.contents) (λ v. StandsFor t.contents v.items) (AreNarrow t.contents.instances) c.top_form.result
    (λ v e narrow. subst P (sym e) (StandsFor-top_form t (record { is = c.len-len.ensures.limits; fits = narrow.each; known = known })))
    c.top_form.ensures.value c.top_form.ensures.narrow
