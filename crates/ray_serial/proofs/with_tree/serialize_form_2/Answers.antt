use Rattle.std.proofs.Common.{List, ℕ, ◌≡◌, Some, subst, sym, ap, ◌∙◌}
use Rattle.ray_bottom.specs.Trees.{without_tree, items_of}
use Rattle.ray_stated.specs.Stated.{stated_tree}
use Rattle.ray_tree_part.specs.TreeParts.{IsReadAgain}
use Rattle.ray_serial.specs.Meaning.{IsForm, bottom_in, tree_in_form}
use Rattle.ray_serial.specs.Written.{bottom_form_2}
use Rattle.ray_serial.specs.WrittenAgain.{IsWrittenAgain}
use Rattle.ray_serial.proofs.BottomForms.{IfOk-then}
use Rattle.ray_serial.proofs.Form2Back.{IfOk-with, IsForm-bottom_form_2, bottom_in-bottom_form_2, tree_in-bottom_form_2}
use Rattle.ray_serial.proofs.WrittenAgain.{written_again}
use Rattle.ray_serial.proofs.with_tree.serialize_form_2.Goals as goal

pub returns-clause-form : goal.returns-clause-form
returns-clause-form c = λ known.
    let b = without_tree c.args.bottom.now in
    let P : List ℕ → Type 0 = λ bytes. IsForm bytes in
    IfOk-with (λ v. v.items ≡ bottom_form_2 b) (IsReadAgain (stated_tree (items_of b.geometries))) (λ v. IsForm v.items) c.bottom_form_2.result
    (λ v e again. subst P (sym e) (IsForm-bottom_form_2 b c.geometries-geometries.ensures.limits known again)) c.bottom_form_2.ensures.value
    c.bottom_form_2.ensures.again

pub returns-clause-stands : goal.returns-clause-stands
returns-clause-stands c = λ known.
    let b = without_tree c.args.bottom.now in
    IfOk-then (λ v. v.items ≡ bottom_form_2 b) (λ v. bottom_in v.items ≡ Some b) c.bottom_form_2.result
    (λ v e. ap bottom_in e ∙ bottom_in-bottom_form_2 b c.geometries-geometries.ensures.limits known) c.bottom_form_2.ensures.value

pub returns-clause-tree : goal.returns-clause-tree
returns-clause-tree c = λ known.
    let b = without_tree c.args.bottom.now in
    IfOk-with (λ v. v.items ≡ bottom_form_2 b) (IsReadAgain (stated_tree (items_of b.geometries)))
    (λ v. tree_in_form v.items ≡ Some (stated_tree (items_of b.geometries))) c.bottom_form_2.result
    (λ v e again. ap tree_in_form e ∙ tree_in-bottom_form_2 b c.geometries-geometries.ensures.limits known again) c.bottom_form_2.ensures.value
    c.bottom_form_2.ensures.again

pub returns-clause-again : goal.returns-clause-again
returns-clause-again c = λ known.
    let b = without_tree c.args.bottom.now in
    IfOk-with (λ v. v.items ≡ bottom_form_2 b) (IsReadAgain (stated_tree (items_of b.geometries))) (λ v. IsWrittenAgain v.items) c.bottom_form_2.result
    (λ v e again. written_again b v.items c.geometries-geometries.ensures.limits known again e) c.bottom_form_2.ensures.value
    c.bottom_form_2.ensures.again
