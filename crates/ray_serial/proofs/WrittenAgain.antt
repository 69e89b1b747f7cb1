-- What is written in form 2 is read and written again as it is.
use Rattle.std.proofs.Common.{ℕ, ◌≡◌, ◌<◌, ◌&&◌, Bool, true, false, List, Some, refl, sym, ap, ◌∙◌}
use Rattle.ray_geometries.specs.Contents.{ContentsValue, IsContents}
use Rattle.ray_bottom.specs.Trees.{without_tree, items_of}
use Rattle.ray_stated.specs.Stated.{stated_tree}
use Rattle.ray_tree_part.specs.TreeParts.{IsReadAgain}
use Rattle.ray_form.specs.Form.{broken_line, has_tree}
use Rattle.ray_serial.specs.Meaning.{bottom_in, tree_in_form, lacks_its_tree, opening}
use Rattle.ray_serial.specs.Written.{bottom_form_2}
use Rattle.ray_serial.specs.WrittenAgain.{IsWrittenAgain}
use Rattle.ray_serial.proofs.Form2Back.{IsForm-bottom_form_2, bottom_in-bottom_form_2, tree_in-bottom_form_2}
use Rattle.ray_serial.proofs.Form2Restored.{lacks_by}

and_false : (b : Bool) → (b && false) ≡ false
and_false true = refl
and_false false = refl

not_both : (b : Bool) → b ≡ false → b ≡ true → ⊥
not_both true e f = absurd cc
not_both false e f = absurd cc

some_id : (c d : ContentsValue) → Some c ≡ Some d → c ≡ d
some_id c d e = cc

pub written_again : (c : ContentsValue) (bytes : List ℕ) → IsContents c → c.flags.0 < 32 → IsReadAgain (stated_tree (items_of c.geometries))
    → bytes ≡ bottom_form_2 c → IsWrittenAgain bytes
written_again c bytes is known again e =
    let tree = stated_tree (items_of c.geometries) in
    let found : bottom_in bytes ≡ Some c = ap bottom_in e ∙ bottom_in-bottom_form_2 c is known in
    let carried : tree_in_form bytes ≡ Some tree = ap tree_in_form e ∙ tree_in-bottom_form_2 c is known again in
    let lacks : lacks_its_tree bytes ≡ false = lacks_by bytes (has_tree bytes) (Some tree) refl carried ∙ and_false (has_tree bytes) in
    record {
      opens = ap (opening bytes) (ap broken_line e ∙ (IsForm-bottom_form_2 c is known again).unbroken);
      carries = λ none. not_both (lacks_its_tree bytes) lacks none;
      same = λ b stands. ap bottom_form_2 (sym (some_id c (without_tree b) (sym found ∙ stands.0.0))) ∙ sym e;
    }
