-- The bottom structure of a form, with the tree that a form 2 carries.
use Rattle.std.proofs.Common.{ℕ, ◌≡◌, ◌&&◌, Bool, true, false, List, Result, Ok, Err, Option, Some, None, option_map, refl, sym, ap, ◌∙◌}
use Rattle.std.specs.Prelude.{IfOk, IfErr, is_none}
use Rattle.ray_geom.specs.Boxes.{BoxValue}
use Rattle.ray_geometries.specs.Contents.{ContentsValue}
use Rattle.ray_tree.specs.Trees.{TreeValue}
use Rattle.ray_tree_part.specs.TreeParts.{tree_in}
use Rattle.ray_bottom.specs.Trees.{BottomWithTree, without_tree, items_of}
use Rattle.ray_form.specs.Rows.{geometries_in}
use Rattle.ray_form.specs.Form.{has_tree, tree_part_in, payload_in, flags_of_payload, geometry_count, row_of}
use Rattle.ray_serial.specs.declared.stored_fault.StoredFault.{StoredFault}
use Rattle.ray_serial.specs.declared.stored_fault.StoredFault.TheVariants.{BadTree, NoMemory}
use Rattle.ray_serial.specs.Meaning.{with_flags, bottom_in_payload, bottom_in, tree_over, tree_in_form, lacks_its_tree, IsToBottom, IsRestored}

-- ---- a builder's contents

over_some : (c : ContentsValue) (part : List ℕ) → tree_over (Some c) part ≡ tree_in (items_of c.geometries) part
unfolding tree_over
over_some c part = refl

pub ended_restored : (c : ContentsValue) (items : List (Option BoxValue)) (part : List ℕ) (tree : TreeValue) (r : Result BottomWithTree StoredFault) → items ≡ items_of c.geometries
    → tree_in items part ≡ Some tree → IfOk r (λ b. without_tree b ≡ c) → IfOk r (λ b. b.tree ≡ tree) → IfErr r (λ fault. fault ≡ NoMemory) → IsRestored (Some c) part r
ended_restored c items part tree (Ok b) are found contents same fault =
    (ap Some (sym contents), over_some c part ∙ (ap (λ xs. tree_in xs part) (sym are) ∙ (found ∙ ap Some (sym same))))
ended_restored c items part tree (Err BadTree) are found contents same fault = absurd cc
ended_restored c items part tree (Err NoMemory) are found contents same fault = tt

pub none_restored : (c : ContentsValue) (items : List (Option BoxValue)) (part : List ℕ) → items ≡ items_of c.geometries → tree_in items part ≡ None → tree_over (Some c) part ≡ None
none_restored c items part are none = over_some c part ∙ (ap (λ xs. tree_in xs part) (sym are) ∙ none)

-- ---- a form 2

pub lacks_by : (bytes : List ℕ) (tree : Bool) (found : Option TreeValue) → has_tree bytes ≡ tree → tree_in_form bytes ≡ found → lacks_its_tree bytes ≡ (tree && is_none found)
unfolding lacks_its_tree
lacks_by bytes tree found p q = λ i. p i && is_none (q i)

over_is : (bytes : List ℕ) (found : Option ContentsValue) (part : List ℕ) → found ≡ bottom_in bytes → part ≡ tree_part_in bytes → tree_in_form bytes ≡ tree_over found part
unfolding tree_in_form
over_is bytes found part p q = λ i. tree_over (sym p i) (sym q i)

pub with_tree_to_bottom : (bytes : List ℕ) (found : Option ContentsValue) (part : List ℕ) (r : Result BottomWithTree StoredFault) → found ≡ bottom_in bytes → part ≡ tree_part_in bytes
    → has_tree bytes ≡ true → IsRestored found part r → IsToBottom bytes r
with_tree_to_bottom bytes found part (Ok b) p q tree is =
    let there = over_is bytes found part p q ∙ is.1 in
    ((sym p ∙ is.0, λ same. there), lacks_by bytes true (Some b.tree) tree there)
with_tree_to_bottom bytes found part (Err BadTree) p q tree is = lacks_by bytes true None tree (over_is bytes found part p q ∙ is)
with_tree_to_bottom bytes found part (Err NoMemory) p q tree is = tt

-- the contents as they are read
pub found_is : (bytes : List ℕ) → option_map (with_flags (flags_of_payload (payload_in bytes))) (geometries_in (geometry_count (payload_in bytes)) (row_of (payload_in bytes)))
    ≡ bottom_in bytes
unfolding bottom_in_payload
found_is bytes = refl

-- ---- a form 1

no_tree : (bytes : List ℕ) (tree : TreeValue) → has_tree bytes ≡ false → has_tree bytes ≡ true → tree_in_form bytes ≡ Some tree
no_tree bytes tree p q = absurd cc

pub plain_lacks : (bytes : List ℕ) → has_tree bytes ≡ false → lacks_its_tree bytes ≡ false
plain_lacks bytes plain = lacks_by bytes false (tree_in_form bytes) plain refl

pub plain_to_bottom : (bytes : List ℕ) (b : BottomWithTree) → has_tree bytes ≡ false → bottom_in bytes ≡ Some (without_tree b) → IsToBottom bytes (Ok b)
plain_to_bottom bytes b plain is = ((is, no_tree bytes b.tree plain), plain_lacks bytes plain)
