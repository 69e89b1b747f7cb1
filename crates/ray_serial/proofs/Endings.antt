-- How a form ends: form 1 with its elements, and form 2, which is that of no top structure, with a tree part.
use Rattle.std.proofs.Common.{ℕ, ◌≡◌, ◌&&◌, ◌||◌, not, Bool, true, false, List, refl, ap}
use Rattle.ray_tree_part.specs.TreeParts.{is_part}
use Rattle.ray_form.specs.Form.{has_tree, payload_in, tree_part_in, is_top_payload, ends_wrongly}
use Rattle.ray_serial.specs.Meaning.{KeepsLines, is_top_form}

-- a form 1 ends well
pub plain_ends : (bytes : List ℕ) → has_tree bytes ≡ false → ends_wrongly bytes ≡ false
unfolding ends_wrongly
plain_ends bytes plain = ap (λ tree. tree && (is_top_payload (payload_in bytes) || not (is_part (tree_part_in bytes)))) plain

no_tree : (tree top part : Bool) → (tree && (top || not part)) ≡ false → top ≡ true → tree ≡ false
no_tree true true part e is = absurd cc
no_tree true false part e is = absurd cc
no_tree false top part e is = refl

is_one : (tree top part : Bool) → (tree && (top || not part)) ≡ false → tree ≡ true → part ≡ true
is_one true true part e is = absurd cc
is_one true false true e is = refl
is_one true false false e is = absurd cc
is_one false top part e is = absurd cc

-- that of a top structure is a form 1
pub plain_top : (bytes : List ℕ) → KeepsLines bytes → is_top_form bytes ≡ true → has_tree bytes ≡ false
unfolding ends_wrongly
plain_top bytes k top = no_tree (has_tree bytes) (is_top_payload (payload_in bytes)) (is_part (tree_part_in bytes)) k.ending top

-- a form 2 ends in a tree part
pub part_there : (bytes : List ℕ) → KeepsLines bytes → has_tree bytes ≡ true → is_part (tree_part_in bytes) ≡ true
unfolding ends_wrongly
part_there bytes k tree = is_one (has_tree bytes) (is_top_payload (payload_in bytes)) (is_part (tree_part_in bytes)) k.ending tree
