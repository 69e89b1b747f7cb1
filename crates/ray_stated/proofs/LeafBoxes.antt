-- The box of a leaf is the least box of its items.
use Rattle.std.proofs.Common.{◌≡◌, ◌∙◌, ◌+◌, ◌<◌, ◌≤◌, ◌++◌, ℕ, Option, Some, None, List, [], ◌∷◌, length, take, drop, refl, sym, ap, arith, length-drop, length-take-le}
use Rattle.std.specs.Prelude.{◌↔◌, IfSome, is_some, if◌then◌else◌, unwrap_or}
use Rattle.std.specs.Option.{option_to_list}
use Rattle.std.specs.List.{All}
use Rattle.std.proofs.lemmas.List.Elements.{All-head, All-take, All-drop}
use Rattle.ray_geom.specs.Boxes.{BoxValue}
use Rattle.ray_geom.specs.LeastBoxes.{HoldsBoxes, IsLeast, box_of_boxes}
use Rattle.ray_geom.proofs.LeastBoxes.{IsLeastOf-boxes}
use Rattle.ray_tree.specs.Trees.{item_box, boxes_of, boxes_in, active}
use Rattle.ray_tree.specs.Local.{IsActive}
use Rattle.ray_tree.specs.Trees.{no_box}
use Rattle.ray_stated.specs.Stated.{leaf_box}

-- active items have boxes
some_box : (items : List (Option BoxValue)) (ps : List ℕ) → 0 < length ps → All (IsActive items) ps → boxes_of items ps ≡ [] → ⊥
some_box items [] some all none = omega arith
some_box items (p ∷ ps) some all none = by (item_box items p) refl (All-head (IsActive items) p ps all) none
  where
    by : (o : Option BoxValue) → item_box items p ≡ o → active items p ≡ 1 → option_to_list (item_box items p) ++ boxes_of items ps ≡ [] → ⊥
    by None is one none = omega (arith, one, ap {B = ℕ} (λ o. if is_some o then 1 else 0) is)
    by (Some b) is one none =
        omega (arith, ap length (ap (λ o. option_to_list o ++ boxes_of items ps) (sym is) ∙ none))

unwrapped : (boxes : List BoxValue) (o : Option BoxValue) → (boxes ≡ [] → ⊥) → IfSome o (IsLeast (HoldsBoxes boxes)) × ((o ≡ None) ↔ (boxes ≡ []))
    → IsLeast (HoldsBoxes boxes) (unwrap_or o no_box)
unwrapped boxes None some h = absurd (some (h.1.0 refl))
unwrapped boxes (Some b) some h = h.0

pub leaf_least : (items : List (Option BoxValue)) (order : List ℕ) (first count : ℕ) → 0 < count → first + count ≤ length order
    → All (IsActive items) order → IsLeast (HoldsBoxes (boxes_in items order first count)) (leaf_box items order first count)
leaf_least items order first count some within all =
    let boxes = boxes_in items order first count in
    let places = take count (drop first order) in
    let long : length places ≡ count = length-take-le count (drop first order) (omega (arith, length-drop first order)) in
    unwrapped boxes (box_of_boxes boxes)
    (some_box items places (omega (arith, long)) (All-take (IsActive items) count (drop first order) (All-drop (IsActive items) first order all)))
    (IsLeastOf-boxes boxes (box_of_boxes boxes) refl)
