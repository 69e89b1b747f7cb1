-- The box of a node of any tree over the primitives of a structure holds what is found of the items of the node.
use Rattle.std.proofs.Common.{◌≡◌, ◌∙◌, sym, subst, ℕ, ◌<◌, Some, length}
use Rattle.ray_geom.specs.Scene.{IsRay, RayValue}
use Rattle.ray_geom.specs.Boxes.{BoxValue, IsPart}
use Rattle.ray_geom.specs.Frac.{numerator, denominator}
use Rattle.ray_geom.specs.ObjectRay.{object_of}
use Rattle.ray_prune.specs.BoxSpan.{IsInside}
use Rattle.ray_flags.specs.declared.ray_flags.RayFlags.{RayFlags}
use Rattle.ray_tree.specs.Trees.{TreeValue, TreeOver, box_at, no_box}
use Rattle.ray_bottom.specs.Trees.{items_of, place_at}
use Rattle.ray_query.specs.declared.found.Found.{Found}
use Rattle.ray_query.specs.Limits.{Holds, IsInOrder}
use Rattle.ray_query.proofs.Members.{Member}
use Rattle.ray_candidates.specs.Placements.{AreAligned, IsWellPlaced, Placement, entry_in, found_by_item, items_at}
use Rattle.ray_candidates.proofs.Opened.{inside_held}
use Rattle.ray_candidates.proofs.FoundInside.{IsFoundIn, found_inside}
use Rattle.ray_candidates.proofs.LeafItems.{IsItem, item_at_node, box_at_node}

same_some : (x y : BoxValue) → Some x ≡ Some y → x ≡ y
same_some x y p = cc

-- what is found of an item of a node is held by the node's box, and is left where it is entered or later
pub record IsHeld (ray : RayValue) (p : Placement) (tree : TreeValue) (n : ℕ) (f : Found) : Type 0 where
  pub holds : Holds (entry_in (object_of ray p.instance.matrix) (box_at tree no_box n)) f
  pub in_order : IsInOrder f

pub held_item : (ray : RayValue) (flags : RayFlags) (i n : ℕ) (p : Placement) (tree : TreeValue) (item : ℕ) (f : Found) → IsRay ray → IsWellPlaced p
    → AreAligned p.bottom.geometries → TreeOver tree (items_of p.bottom.geometries) → n < length tree.nodes → Member item (items_at tree n)
    → Member f (found_by_item ray flags i p item) → IsHeld ray p tree n f
held_item ray flags i n p tree item f r w aligned over small m found =
    let items = items_of p.bottom.geometries in
    let object = object_of ray p.instance.matrix in
    let here : IsFoundIn ray p (place_at p.bottom.geometries item) f = found_inside ray flags i p item f r w found in
    let it : IsItem items item = item_at_node tree items over n item m in
    let same : here.box ≡ it.box = same_some here.box it.box (sym here.is_it ∙ aligned.each item it.box it.is_it) in
    let part : IsPart it.box (box_at tree no_box n) = box_at_node tree items over n item no_box it.box small m it.is_it in
    record {
      holds = inside_held object it.box (box_at tree no_box n) f part
          (subst (λ (b : BoxValue). IsInside object b (numerator f.t) (denominator f.t)) same here.inside);
      in_order = here.in_order;
    }
