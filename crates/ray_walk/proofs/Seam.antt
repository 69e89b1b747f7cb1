-- The box of a leaf of the top structure's tree nests the root of each structure that is placed there.
use Rattle.std.proofs.Common.{◌≡◌, ◌∙◌, refl, sym, ap, subst, ℕ, ◌<◌, Option, Some, None, option_map, option_and_then, length, slice_get}
use Rattle.std.proofs.lemmas.Option.{slice_get-map, get_or_from_slice_get}
use Rattle.ray_geom.specs.Boxes.{BoxValue, IsPart, corners_of}
use Rattle.ray_geom.specs.Transform.{MatrixValue, identity_value}
use Rattle.ray_geom.specs.ObjectRay.{object_of}
use Rattle.ray_prune.specs.Pruning.{HoldsImages, box_of_images}
use Rattle.ray_prune.proofs.Corners.{IsImageBox-fold, IsLeast-unwrapped}
use Rattle.ray_prune.proofs.Inside.{IsInside-part}
use Rattle.ray_prune.proofs.World.{IsInside-world}
use Rattle.ray_tree.specs.Trees.{box_at, item_box}
use Rattle.ray_geometries.specs.Contents.{bounds_of}
use Rattle.ray_top.specs.Instances.{InstanceValue}
use Rattle.ray_top.specs.InstanceReading.{bounds_in}
use Rattle.ray_top.specs.Trees.{without_tree, world_box, item_of, items_of}
use Rattle.ray_nearest.specs.Parts.{Nests}
use Rattle.ray_walk.specs.Traced.{Traced, placement_at, top_entry, entry_of_placement, bottom_entry}
use Rattle.ray_candidates.specs.Placements.{Placement, items_at}
use Rattle.ray_tree.specs.Trees.{no_box}
use Rattle.ray_candidates.specs.Placements.{IsWellPlaced}
use Rattle.ray_walk.specs.Sound.{IsWalkable}
use Rattle.ray_query.proofs.Members.{Member}
use Rattle.ray_walk.proofs.Nesting.{Carries, nests_carried}
use Rattle.ray_walk.proofs.WellPlaced.{IsPlacement, is_placement, bounds_stand, well_placed}
use Rattle.ray_candidates.proofs.LeafItems.{IsItem, item_at_node, box_at_node}
use Rattle.ray_candidates.proofs.InBounds.{node_in_bounds}

-- the box in the world of bounds holds the images of their corners
world_holds : (m : MatrixValue) (bounds world : BoxValue) → world_box m bounds ≡ Some world → HoldsImages m bounds world
unfolding world_box
world_holds m bounds world is =
    (IsLeast-unwrapped m bounds (box_of_images m (corners_of bounds)) world
    (IsImageBox-fold m bounds (corners_of bounds) (box_of_images m (corners_of bounds)) refl refl).least is).holds

-- the bounds of an instance whose item this is
record HasBounds (m : MatrixValue) (o : Option BoxValue) (world : BoxValue) : Type 0 where
  pub bounds : BoxValue
  pub is_it : o ≡ Some bounds
  pub holds : HoldsImages m bounds world

has_bounds : (m : MatrixValue) (o : Option BoxValue) (world : BoxValue) → option_and_then (world_box m) o ≡ Some world → HasBounds m o world
has_bounds m None world is = absurd (cc)
has_bounds m (Some bounds) world is = record { bounds = bounds; is_it = refl; holds = world_holds m bounds world is }

-- the item of a placed instance
item_is : (s : Traced) (i : ℕ) (j : InstanceValue) → slice_get s.top.contents.instances i ≡ Some (Some j)
    → item_box (items_of (without_tree s.top)) i ≡ item_of s.top.used (Some j)
item_is s i j at =
    get_or_from_slice_get (items_of (without_tree s.top)) i (item_of s.top.used (Some j)) None
    (slice_get-map (item_of s.top.used) s.top.contents.instances i ∙ ap (option_map (item_of s.top.used)) at)

-- an instance that stands in a leaf has bounds, and the leaf's box holds their images' corners
record HasWorld (s : Traced) (n : ℕ) (p : Placement) : Type 0 where
  pub bounds : BoxValue
  pub world : BoxValue
  pub are_bounds : bounds_of p.bottom.geometries ≡ Some bounds
  pub holds : HoldsImages p.instance.matrix bounds world
  pub part : IsPart world (box_at s.top.tree no_box n)

has_world : (s : Traced) (n i : ℕ) (p : Placement) → IsWalkable s → n < length s.top.tree.nodes → Member i (items_at s.top.tree n) → placement_at s i ≡ Some p → HasWorld s n p
has_world s n i p w small m is =
    let items = items_of (without_tree s.top) in
    let here : IsPlacement s i p = is_placement s i p is in
    let it : IsItem items i = item_at_node s.top.tree items w.over n i m in
    let stand : bounds_in s.top.used p.instance.id ≡ Some (bounds_of p.bottom.geometries) = bounds_stand s i p w.standing is in
    let told : option_and_then (world_box p.instance.matrix) (bounds_of p.bottom.geometries) ≡ Some it.box =
    ap (λ (o : Option (Option BoxValue)). option_and_then (world_box p.instance.matrix) (option_and_then (λ bounds. bounds) o)) (sym stand)
    ∙ (sym (item_is s i p.instance here.active) ∙ it.is_it) in
    let found : HasBounds p.instance.matrix (bounds_of p.bottom.geometries) it.box = has_bounds p.instance.matrix (bounds_of p.bottom.geometries) it.box told in
    record {
      bounds = found.bounds;
      world = it.box;
      are_bounds = found.is_it;
      holds = found.holds;
      part = box_at_node s.top.tree items w.over n i no_box it.box small m it.is_it;
    }

-- so what is inside the root is inside the leaf's box
carries_root : (s : Traced) (n : ℕ) (p : Placement) → IsWellPlaced p → HasWorld s n p → 0 < length p.bottom.tree.nodes
    → Carries (object_of s.ray p.instance.matrix) (box_at p.bottom.tree no_box 0) (object_of s.ray identity_value) (box_at s.top.tree no_box n)
carries_root s n p well h some k e i =
    let object = object_of s.ray p.instance.matrix in
    let root = box_at p.bottom.tree no_box 0 in
    let part : IsPart root h.bounds = node_in_bounds p.bottom.tree p.bottom.geometries h.bounds well.sound.over h.are_bounds 0 no_box some in
    IsInside-part (object_of s.ray identity_value) h.world (box_at s.top.tree no_box n) h.part k e
    (IsInside-world p.instance.matrix s.ray h.bounds h.world well.matrix.det_not_zero h.holds k e (IsInside-part object root h.bounds part k e i))

pub nests_root : (s : Traced) (n i : ℕ) (p : Placement) → IsWalkable s → n < length s.top.tree.nodes → Member i (items_at s.top.tree n) → placement_at s i ≡ Some p
    → 0 < length p.bottom.tree.nodes → Nests (top_entry s n) (bottom_entry s i 0)
nests_root s n i p w small m is some =
    subst (λ (o : Option Placement). Nests (top_entry s n) (option_and_then (λ (q : Placement). entry_of_placement s.ray q 0) o)) (sym is)
    (nests_carried (object_of s.ray p.instance.matrix) (object_of s.ray identity_value) (box_at p.bottom.tree no_box 0) (box_at s.top.tree no_box n)
    (carries_root s n p (well_placed s i p w.top w.standing w.bottoms is) (has_world s n i p w small m is) some))
