-- The box of each node of a structure's tree is within the limits.
use Rattle.std.proofs.Common.{ℕ, ◌≡◌, ◌<◌, ◌^◌, refl, sym, subst, slice_get, fold, Option, Some, None, option_map, option_and_then, IfSome, IsSomeAnd, List, [], ◌∷◌, length, arith}
use Rattle.std.proofs.lemmas.Int.{ints}
use Rattle.std.specs.Prelude.{All, get_or}
use Rattle.std.proofs.lemmas.List.Elements.{All-nil, All-head, All-tail, All-append, All-map}
use Rattle.std.proofs.lemmas.List.Concat.{flat_map-cons}
use Rattle.ray_geom.specs.declared.vec3.Vec3.{Vec3}
use Rattle.ray_geom.specs.Vector.{IsShort}
use Rattle.ray_geom.specs.Scene.{IsTri, TriValue}
use Rattle.ray_geom.specs.Boxes.{BoxValue, IsBox, corners_of}
use Rattle.ray_geom.specs.LeastBoxes.{box_of_tri, joined_of, point_box, union_of}
use Rattle.ray_geom.specs.Transform.{MatrixValue, image_of}
use Rattle.ray_geom.proofs.LeastBoxes.{IsBox-union}
use Rattle.ray_contents.specs.Bounds.{KeepsBounds}
use Rattle.ray_primitives.specs.Primitives.{IsAabb, IsTriangle, IsTriangleOf, TriangleValue, box_of_triangle}
use Rattle.ray_tree.specs.Trees.{TreeOver, TreeValue, box_at, boxes_below, shape_at}
use Rattle.ray_tree.proofs.LeastLists.{same_least}
use Rattle.ray_tree.specs.NodeBoxes.{AreBoxes, least_box}
use Rattle.ray_tree.proofs.LeastOver.{is_box, least_at}
use Rattle.ray_geometries.specs.declared.geometry.Geometry.{Geometry}
use Rattle.ray_geometries.specs.declared.shapes.Shapes.{Shapes as Kept}
use Rattle.ray_geometries.specs.declared.shapes.Shapes.TheVariants.{Triangles, Boxes}
use Rattle.ray_leaves.specs.declared.prim_place.PrimPlace.{PrimPlace}
use Rattle.ray_geometries.specs.Contents.{IsGeometry, ShapesAreWithin}
use Rattle.ray_bottom.specs.Slots.{IsSound}
use Rattle.ray_bottom.specs.Trees as bottoms
use Rattle.ray_top.specs.declared.used.Used.{Used}
use Rattle.ray_top.specs.Contents.{IsInstance}
use Rattle.ray_top.specs.Instances.{InstanceValue}
use Rattle.ray_top.specs.InstanceReading.{bounds_in}
use Rattle.ray_top.specs.Trees as tops
use Rattle.ray_walk.specs.Sound.{IsWalkable}
use Rattle.ray_candidates.specs.Placements.{prim_box, shape_box}
use Rattle.ray_walk.specs.Traced.{Traced}
use Rattle.ray_tree.specs.Trees.{no_box}
use Rattle.ray_candidates.proofs.InBounds.{item_holds}
use Rattle.ray_candidates.proofs.Placing.{All-at}

-- ---- boxes

point-limits : (p : Vec3) → IsShort (2 ^ 19) p → IsBox (point_box p)
point-limits p short = record { lo_short = short; hi_short = short; x_ordered = omega (arith, ints); y_ordered = omega (arith, ints); z_ordered = omega (arith, ints) }

tri-limits : (tri : TriValue) → IsTri tri → IsBox (box_of_tri tri)
tri-limits tri is =
    IsBox-union (union_of (point_box tri.v0) (point_box tri.v1)) (point_box tri.v2)
    (IsBox-union (point_box tri.v0) (point_box tri.v1) (point-limits tri.v0 is.v0_short) (point-limits tri.v1 is.v1_short))
    (point-limits tri.v2 is.v2_short)

joined-limits : (o : Option BoxValue) (b : BoxValue) → IfSome o IsBox → IsBox b → IfSome (joined_of o b) IsBox
joined-limits None b some is = is
joined-limits (Some a) b some is = IsBox-union a b some is

images-limits : (m : MatrixValue) (ps : List Vec3) (o : Option BoxValue) → IfSome o IsBox → All (λ p. IsShort (2 ^ 19) (image_of m p)) ps
    → IfSome (fold (λ so_far p. joined_of so_far (point_box (image_of m p))) o ps) IsBox
images-limits m [] o some all = some
images-limits m (p ∷ ps) o some all =
    let P = λ (q : Vec3). IsShort (2 ^ 19) (image_of m q) in
    images-limits m ps (joined_of o (point_box (image_of m p)))
    (joined-limits o (point_box (image_of m p)) some (point-limits (image_of m p) (All-head P p ps all))) (All-tail P p ps all)

-- ---- items

triangle-limits : (t : TriangleValue) → IsTriangle t → IfSome (box_of_triangle t) IsBox
triangle-limits t is = by t.tri is.limits
  where
    by : (o : Option TriValue) → IfSome o IsTri → IfSome (option_map box_of_tri o) IsBox
    by None some = tt
    by (Some tri) some = tri-limits tri some

shapes-limits : (shapes : Kept) → ShapesAreWithin shapes → All (λ o. IfSome o IsBox) (bottoms.items_of_shapes shapes)
shapes-limits (Triangles format size ts) within =
    All-map (λ o. IfSome o IsBox) box_of_triangle ts (λ k d below. triangle-limits (get_or ts k d) (within.1 k d below).limits)
shapes-limits (Boxes boxes) within = λ k d below. (within k d below).limits

geometries-limits : (gs : List Geometry) → All IsGeometry gs → All (λ o. IfSome o IsBox) (bottoms.items_of gs)
geometries-limits [] all = All-nil (λ o. IfSome o IsBox)
geometries-limits (g ∷ gs) all =
    subst (All (λ o. IfSome o IsBox)) (sym (flat_map-cons (λ (h : Geometry). bottoms.items_of_shapes h.shapes) g gs))
    (All-append (λ o. IfSome o IsBox) (bottoms.items_of_shapes g.shapes) (bottoms.items_of gs)
    (shapes-limits g.shapes (All-head IsGeometry g gs all).within) (geometries-limits gs (All-tail IsGeometry g gs all)))

-- so is the box of the primitive at a place
shape-limits : (i : ℕ) (shapes : Kept) → ShapesAreWithin shapes → IfSome (shape_box i shapes) IsBox
shape-limits i (Triangles format size ts) within = by (slice_get ts i) refl
  where
    by : (o : Option TriangleValue) → slice_get ts i ≡ o → IfSome (option_and_then box_of_triangle o) IsBox
    by None at = tt
    by (Some t) at = triangle-limits t (All-at (IsTriangleOf size) ts i t within.1 at).limits
shape-limits i (Boxes boxes) within = by (slice_get boxes i) refl
  where
    by : (o : Option (Option BoxValue)) → slice_get boxes i ≡ o → IfSome (option_and_then (λ box. box) o) IsBox
    by None at = tt
    by (Some box) at = (All-at IsAabb boxes i box within at).limits

pub prim-limits : (gs : List Geometry) → All IsGeometry gs → (place : PrimPlace) → IfSome (prim_box gs place) IsBox
prim-limits gs all place = by (slice_get gs place.geometry) refl
  where
    by : (o : Option Geometry) → slice_get gs place.geometry ≡ o → IfSome (option_and_then (λ (g : Geometry). shape_box place.primitive g.shapes) o) IsBox
    by None at = tt
    by (Some g) at = shape-limits place.primitive g.shapes (All-at IsGeometry gs place.geometry g all at).within

bottom-items : (b : bottoms.BottomWithTree) → IsSound b → AreBoxes (bottoms.items_of b.geometries)
bottom-items b sound = record {
  each = λ p box is. item_holds IsBox (bottoms.items_of b.geometries) (geometries-limits b.geometries sound.limits.each) p box is;
}

world-limits : (m : MatrixValue) (bounds : Option BoxValue) → KeepsBounds m bounds → IfSome (option_and_then (tops.world_box m) bounds) IsBox
unfolding tops.world_box
world-limits m None kept = tt
world-limits m (Some box) kept = images-limits m (corners_of box) None tt kept.each

instance-limits : (used : List Used) (i : Option InstanceValue) → IsInstance used i → IfSome (tops.item_of used i) IsBox
instance-limits used None is = tt
instance-limits used (Some i) is = by (bounds_in used i.id) is.limits.kept
  where
    by : (o : Option (Option BoxValue)) → IsSomeAnd o (KeepsBounds i.matrix) → IfSome (option_and_then (tops.world_box i.matrix) (option_and_then (λ bounds. bounds) o)) IsBox
    by None kept = tt
    by (Some bounds) kept = world-limits i.matrix bounds kept

-- ---- nodes

node-limits : (tree : TreeValue) (items : List (Option BoxValue)) → TreeOver tree items → AreBoxes items → (n : ℕ) → n < length tree.nodes → IsBox (box_at tree no_box n)
node-limits tree items over are n small =
    subst IsBox
    (same_least (boxes_below items tree.order (shape_at tree n)) (least_box items tree n) (box_at tree no_box n)
    (least_at tree items over.shape (record { active_once = over.active_once }) n small) (over.least n no_box small))
    (is_box tree items are n)

pub bottom-limits : (b : bottoms.BottomWithTree) → IsSound b → (n : ℕ) → n < length b.tree.nodes → IsBox (box_at b.tree no_box n)
bottom-limits b sound n small = node-limits b.tree (bottoms.items_of b.geometries) sound.over (bottom-items b sound) n small

pub top-limits : (s : Traced) → IsWalkable s → (n : ℕ) → n < length s.top.tree.nodes → IsBox (box_at s.top.tree no_box n)
top-limits s w n small =
    let items = tops.items_of (tops.without_tree s.top) in
    node-limits s.top.tree items w.over
    (record {
      each = λ p box is. item_holds IsBox items
          (All-map (λ o. IfSome o IsBox) (tops.item_of s.top.used) s.top.contents.instances
          (λ k d below. instance-limits s.top.used (get_or s.top.contents.instances k d) (w.top.each k d below))) p box is;
    }) n small
