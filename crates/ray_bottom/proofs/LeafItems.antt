-- The primitives at leaves: they stand at their places, what a ray meets of their points is what it meets there, and they are within the limits.
use Rattle.std.proofs.Common.{ℕ, zero, suc, ◌≡◌, List, [], ◌∷◌, Option, Some, None, map, take, drop, refl, sym, ap, subst, ◌∙◌, arith}
use Rattle.std.specs.Prelude.{All, IfSome, slice_get, option_map, option_and_then}
use Rattle.std.specs.List.{filter_map}
use Rattle.std.proofs.lemmas.List.{take-map, drop-map}
use Rattle.std.proofs.lemmas.List.Elements.{All-take, All-drop, All-map, All-nil, All-tail}
use Rattle.ray_geom.specs.Scene.{RayValue, TriValue, IsTri}
use Rattle.ray_geom.specs.Boxes.{BoxValue}
use Rattle.ray_geom.specs.LeastBoxes.{box_of_tri}
use Rattle.ray_geom.specs.Transform.{MatrixValue}
use Rattle.ray_contents.specs.Bounds.{KeepsBounds}
use Rattle.ray_tree.specs.declared.node.Node.{Node}
use Rattle.ray_tree.specs.declared.node.Node.TheVariants.{Leaf, Inner}
use Rattle.ray_primitives.specs.Primitives.{TriangleValue, IsTriangleOf, IsAabb, box_of_triangle}
use Rattle.ray_geometries.specs.declared.geometry.Geometry.{Geometry}
use Rattle.ray_geometries.specs.declared.shapes.Shapes.{Shapes}
use Rattle.ray_geometries.specs.declared.shapes.Shapes.TheVariants.{Triangles, Boxes}
use Rattle.ray_leaves.specs.declared.prim_place.PrimPlace.{PrimPlace}
use Rattle.ray_geometries.specs.Contents.{ContentsValue, IsContents, IsGeometry, ShapesAreWithin, bounds_of, boxes_of_shapes}
use Rattle.ray_bottom.specs.Meeting.{KeepsBoxes, KeepsPoints, box_meet, hit_in_world, meet_of, shape_meet, triangle_meet}
use Rattle.ray_bottom.specs.Trees.{places_by}
use Rattle.ray_leaves.specs.LeafItems.{IsItemOf, any_points, item_at, place_of_item, points_at, points_in, points_of_box, points_of_tri}
use Rattle.ray_bottom.specs.Leaves.{AreKept, items_by, points_meet}
use Rattle.ray_bottom.proofs.Held.{KeepsBoxes-geometry, KeepsPoints-triangle, KeepsTri-box}

-- ---- the items of a leaf

places_of_items : (gs : List Geometry) (ps : List PrimPlace) → map place_of_item (map (item_at gs) ps) ≡ ps
places_of_items gs [] = refl
places_of_items gs (p ∷ ps) = ap (λ qs. p ∷ qs) (places_of_items gs ps)

-- they stand at the places of the leaf
pub items_by-places : (gs : List Geometry) (ps : List PrimPlace) (node : Node) → map place_of_item (items_by (map (item_at gs) ps) node) ≡ places_by ps node
items_by-places gs ps (Leaf first count) =
    sym (take-map place_of_item count (drop first (map (item_at gs) ps)))
    ∙ ap (take count) (sym (drop-map place_of_item first (map (item_at gs) ps)) ∙ ap (drop first) (places_of_items gs ps))
items_by-places gs ps (Inner left right) = refl

-- and have the points of the primitives there
pub items_by-held : (gs : List Geometry) (ps : List PrimPlace) (node : Node) → All (IsItemOf gs) (items_by (map (item_at gs) ps) node)
items_by-held gs ps (Leaf first count) =
    All-take (IsItemOf gs) count (drop first (map (item_at gs) ps)) (All-drop (IsItemOf gs) first (map (item_at gs) ps)
    (All-map (IsItemOf gs) (item_at gs) ps (λ k d below. record { points_are = refl })))
items_by-held gs ps (Inner left right) = All-nil (IsItemOf gs)

-- ---- what is met

tri-met : (ray : RayValue) (m : MatrixValue) (t : Option TriangleValue) → points_meet ray m (any_points (option_map (λ (u : TriangleValue). points_of_tri u.tri) t)) ≡ option_and_then (triangle_meet ray m) t
tri-met ray m None = refl
tri-met ray m (Some t) = by t.tri
  where
    by : (o : Option TriValue) → points_meet ray m (points_of_tri o) ≡ option_and_then (hit_in_world ray m) o
    by None = refl
    by (Some tri) = refl

box-met : (ray : RayValue) (m : MatrixValue) (b : Option (Option BoxValue)) → points_meet ray m (any_points (option_map points_of_box b)) ≡ option_and_then (box_meet ray m) b
box-met ray m None = refl
box-met ray m (Some None) = refl
box-met ray m (Some (Some b)) = refl

shape-met : (ray : RayValue) (m : MatrixValue) (s : Shapes) (i : ℕ) → points_meet ray m (points_in s i) ≡ shape_meet ray m i s
shape-met ray m (Triangles format size ts) i = tri-met ray m (slice_get ts i)
shape-met ray m (Boxes bs) i = box-met ray m (slice_get bs i)

pub points-met : (gs : List Geometry) (place : PrimPlace) (ray : RayValue) (m : MatrixValue) → points_meet ray m (points_at gs place) ≡ meet_of gs place ray m
points-met gs place ray m = by (slice_get gs place.geometry)
  where
    by : (g : Option Geometry) → points_meet ray m (any_points (option_map (λ (h : Geometry). points_in h.shapes place.primitive) g))
        ≡ option_and_then (λ (h : Geometry). shape_meet ray m place.primitive h.shapes) g
    by None = refl
    by (Some g) = shape-met ray m g.shapes place.primitive

-- ---- the limits

All-at : {X : Type 0} (P : X → Type 0) (xs : List X) (k : ℕ) (x : X) → All P xs → slice_get xs k ≡ Some x → P x
All-at P [] k x all e = absurd cc
All-at P (z ∷ zs) zero x all e = let same : z ≡ x = cc in subst P same (all 0 z (omega arith))
All-at P (z ∷ zs) (suc k) x all e = All-at P zs k x (All-tail P z zs all) e

tri-kept : (m : MatrixValue) (o : Option TriValue) → IfSome o IsTri → IfSome (option_map box_of_tri o) (KeepsPoints m) → AreKept m (points_of_tri o)
tri-kept m None limits keeps = tt
tri-kept m (Some tri) limits keeps = (limits, KeepsTri-box m tri keeps)

triangle-kept : (m : MatrixValue) (size : ℕ) (ts : List TriangleValue) (i : ℕ) (t : Option TriangleValue) → slice_get ts i ≡ t → All (IsTriangleOf size) ts → KeepsBoxes m (filter_map box_of_triangle ts)
    → AreKept m (any_points (option_map (λ (u : TriangleValue). points_of_tri u.tri) t))
triangle-kept m size ts i None is within keeps = tt
triangle-kept m size ts i (Some t) is within keeps = tri-kept m t.tri (All-at (IsTriangleOf size) ts i t within is).limits.limits (KeepsPoints-triangle m ts i t keeps is)

box-kept : (m : MatrixValue) (bs : List (Option BoxValue)) (i : ℕ) (b : Option (Option BoxValue)) → slice_get bs i ≡ b → All IsAabb bs → AreKept m (any_points (option_map points_of_box b))
box-kept m bs i None is within = tt
box-kept m bs i (Some None) is within = tt
box-kept m bs i (Some (Some b)) is within = (All-at IsAabb bs i (Some b) within is).limits

shape-kept : (m : MatrixValue) (s : Shapes) (i : ℕ) → ShapesAreWithin s → KeepsBoxes m (boxes_of_shapes s) → AreKept m (points_in s i)
shape-kept m (Triangles format size ts) i within keeps = triangle-kept m size ts i (slice_get ts i) refl within.1 keeps
shape-kept m (Boxes bs) i within keeps = box-kept m bs i (slice_get bs i) refl within

pub points-kept : (c : ContentsValue) (place : PrimPlace) (m : MatrixValue) → IsContents c → KeepsBounds m (bounds_of c.geometries) → AreKept m (points_at c.geometries place)
points-kept c place m limits keeps = by (slice_get c.geometries place.geometry) refl
  where
    by : (g : Option Geometry) → slice_get c.geometries place.geometry ≡ g → AreKept m (any_points (option_map (λ (h : Geometry). points_in h.shapes place.primitive) g))
    by None is = tt
    by (Some g) is = shape-kept m g.shapes place.primitive (All-at IsGeometry c.geometries place.geometry g limits.each is).within (KeepsBoxes-geometry m c.geometries place.geometry g keeps is)
