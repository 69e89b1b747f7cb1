-- Of a primitive that is inactive nothing is found.
use Rattle.std.proofs.Common.{ℕ, ◌≡◌, Option, Some, None, List, [], option_map, refl, ap, subst}
use Rattle.std.specs.Prelude.{All, IfSome, slice_get, option_and_then}
use Rattle.ray_geom.specs.Scene.{RayValue, TriValue}
use Rattle.ray_geom.specs.Boxes.{BoxValue}
use Rattle.ray_geom.specs.LeastBoxes.{box_of_tri}
use Rattle.ray_geom.specs.Transform.{MatrixValue}
use Rattle.ray_flags.specs.declared.ray_flags.RayFlags.{RayFlags}
use Rattle.ray_primitives.specs.Primitives.{TriangleValue, box_of_triangle}
use Rattle.ray_geometries.specs.declared.geometry.Geometry.{Geometry}
use Rattle.ray_geometries.specs.declared.shapes.Shapes.{Shapes}
use Rattle.ray_geometries.specs.declared.shapes.Shapes.TheVariants.{Triangles, Boxes}
use Rattle.ray_leaves.specs.declared.prim_place.PrimPlace.{PrimPlace}
use Rattle.ray_geometries.specs.Contents.{active_boxes, boxes_of, boxes_of_shapes}
use Rattle.ray_bottom.specs.Meeting.{meet_of, shape_meet, triangle_meet, box_meet, hit_in_world}
use Rattle.ray_bottom.proofs.Held.{All-flat_map, IfSome-filter_map}
use Rattle.ray_candidates.specs.Candidates.{Placed, admitted, found_at, placed}
use Rattle.ray_candidates.specs.Placements.{Placement, found_by, found_by_place, prim_box, shape_box}

-- ---- nothing is met

tri-none : (ray : RayValue) (m : MatrixValue) (o : Option TriValue) → option_map box_of_tri o ≡ None → option_and_then (hit_in_world ray m) o ≡ None
tri-none ray m None e = refl
tri-none ray m (Some tri) e = absurd cc

triangle-none : (ray : RayValue) (m : MatrixValue) (o : Option TriangleValue) → option_and_then box_of_triangle o ≡ None → option_and_then (triangle_meet ray m) o ≡ None
triangle-none ray m None e = refl
triangle-none ray m (Some t) e = tri-none ray m t.tri e

box-none : (ray : RayValue) (m : MatrixValue) (o : Option (Option BoxValue)) → option_and_then (λ box. box) o ≡ None → option_and_then (box_meet ray m) o ≡ None
box-none ray m None e = refl
box-none ray m (Some None) e = refl
box-none ray m (Some (Some box)) e = absurd cc

shape-none : (ray : RayValue) (m : MatrixValue) (i : ℕ) (s : Shapes) → shape_box i s ≡ None → shape_meet ray m i s ≡ None
shape-none ray m i (Triangles format size ts) e = triangle-none ray m (slice_get ts i) e
shape-none ray m i (Boxes bs) e = box-none ray m (slice_get bs i) e

meet-none : (gs : List Geometry) (place : PrimPlace) (ray : RayValue) (m : MatrixValue) → prim_box gs place ≡ None → meet_of gs place ray m ≡ None
meet-none gs place ray m e = by (slice_get gs place.geometry) e
  where
    by : (o : Option Geometry) → option_and_then (λ (g : Geometry). shape_box place.primitive g.shapes) o ≡ None
        → option_and_then (λ (g : Geometry). shape_meet ray m place.primitive g.shapes) o ≡ None
    by None e = refl
    by (Some g) e = shape-none ray m place.primitive g.shapes e

-- so nothing is found
found-none : (ray : RayValue) (flags : RayFlags) (gs : List Geometry) (at : Placed) (k : ℕ)
    → meet_of gs (record { geometry = at.geometry; primitive = k }) ray at.instance.matrix ≡ None → found_at ray flags gs at k ≡ []
unfolding found_at
found-none ray flags gs at k e = ap (admitted flags at k) e

place-none : (ray : RayValue) (flags : RayFlags) (i : ℕ) (p : Placement) (place : PrimPlace) (o : Option Geometry)
    → meet_of p.bottom.geometries place ray p.instance.matrix ≡ None → found_by ray flags i p place o ≡ []
place-none ray flags i p place None e = refl
place-none ray flags i p place (Some g) e = found-none ray flags p.bottom.geometries (placed flags i p.instance place.geometry g) place.primitive e

pub inactive-none : (ray : RayValue) (flags : RayFlags) (i : ℕ) (p : Placement) (place : PrimPlace) → prim_box p.bottom.geometries place ≡ None
    → found_by_place ray flags i p place ≡ []
inactive-none ray flags i p place e =
    place-none ray flags i p place (slice_get p.bottom.geometries place.geometry) (meet-none p.bottom.geometries place ray p.instance.matrix e)
