-- Where the window of a ray doesn't meet the points of a primitive, nothing of it is found up to the window's limit.
use Rattle.std.proofs.Common.{ℕ, ◌≡◌, refl, sym, subst, ◌∙◌, false, inl, inr, Option, Some, None, option_map, option_and_then, IfSome, List, [], ◌∷◌, slice_get}
use Rattle.std.proofs.lemmas.List.Sorted.{IsPermutation-refl}
use Rattle.ray_geom.specs.declared.ratio.Ratio.{Ratio}
use Rattle.ray_geom.specs.Boxes.{BoxValue, IsBox, box_value}
use Rattle.ray_geom.specs.Frac.{denominator, numerator}
use Rattle.ray_geom.specs.LeastBoxes.{box_of_tri}
use Rattle.ray_geom.specs.ObjectRay.{object_of}
use Rattle.ray_geom.specs.Ratio.{ratio_of}
use Rattle.ray_geom.specs.Scene.{IsRay, TriValue, tri_value}
use Rattle.ray_geom.proofs.ObjectRays.{IsObjectRay-object}
use Rattle.ray_lanes.specs.declared.lanes.Window.{Window}
use Rattle.ray_window.specs.Meets.{Meets}
use Rattle.ray_window.specs.Windows.{window_of}
use Rattle.ray_window.proofs.Windows.{window-holds}
use Rattle.ray_primitives.specs.Primitives.{TriangleValue, box_of_triangle}
use Rattle.ray_geometries.specs.declared.geometry.Geometry.{Geometry}
use Rattle.ray_leaves.specs.declared.leaf_item.ItemPoints.{ItemPoints}
use Rattle.ray_leaves.specs.declared.leaf_item.ItemPoints.TheVariants.{Triangle, Aabb, Nothing}
use Rattle.ray_leaves.specs.declared.prim_place.PrimPlace.{PrimPlace}
use Rattle.ray_geometries.specs.declared.shapes.Shapes.{Shapes}
use Rattle.ray_geometries.specs.declared.shapes.Shapes.TheVariants.{Triangles, Boxes}
use Rattle.ray_leaves.specs.LeafItems.{any_points, points_at, points_in, points_of_box, points_of_tri}
use Rattle.ray_query.specs.declared.found.Found.{Found}
use Rattle.ray_nearest.specs.declared.turn.Turn.{Turn}
use Rattle.ray_nearest.specs.Adding.{Adds, AddsFound}
use Rattle.ray_query.specs.Limits.{is_within}
use Rattle.ray_query.proofs.Members.{Member}
use Rattle.ray_query.proofs.Orders.{false-else}
use Rattle.ray_walk.specs.Aims.{IsPassed, MeetsPoints}
use Rattle.ray_candidates.specs.Placements.{IsWellPlaced, prim_box, shape_box}
use Rattle.ray_candidates.specs.Placements.{Placement}
use Rattle.ray_walk.specs.Traced.{Traced, found_at_place}
use Rattle.ray_walk.proofs.BoxLimits.{prim-limits}
use Rattle.ray_candidates.proofs.FoundInside.{IsFoundIn, found_inside_at}
use Rattle.ray_walk.proofs.LeftOut.{up-to}

-- ---- the box of a primitive is that of its points

abbrev box_of_points : ItemPoints → Option BoxValue
box_of_points (Triangle a b c) = Some (box_of_tri (tri_value a b c))
box_of_points (Aabb lo hi) = Some (box_value lo hi)
box_of_points Nothing = None

of_tri : (o : Option TriValue) → option_map box_of_tri o ≡ box_of_points (points_of_tri o)
of_tri None = refl
of_tri (Some tri) = refl

of_box : (o : Option BoxValue) → o ≡ box_of_points (points_of_box o)
of_box None = refl
of_box (Some box) = refl

of_shape : (i : ℕ) (shapes : Shapes) → shape_box i shapes ≡ box_of_points (points_in shapes i)
of_shape i (Triangles format size ts) = by (slice_get ts i)
  where
    by : (o : Option TriangleValue) → option_and_then box_of_triangle o ≡ box_of_points (any_points (option_map (λ (t : TriangleValue). points_of_tri t.tri) o))
    by None = refl
    by (Some t) = of_tri t.tri
of_shape i (Boxes boxes) = by (slice_get boxes i)
  where
    by : (o : Option (Option BoxValue)) → option_and_then (λ box. box) o ≡ box_of_points (any_points (option_map points_of_box o))
    by None = refl
    by (Some box) = of_box box

of_prim : (gs : List Geometry) (place : PrimPlace) → prim_box gs place ≡ box_of_points (points_at gs place)
of_prim gs place = by (slice_get gs place.geometry)
  where
    by : (o : Option Geometry) → option_and_then (λ (g : Geometry). shape_box place.primitive g.shapes) o
        ≡ box_of_points (any_points (option_map (λ (g : Geometry). points_in g.shapes place.primitive) o))
    by None = refl
    by (Some g) = of_shape place.primitive g.shapes

-- what meets the box of points meets the points
meets_by : (window : Window) (points : ItemPoints) (box : BoxValue) → box_of_points points ≡ Some box → Meets window box → MeetsPoints window points
meets_by window (Triangle a b c) box same met = subst (Meets window) (sym (some_same (box_of_tri (tri_value a b c)) box same)) met
  where
    some_same : (x y : BoxValue) → Some x ≡ Some y → x ≡ y
    some_same x y p = cc
meets_by window (Aabb lo hi) box same met = subst (Meets window) (sym (some_same (box_value lo hi) box same)) met
  where
    some_same : (x y : BoxValue) → Some x ≡ Some y → x ≡ y
    some_same x y p = cc
meets_by window Nothing box same met = tt

-- ---- nothing is found up to the limit

beyond : (s : Traced) (i : ℕ) (p : Placement) (place : PrimPlace) (limit : Option Ratio) (f : Found) → IsRay s.ray → IsWellPlaced p
    → (MeetsPoints (window_of (object_of s.ray p.instance.matrix) limit) (points_at p.bottom.geometries place) → ⊥)
    → Member f (found_at_place s i p place) → is_within limit (ratio_of f.t) ≡ false
beyond s i p place limit f r w never m =
    let here : IsFoundIn s.ray p place f = found_inside_at s.ray s.flags i p place f r w m in
    let object = object_of s.ray p.instance.matrix in
    let limits : IsBox here.box = subst (λ o. IfSome o IsBox) here.is_it (prim-limits p.bottom.geometries w.sound.limits.each place) in
    false-else (is_within limit (ratio_of f.t)) (λ within.
    never (meets_by (window_of object limit) (points_at p.bottom.geometries place) here.box (sym (of_prim p.bottom.geometries place) ∙ here.is_it)
    (window-holds object here.box (IsObjectRay-object s.ray p.instance.matrix r w.matrix) limits limit (numerator f.t) (denominator f.t)
    (ratio_of f.t).positive here.inside (up-to limit (ratio_of f.t) within))))

none_added : (limit : Option Ratio) (fs : List Found) (ts : List Turn) → ((f : Found) → Member f fs → is_within limit (ratio_of f.t) ≡ false)
    → Adds (AddsFound limit) fs ts ts
none_added limit [] ts out = IsPermutation-refl ts
none_added limit (f ∷ fs) ts out =
    (ts, ([], inl (refl, out f (inl refl)), IsPermutation-refl ts), none_added limit fs ts (λ g m. out g (inr m)))

pub adds_nothing : (s : Traced) (i : ℕ) (p : Placement) (place : PrimPlace) (limit : Option Ratio) (ts : List Turn) → IsRay s.ray → IsWellPlaced p
    → (MeetsPoints (window_of (object_of s.ray p.instance.matrix) limit) (points_at p.bottom.geometries place) → ⊥)
    → Adds (AddsFound limit) (found_at_place s i p place) ts ts
adds_nothing s i p place limit ts r w never =
    none_added limit (found_at_place s i p place) ts (λ f m. beyond s i p place limit f r w never m)

-- ---- a window, where there is one

pub passed : (o : Option Window) (points : ItemPoints) (window : Window) → IsPassed o points → IfSome o (λ x. x ≡ window) → MeetsPoints window points → ⊥
passed None points window gone is met = gone
passed (Some x) points window gone is met = gone (subst (λ y. MeetsPoints y points) (sym is) met)
