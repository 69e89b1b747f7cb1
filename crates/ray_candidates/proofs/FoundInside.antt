-- What is found of a primitive is found inside its box, and is left where it is entered or later.
use Rattle.std.proofs.Common.{◌≡◌, ◌*◌, refl, sym, subst, ℕ, Bool, true, false, if◌then◌else◌, Option, Some, None, option_map, option_and_then, IfSome, List, [], ◌∷◌, All, slice_get, inl, inr, arith}
use Rattle.std.specs.Ordering.{is_le}
use Rattle.ray_geom.specs.Scene.{RayValue, TriValue, IsRay, IsTri}
use Rattle.ray_geom.specs.Boxes.{BoxValue, IsBox}
use Rattle.ray_geom.specs.LeastBoxes.{box_of_tri}
use Rattle.ray_geom.specs.declared.frac.Frac.{Frac}
use Rattle.ray_geom.specs.Frac.{numerator, denominator, frac_cmp}
use Rattle.ray_geom.specs.HitValue.{HitValue, hit_of}
use Rattle.ray_geom.specs.Transform.{MatrixValue, IsMatrix, world_tri}
use Rattle.ray_geom.specs.ObjectRay.{object_of}
use Rattle.ray_geom.proofs.LeastBoxes.{IsLeast-tri}
use Rattle.ray_geom.proofs.ObjectRays.{IsObjectRay-object}
use Rattle.ray_prune.specs.BoxSpan.{IsInside}
use Rattle.ray_prune.specs.BoxReach.{SpanValue, span_of}
use Rattle.ray_flags.specs.declared.ray_flags.RayFlags.{RayFlags}
use Rattle.ray_primitives.specs.Primitives.{TriangleValue, box_of_triangle, IsAabb}
use Rattle.ray_geometries.specs.declared.geometry.Geometry.{Geometry}
use Rattle.ray_geometries.specs.declared.shapes.Shapes.{Shapes}
use Rattle.ray_geometries.specs.declared.shapes.Shapes.TheVariants.{Triangles, Boxes}
use Rattle.ray_leaves.specs.declared.prim_place.PrimPlace.{PrimPlace}
use Rattle.ray_geometries.specs.Contents.{IsGeometry, ShapesAreWithin}
use Rattle.ray_bottom.specs.Meeting.{MeetValue, Hit, Through, meet_of, shape_meet, triangle_meet, box_meet, hit_in_world, span_in_object, KeepsPoints, KeepsTri}
use Rattle.ray_bottom.specs.Trees.{place_at}
use Rattle.ray_bottom.proofs.Held.{All-KeepsPoints, KeepsTri-box}
use Rattle.ray_query.specs.declared.found.Found.{Found}
use Rattle.ray_query.specs.Limits.{IsInOrder}
use Rattle.ray_geom.specs.Reduced.{fraction_of}
use Rattle.ray_candidates.specs.Candidates.{Placed, placed, passes_over, found_of, admitted, found_at}
use Rattle.ray_candidates.specs.Placements.{Placement, IsWellPlaced, found_by, found_by_item, found_by_place, prim_box, shape_box}
use Rattle.ray_query.proofs.Members.{Member}
use Rattle.ray_candidates.proofs.Placing.{All-at}
use Rattle.ray_candidates.proofs.Opened.{le_tells}
use Rattle.ray_candidates.proofs.HitInside.{hit_inside}
use Rattle.ray_candidates.proofs.SpanInside.{span_inside, span_in_order}
use Rattle.ray_candidates.proofs.Bounded.{prim_held}

-- ---- what is met

-- what is found where this is met is found inside a box
pub record MeetsIn (ray : RayValue) (m : MatrixValue) (o : Option BoxValue) (meet : MeetValue) : Type 0 where
  pub box : BoxValue
  pub is_it : o ≡ Some box
  pub inside : (at : Placed) (i : ℕ) → IsInside (object_of ray m) box (numerator (found_of at i meet).t) (denominator (found_of at i meet).t)
  pub in_order : (at : Placed) (i : ℕ) → IsInOrder (found_of at i meet)

-- of a triangle
world_limits : (m : MatrixValue) (tri : TriValue) → KeepsTri m tri → IsTri (world_tri m tri)
world_limits m tri h = record { v0_short = h.v0; v1_short = h.v1; v2_short = h.v2 }

after_itself : (t : Frac) → is_le (frac_cmp t t) ≡ true
after_itself t = le_tells (t.num * t.den) (t.num * t.den) (omega arith)

hit_meets : (ray : RayValue) (m : MatrixValue) (tri : TriValue) (hit : HitValue) (meet : MeetValue) → IsRay ray → KeepsPoints m (box_of_tri tri)
    → hit_of ray (world_tri m tri) ≡ Some hit → Hit hit ≡ meet → MeetsIn ray m (Some (box_of_tri tri)) meet
hit_meets ray m tri hit meet r keeps same is =
    subst (MeetsIn ray m (Some (box_of_tri tri))) is (record {
      box = box_of_tri tri;
      is_it = refl;
      inside = λ at i. hit_inside ray m tri (box_of_tri tri) hit r (world_limits m tri (KeepsTri-box m tri keeps)) ((IsLeast-tri tri).holds) same;
      in_order = λ at i. after_itself (fraction_of hit.t);
    })

world_meets : (ray : RayValue) (m : MatrixValue) (tri : TriValue) (meet : MeetValue) → IsRay ray → KeepsPoints m (box_of_tri tri)
    → hit_in_world ray m tri ≡ Some meet → MeetsIn ray m (Some (box_of_tri tri)) meet
unfolding hit_in_world
world_meets ray m tri meet r keeps same = by (hit_of ray (world_tri m tri)) refl same
  where
    by : (o : Option HitValue) → hit_of ray (world_tri m tri) ≡ o → option_map Hit o ≡ Some meet → MeetsIn ray m (Some (box_of_tri tri)) meet
    by None at is = absurd (cc)
    by (Some hit) at is = hit_meets ray m tri hit meet r keeps at (cc)

tri_meets : (ray : RayValue) (m : MatrixValue) (o : Option TriValue) (meet : MeetValue) → IsRay ray → ((box : BoxValue) → option_map box_of_tri o ≡ Some box → KeepsPoints m box)
    → option_and_then (hit_in_world ray m) o ≡ Some meet → MeetsIn ray m (option_map box_of_tri o) meet
tri_meets ray m None meet r keeps same = absurd (cc)
tri_meets ray m (Some tri) meet r keeps same = world_meets ray m tri meet r (keeps (box_of_tri tri) refl) same

triangle_meets : (ray : RayValue) (m : MatrixValue) (o : Option TriangleValue) (meet : MeetValue) → IsRay ray
    → ((box : BoxValue) → option_and_then box_of_triangle o ≡ Some box → KeepsPoints m box)
    → option_and_then (triangle_meet ray m) o ≡ Some meet → MeetsIn ray m (option_and_then box_of_triangle o) meet
triangle_meets ray m None meet r keeps same = absurd (cc)
triangle_meets ray m (Some t) meet r keeps same = tri_meets ray m t.tri meet r keeps same

-- of a box
span_meets : (ray : RayValue) (m : MatrixValue) (box : BoxValue) (span : SpanValue) (meet : MeetValue) → IsRay ray → IsMatrix m → IsBox box
    → span_of (object_of ray m) box ≡ Some span → Through span ≡ meet → MeetsIn ray m (Some box) meet
span_meets ray m box span meet r is_matrix b same is =
    subst (MeetsIn ray m (Some box)) is (record {
      box = box;
      is_it = refl;
      inside = λ at i. span_inside (object_of ray m) box span (IsObjectRay-object ray m r is_matrix) b same;
      in_order = λ at i. span_in_order (object_of ray m) box span (IsObjectRay-object ray m r is_matrix) b same;
    })

object_meets : (ray : RayValue) (m : MatrixValue) (box : BoxValue) (meet : MeetValue) → IsRay ray → IsMatrix m → IsBox box
    → span_in_object ray m box ≡ Some meet → MeetsIn ray m (Some box) meet
unfolding span_in_object
object_meets ray m box meet r is_matrix b same = by (span_of (object_of ray m) box) refl same
  where
    by : (o : Option SpanValue) → span_of (object_of ray m) box ≡ o → option_map Through o ≡ Some meet → MeetsIn ray m (Some box) meet
    by None at is = absurd (cc)
    by (Some span) at is = span_meets ray m box span meet r is_matrix b at (cc)

some_meets : (ray : RayValue) (m : MatrixValue) (o : Option BoxValue) (meet : MeetValue) → IsRay ray → IsMatrix m → IfSome o IsBox
    → box_meet ray m o ≡ Some meet → MeetsIn ray m o meet
some_meets ray m None meet r is_matrix b same = absurd (cc)
some_meets ray m (Some box) meet r is_matrix b same = object_meets ray m box meet r is_matrix b same

boxes_meet : (ray : RayValue) (m : MatrixValue) (boxes : List (Option BoxValue)) (i : ℕ) (meet : MeetValue) → IsRay ray → IsMatrix m → All IsAabb boxes
    → option_and_then (box_meet ray m) (slice_get boxes i) ≡ Some meet → MeetsIn ray m (option_and_then (λ box. box) (slice_get boxes i)) meet
boxes_meet ray m boxes i meet r is_matrix all same = by (slice_get boxes i) refl same
  where
    by : (o : Option (Option BoxValue)) → slice_get boxes i ≡ o → option_and_then (box_meet ray m) o ≡ Some meet → MeetsIn ray m (option_and_then (λ box. box) o) meet
    by None at is = absurd (cc)
    by (Some box) at is =
        let limits : IsAabb box = All-at IsAabb boxes i box all at in
        some_meets ray m box meet r is_matrix limits.limits is

-- of a primitive
shape_meets : (ray : RayValue) (m : MatrixValue) (i : ℕ) (s : Shapes) (meet : MeetValue) → IsRay ray → IsMatrix m → ShapesAreWithin s
    → ((box : BoxValue) → shape_box i s ≡ Some box → KeepsPoints m box) → shape_meet ray m i s ≡ Some meet → MeetsIn ray m (shape_box i s) meet
shape_meets ray m i (Triangles format size ts) meet r is_matrix within keeps same = triangle_meets ray m (slice_get ts i) meet r keeps same
shape_meets ray m i (Boxes bs) meet r is_matrix within keeps same = boxes_meet ray m bs i meet r is_matrix within same

prim_meets : (ray : RayValue) (m : MatrixValue) (gs : List Geometry) (place : PrimPlace) (meet : MeetValue) → IsRay ray → IsMatrix m → All IsGeometry gs
    → ((box : BoxValue) → prim_box gs place ≡ Some box → KeepsPoints m box) → meet_of gs place ray m ≡ Some meet → MeetsIn ray m (prim_box gs place) meet
prim_meets ray m gs place meet r is_matrix all keeps same = by (slice_get gs place.geometry) refl keeps same
  where
    by : (o : Option Geometry) → slice_get gs place.geometry ≡ o
        → ((box : BoxValue) → option_and_then (λ (g : Geometry). shape_box place.primitive g.shapes) o ≡ Some box → KeepsPoints m box)
        → option_and_then (λ (g : Geometry). shape_meet ray m place.primitive g.shapes) o ≡ Some meet
        → MeetsIn ray m (option_and_then (λ (g : Geometry). shape_box place.primitive g.shapes) o) meet
    by None at kept is = absurd (cc)
    by (Some g) at kept is =
        let limits : IsGeometry g = All-at IsGeometry gs place.geometry g all at in
        shape_meets ray m place.primitive g.shapes meet r is_matrix limits.within kept is

-- ---- what is found

-- it is found inside the box of the primitive at a place
pub record IsFoundIn (ray : RayValue) (p : Placement) (place : PrimPlace) (f : Found) : Type 0 where
  pub box : BoxValue
  pub is_it : prim_box p.bottom.geometries place ≡ Some box
  pub inside : IsInside (object_of ray p.instance.matrix) box (numerator f.t) (denominator f.t)
  pub in_order : IsInOrder f

-- something was met, and this is what was found
record IsOf (at : Placed) (i : ℕ) (o : Option MeetValue) (f : Found) : Type 0 where
  pub meet : MeetValue
  pub met : o ≡ Some meet
  pub is_it : f ≡ found_of at i meet

IsOf-admitted : (flags : RayFlags) (at : Placed) (i : ℕ) (o : Option MeetValue) (f : Found) → Member f (admitted flags at i o) → IsOf at i o f
IsOf-admitted flags at i None f m = absurd m
IsOf-admitted flags at i (Some meet) f m = by (passes_over flags at meet) m
  where
    by : (b : Bool) → Member f (if b then [] else found_of at i meet ∷ []) → IsOf at i (Some meet) f
    by true n = absurd n
    by false (inl same) = record { meet = meet; met = refl; is_it = sym same }
    by false (inr n) = absurd n

IsOf-found_at : (ray : RayValue) (flags : RayFlags) (gs : List Geometry) (at : Placed) (i : ℕ) (f : Found) → Member f (found_at ray flags gs at i)
    → IsOf at i (meet_of gs (record { geometry = at.geometry; primitive = i }) ray at.instance.matrix) f
unfolding found_at
IsOf-found_at ray flags gs at i f m = IsOf-admitted flags at i (meet_of gs (record { geometry = at.geometry; primitive = i }) ray at.instance.matrix) f m

prim_keeps : (p : Placement) → IsWellPlaced p → (place : PrimPlace) (box : BoxValue) → prim_box p.bottom.geometries place ≡ Some box → KeepsPoints p.instance.matrix box
prim_keeps p w place box is =
    prim_held (KeepsPoints p.instance.matrix) p.bottom.geometries place box is (All-KeepsPoints p.instance.matrix p.bottom.geometries w.kept)

is_found_in : (ray : RayValue) (p : Placement) (place : PrimPlace) (at : Placed) (f : Found) (meet : MeetValue)
    → MeetsIn ray p.instance.matrix (prim_box p.bottom.geometries place) meet → f ≡ found_of at place.primitive meet → IsFoundIn ray p place f
is_found_in ray p place at f meet h same =
    subst (IsFoundIn ray p place) (sym same)
    (record { box = h.box; is_it = h.is_it; inside = h.inside at place.primitive; in_order = h.in_order at place.primitive })

-- at a place
pub found_inside_at : (ray : RayValue) (flags : RayFlags) (i : ℕ) (p : Placement) (place : PrimPlace) (f : Found) → IsRay ray → IsWellPlaced p
    → Member f (found_by_place ray flags i p place) → IsFoundIn ray p place f
found_inside_at ray flags i p place f r w m = by (slice_get p.bottom.geometries place.geometry) m
  where
    by : (o : Option Geometry) → Member f (found_by ray flags i p place o) → IsFoundIn ray p place f
    by None n = absurd n
    by (Some geometry) n =
        let at : Placed = placed flags i p.instance place.geometry geometry in
        let of_it : IsOf at place.primitive (meet_of p.bottom.geometries place ray p.instance.matrix) f =
        IsOf-found_at ray flags p.bottom.geometries at place.primitive f n in
        is_found_in ray p place at f of_it.meet
        (prim_meets ray p.instance.matrix p.bottom.geometries place of_it.meet r w.matrix w.sound.limits.each (prim_keeps p w place) of_it.met)
        of_it.is_it

-- of an item
pub found_inside : (ray : RayValue) (flags : RayFlags) (i : ℕ) (p : Placement) (item : ℕ) (f : Found) → IsRay ray → IsWellPlaced p
    → Member f (found_by_item ray flags i p item) → IsFoundIn ray p (place_at p.bottom.geometries item) f
found_inside ray flags i p item f r w m = found_inside_at ray flags i p (place_at p.bottom.geometries item) f r w m
