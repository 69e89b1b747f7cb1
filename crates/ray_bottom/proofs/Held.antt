-- What holds of the boxes of all active primitives holds of one; and where a transform keeps bounds, it keeps each of them.
use Rattle.std.proofs.Common.{ℕ, ◌≡◌, ◌++◌, zero, suc, List, [], ◌∷◌, Option, Some, None, option_map, get_or, refl, sym, ap, subst, arith}
use Rattle.std.specs.Prelude.{All, IfSome, slice_get}
use Rattle.std.specs.List.{filter_map, cons_option, flat_map}
use Rattle.std.proofs.lemmas.List.Elements.{All-cons, All-tail, All-nil}
use Rattle.std.proofs.lemmas.List.Concat.{flat_map-cons}
use Rattle.ray_geom.specs.declared.vec3.Vec3.{Vec3}
use Rattle.ray_geom.specs.Scene.{RayValue, TriValue, tri_value}
use Rattle.ray_geom.specs.HitValue.{hit_of}
use Rattle.ray_geom.specs.ObjectRay.{ObjectRayValue, object_of}
use Rattle.ray_prune.specs.BoxReach.{span_of}
use Rattle.ray_geom.specs.Boxes.{BoxValue}
use Rattle.ray_geom.specs.Transform.{MatrixValue, image_of, world_tri}
use Rattle.ray_geom.specs.LeastBoxes.{box_of_tri, HoldsBoxes, IsLeast}
use Rattle.ray_geom.proofs.LeastBoxes.{IsLeastOf-boxes, IsLeast-tri, IsIn-part}
use Rattle.ray_prune.proofs.Corners.{IsShort-image}
use Rattle.ray_contents.specs.Bounds.{KeepsBounds}
use Rattle.ray_primitives.specs.Primitives.{TriangleValue, box_of_triangle}
use Rattle.ray_geometries.specs.declared.geometry.Geometry.{Geometry}
use Rattle.ray_geometries.specs.Contents.{boxes_of, active_boxes, bounds_of}
use Rattle.ray_bottom.specs.Meeting.{Hit, Through, hit_in_world, span_in_object, KeepsPoints, KeepsBoxes, KeepsTri}

-- ---- lists

first_part : {X : Type 0} (P : X → Type 0) (xs ys : List X) → All P (xs ++ ys) → All P xs
first_part P [] ys all = All-nil P
first_part P (x ∷ xs) ys all = All-cons P x xs (all 0 x (omega arith)) (first_part P xs ys (All-tail P x (xs ++ ys) all))

second_part : {X : Type 0} (P : X → Type 0) (xs ys : List X) → All P (xs ++ ys) → All P ys
second_part P [] ys all = all
second_part P (x ∷ xs) ys all = second_part P xs ys (All-tail P x (xs ++ ys) all)

-- what holds of all that the items of a list give holds of what one gives
pub All-flat_map : {X Y : Type 0} (P : Y → Type 0) (f : X → List Y) (xs : List X) (k : ℕ) (x : X) → All P (flat_map f xs) → slice_get xs k ≡ Some x → All P (f x)
All-flat_map P f [] k x all e = absurd cc
All-flat_map P f (z ∷ zs) zero x all e =
    let same : z ≡ x = cc in
    subst (λ y. All P (f y)) same (first_part P (f z) (flat_map f zs) (subst (λ ys. All P ys) (flat_map-cons f z zs) all))
All-flat_map P f (z ∷ zs) (suc k) x all e =
    All-flat_map P f zs k x (second_part P (f z) (flat_map f zs) (subst (λ ys. All P ys) (flat_map-cons f z zs) all)) e

head_of : {Y : Type 0} (P : Y → Type 0) (o : Option Y) (ys : List Y) → All P (cons_option o ys) → IfSome o P × All P ys
head_of P None ys all = (tt, all)
head_of P (Some y) ys all = (all 0 y (omega arith), All-tail P y ys all)

pub IfSome-filter_map : {X Y : Type 0} (P : Y → Type 0) (f : X → Option Y) (xs : List X) (k : ℕ) (x : X) → All P (filter_map f xs) → slice_get xs k ≡ Some x → IfSome (f x) P
IfSome-filter_map P f [] k x all e = absurd cc
IfSome-filter_map P f (z ∷ zs) zero x all e =
    let same : z ≡ x = cc in
    subst (λ y. IfSome (f y) P) same (head_of P (f z) (filter_map f zs) all).0
IfSome-filter_map P f (z ∷ zs) (suc k) x all e = IfSome-filter_map P f zs k x (head_of P (f z) (filter_map f zs) all).1 e

-- ---- bounds that are kept

by_bounds : (m : MatrixValue) (boxes : List BoxValue) (o : Option BoxValue) → KeepsBounds m o → IfSome o (IsLeast (HoldsBoxes boxes)) →
    (o ≡ None → boxes ≡ []) → All (KeepsPoints m) boxes
by_bounds m boxes None keeps least none = subst (λ bs. All (KeepsPoints m) bs) (sym (none refl)) (All-nil (KeepsPoints m))
by_bounds m boxes (Some bounds) keeps least none =
    λ k d below. record { each = λ p is. IsShort-image m bounds p keeps (IsIn-part p (get_or boxes k d) bounds (least.holds k d below) is) }

-- where the images of the corners of the bounds are within the limits, so are those of all points of each active primitive's box
pub All-KeepsPoints : (m : MatrixValue) (gs : List Geometry) → KeepsBounds m (bounds_of gs) → All (KeepsPoints m) (active_boxes gs)
All-KeepsPoints m gs keeps =
    let least = IsLeastOf-boxes (active_boxes gs) (bounds_of gs) refl in
    by_bounds m (active_boxes gs) (bounds_of gs) keeps least.0 least.1.0

pub KeepsBoxes-geometry : (m : MatrixValue) (gs : List Geometry) (k : ℕ) (g : Geometry) → KeepsBounds m (bounds_of gs) → slice_get gs k ≡ Some g → KeepsBoxes m (boxes_of g)
KeepsBoxes-geometry m gs k g keeps e = record { each = All-flat_map (KeepsPoints m) boxes_of gs k g (All-KeepsPoints m gs keeps) e }

pub KeepsPoints-triangle : (m : MatrixValue) (ts : List TriangleValue) (k : ℕ) (t : TriangleValue) → KeepsBoxes m (filter_map box_of_triangle ts) →
    slice_get ts k ≡ Some t → IfSome (box_of_triangle t) (KeepsPoints m)
KeepsPoints-triangle m ts k t keeps e = IfSome-filter_map (KeepsPoints m) box_of_triangle ts k t keeps.each e

pub KeepsTri-box : (m : MatrixValue) (tri : TriValue) → KeepsPoints m (box_of_tri tri) → KeepsTri m tri
KeepsTri-box m tri keeps =
    let holds = (IsLeast-tri tri).holds in
    record { v0 = keeps.each tri.v0 holds.v0; v1 = keeps.each tri.v1 holds.v1; v2 = keeps.each tri.v2 holds.v2 }

pub KeepsTri-active : (m : MatrixValue) (o : Option TriValue) (tri : TriValue) → IfSome (option_map box_of_tri o) (KeepsPoints m) → o ≡ Some tri → KeepsTri m tri
KeepsTri-active m None tri keeps e = absurd cc
KeepsTri-active m (Some t) tri keeps e = let same : t ≡ tri = cc in subst (λ u. KeepsTri m u) same (KeepsTri-box m t keeps)

-- ---- what is met

pub hit_in_world-is : (ray : RayValue) (m : MatrixValue) (tri world : TriValue) → world ≡ world_tri m tri →
    option_map Hit (hit_of ray world) ≡ hit_in_world ray m tri
unfolding hit_in_world
hit_in_world-is ray m tri world e = ap (λ (w : TriValue). option_map Hit (hit_of ray w)) e

-- a transform that leaves each point where it is leaves a triangle as it is
pub world_tri-stays : (m : MatrixValue) (tri : TriValue) → ((v : Vec3) → image_of m v ≡ v) → tri ≡ world_tri m tri
world_tri-stays m tri stays i = tri_value (sym (stays tri.v0) i) (sym (stays tri.v1) i) (sym (stays tri.v2) i)

pub span_in_object-is : (ray : RayValue) (m : MatrixValue) (box : BoxValue) (object : ObjectRayValue) → object ≡ object_of ray m →
    option_map Through (span_of object box) ≡ span_in_object ray m box
unfolding span_in_object
span_in_object-is ray m box object e = ap (λ (o : ObjectRayValue). option_map Through (span_of o box)) e
