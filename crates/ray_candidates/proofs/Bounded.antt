-- What holds of the boxes of all active primitives of a structure holds of that of one.
use Rattle.std.proofs.Common.{◌≡◌, refl, subst, ℕ, Option, Some, None, option_and_then, IfSome, filter_map, List, All, slice_get}
use Rattle.ray_geom.specs.Boxes.{BoxValue}
use Rattle.ray_primitives.specs.Primitives.{box_of_triangle}
use Rattle.ray_geometries.specs.declared.geometry.Geometry.{Geometry}
use Rattle.ray_geometries.specs.declared.shapes.Shapes.{Shapes}
use Rattle.ray_geometries.specs.declared.shapes.Shapes.TheVariants.{Triangles, Boxes}
use Rattle.ray_leaves.specs.declared.prim_place.PrimPlace.{PrimPlace}
use Rattle.ray_geometries.specs.Contents.{boxes_of, boxes_of_shapes, active_boxes}
use Rattle.ray_bottom.proofs.Held.{All-flat_map, IfSome-filter_map}
use Rattle.ray_candidates.specs.Placements.{shape_box, prim_box}

some_holds : {X : Type 0} (P : X → Type 0) (o : Option X) (x : X) → o ≡ Some x → IfSome o P → P x
some_holds P o x is holds = by (subst (λ p. IfSome p P) is holds)
  where
    by : IfSome (Some x) P → P x
    by h = h

-- what holds of all that a list gives holds of what one item gives
pub left_held : {X : Type 0} (P : BoxValue → Type 0) (f : X → Option BoxValue) (xs : List X) (i : ℕ) (box : BoxValue)
    → option_and_then f (slice_get xs i) ≡ Some box → All P (filter_map f xs) → P box
left_held P f xs i box is all = by (slice_get xs i) refl is
  where
    by : (o : Option _) → slice_get xs i ≡ o → option_and_then f o ≡ Some box → P box
    by None at same = absurd (cc)
    by (Some x) at same = some_holds P (f x) box same (IfSome-filter_map P f xs i x all at)

pub shape_held : (P : BoxValue → Type 0) (i : ℕ) (s : Shapes) (box : BoxValue) → shape_box i s ≡ Some box → All P (boxes_of_shapes s) → P box
shape_held P i (Triangles format size ts) box is all = left_held P box_of_triangle ts i box is all
shape_held P i (Boxes bs) box is all = left_held P (λ b. b) bs i box is all

pub prim_held : (P : BoxValue → Type 0) (gs : List Geometry) (place : PrimPlace) (box : BoxValue) → prim_box gs place ≡ Some box → All P (active_boxes gs) → P box
prim_held P gs place box is all = by (slice_get gs place.geometry) refl is
  where
    by : (o : Option Geometry) → slice_get gs place.geometry ≡ o → option_and_then (λ (g : Geometry). shape_box place.primitive g.shapes) o ≡ Some box → P box
    by None at same = absurd (cc)
    by (Some g) at same = shape_held P place.primitive g.shapes box same (All-flat_map P boxes_of gs place.geometry g all at)
