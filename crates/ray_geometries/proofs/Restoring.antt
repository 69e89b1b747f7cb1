-- What is stored of a geometry and read back is its primitives, and what is read is within the limits.
use Rattle.std.proofs.Common.{ℕ, ◌≡◌, ◌<◌, ◌*◌, ◌==◌, ◌&&◌, Bool, true, false, List, [], ◌∷◌, length, Option, Some, None, option_map, refl, sym, ap, subst, ◌∙◌, arith, length-append, mul-suc}
use Rattle.std.specs.Prelude.{All, IfSome, slice_index, if◌then◌else◌}
use Rattle.std.specs.List.{flat_map}
use Rattle.std.proofs.lemmas.Bool.Decides.{nat_tests}
use Rattle.std.proofs.lemmas.List.Concat.{flat_map-cons}
use Rattle.ray_geom.specs.Boxes.{BoxValue}
use Rattle.ray_bytes.specs.declared.format.Format.{Format}
use Rattle.ray_flags.specs.declared.kind.Kind.{Kind}
use Rattle.ray_flags.specs.declared.kind.Kind.TheVariants.{Triangle, Aabb}
use Rattle.ray_primitives.specs.Primitives.{TriangleValue, IsTriangleOf, IsAabb}
use Rattle.ray_primitives.specs.StoredPrimitives.{triangle_bytes, aabb_bytes, stored_triangles, stored_boxes}
use Rattle.ray_primitives.proofs.StoredBack.{triangles_back, boxes_back, length-triangle_bytes, length-aabb_bytes}
use Rattle.ray_primitives.proofs.StoredAgain.{triangles_again, boxes_again}
use Rattle.ray_primitives.proofs.StoredLimits.{AreTrianglesOf-stored, AreBoxesOf-stored}
use Rattle.ray_geometries.specs.declared.geometry.Geometry.{Geometry}
use Rattle.ray_geometries.specs.declared.shapes.Shapes.{Shapes}
use Rattle.ray_geometries.specs.declared.shapes.Shapes.TheVariants.{Triangles, Boxes}
use Rattle.ray_geometries.specs.Contents.{IsGeometry, ShapesAreWithin, is_index_size, kind_of_shapes, count_of_shapes}
use Rattle.ray_geometries.specs.Storing.{triangles_of, boxes_of_elements, stored_shapes, element_bytes, format_of, index_size_of, AreStored, IsStoredBack}
use Rattle.ray_primitives.proofs.Chosen.{if_some}

-- ---- read back

length_parts : {X : Type 0} (f : X → List ℕ) (n : ℕ) → ((x : X) → length (f x) ≡ n) → (xs : List X) → length (flat_map f xs) ≡ n * length xs
length_parts f n sized [] = omega arith
length_parts f n sized (x ∷ xs) =
    let rest = length_parts f n sized xs in
    let first = sized x in
    ap length (flat_map-cons f x xs) ∙ (length-append (f x) (flat_map f xs) ∙ omega (arith, mul-suc n (length xs)))

same_test : (a b : ℕ) → a ≡ b → (a == b) ≡ true
same_test a b e = grind (arith, nat_tests)

both_true : (a b : Bool) → a ≡ true → b ≡ true → (a && b) ≡ true
both_true a b p q = λ i. p i && q i

triangles_back_of : (format : Format) (size : ℕ) (ts : List TriangleValue) → is_index_size size ≡ true → All (IsTriangleOf size) ts →
    triangles_of format size (length ts) (flat_map triangle_bytes ts) ≡ Some (Triangles format size ts)
unfolding triangles_of
triangles_back_of format size ts is all =
    let test = both_true (is_index_size size) (length (flat_map triangle_bytes ts) == 48 * length ts) is
    (same_test (length (flat_map triangle_bytes ts)) (48 * length ts) (length_parts triangle_bytes 48 length-triangle_bytes ts)) in
    λ i. if test i then option_map (Triangles format size) (triangles_back size ts all i) else None

boxes_back_of : (boxes : List (Option BoxValue)) → All IsAabb boxes →
    boxes_of_elements 0 (length boxes) (flat_map aabb_bytes boxes) ≡ Some (Boxes boxes)
unfolding boxes_of_elements
boxes_back_of boxes all =
    let test = same_test (length (flat_map aabb_bytes boxes)) (24 * length boxes) (length_parts aabb_bytes 24 length-aabb_bytes boxes) in
    λ i. if test i then option_map Boxes (boxes_back boxes all i) else None

shapes_back : (s : Shapes) → ShapesAreWithin s →
    stored_shapes (kind_of_shapes s) (format_of s) (index_size_of s) (count_of_shapes s) (element_bytes s) ≡ Some s
shapes_back (Triangles format size ts) within = triangles_back_of format size ts within.0 within.1
shapes_back (Boxes boxes) within = boxes_back_of boxes within

pub IsStoredBack-geometry : (g : Geometry) → IsGeometry g → IsStoredBack g
IsStoredBack-geometry g is = record { same = shapes_back g.shapes is.within }

-- ---- what is read is within the limits

first_of : (a b : Bool) → (a && b) ≡ true → a ≡ true
first_of true b e = refl
first_of false b e = absurd cc

-- what a map gives it gives of a value
pub record IsMapped {X Y : Type 0} (f : X → Y) (o : Option X) (y : Y) : Type 0 where
  pub value : X
  pub is_some : o ≡ Some value
  pub same : f value ≡ y

pub mapped : {X Y : Type 0} (f : X → Y) (o : Option X) (y : Y) → option_map f o ≡ Some y → IsMapped f o y
mapped f None y e = absurd cc
mapped f (Some x) y e = let same : f x ≡ y = cc in record { value = x; is_some = refl; same = same }

AreStored-same : (kind : Kind) (count : ℕ) (s t : Shapes) → AreStored kind count s → s ≡ t → AreStored kind count t
AreStored-same kind count s t h e = subst (λ r. AreStored kind count r) e h

triangles_limits : (format : Format) (size count : ℕ) (bytes : List ℕ) (s : Shapes) → triangles_of format size count bytes ≡ Some s → AreStored Triangle count s
unfolding triangles_of
triangles_limits format size count bytes s e =
    let h = if_some (is_index_size size && (length bytes == 48 * count)) (option_map (Triangles format size) (stored_triangles size count bytes)) s e in
    let m = mapped (Triangles format size) (stored_triangles size count bytes) s h.1 in
    let are = AreTrianglesOf-stored size count bytes m.value m.is_some in
    AreStored-same Triangle count (Triangles format size m.value) s
    (record {
      kind_is = refl;
      count_is = are.as_many;
      within = (first_of (is_index_size size) (length bytes == 48 * count) h.0, are.each);
    })
    m.same

boxes_limits : (size count : ℕ) (bytes : List ℕ) (s : Shapes) → boxes_of_elements size count bytes ≡ Some s → AreStored Aabb count s
unfolding boxes_of_elements
boxes_limits size count bytes s e =
    let h = if_some ((size == 0) && (length bytes == 24 * count)) (option_map Boxes (stored_boxes count bytes)) s e in
    let m = mapped Boxes (stored_boxes count bytes) s h.1 in
    let are = AreBoxesOf-stored count bytes m.value m.is_some in
    AreStored-same Aabb count (Boxes m.value) s (record { kind_is = refl; count_is = are.as_many; within = are.each }) m.same

pub AreStored-shapes : (kind : Kind) (format : Format) (size count : ℕ) (bytes : List ℕ) (s : Shapes) →
    stored_shapes kind format size count bytes ≡ Some s → AreStored kind count s
AreStored-shapes Triangle format size count bytes s e = triangles_limits format size count bytes s e
AreStored-shapes Aabb format size count bytes s e = boxes_limits size count bytes s e

-- ---- what is read and stored again is the same bytes

second_of : (a b : Bool) → (a && b) ≡ true → b ≡ true
second_of true b e = e
second_of false b e = absurd cc

same_number : (a b : ℕ) → (a == b) ≡ true → a ≡ b
same_number a b e = grind (arith, nat_tests)

triangles_again_of : (format : Format) (size count : ℕ) (bytes : List ℕ) (s : Shapes) → ((i : ℕ) → slice_index bytes i < 256) →
    triangles_of format size count bytes ≡ Some s → element_bytes s ≡ bytes
unfolding triangles_of
triangles_again_of format size count bytes s fits e =
    let h = if_some (is_index_size size && (length bytes == 48 * count)) (option_map (Triangles format size) (stored_triangles size count bytes)) s e in
    let m = mapped (Triangles format size) (stored_triangles size count bytes) s h.1 in
    let long = same_number (length bytes) (48 * count) (second_of (is_index_size size) (length bytes == 48 * count) h.0) in
    ap (λ (t : Shapes). element_bytes t) (sym m.same) ∙ triangles_again size count bytes m.value fits long m.is_some

boxes_again_of : (size count : ℕ) (bytes : List ℕ) (s : Shapes) → ((i : ℕ) → slice_index bytes i < 256) →
    boxes_of_elements size count bytes ≡ Some s → element_bytes s ≡ bytes
unfolding boxes_of_elements
boxes_again_of size count bytes s fits e =
    let h = if_some ((size == 0) && (length bytes == 24 * count)) (option_map Boxes (stored_boxes count bytes)) s e in
    let m = mapped Boxes (stored_boxes count bytes) s h.1 in
    let long = same_number (length bytes) (24 * count) (second_of (size == 0) (length bytes == 24 * count) h.0) in
    ap (λ (t : Shapes). element_bytes t) (sym m.same) ∙ boxes_again count bytes m.value fits long m.is_some

again_of : (kind : Kind) (format : Format) (size count : ℕ) (bytes : List ℕ) (s : Shapes) → ((i : ℕ) → slice_index bytes i < 256) →
    stored_shapes kind format size count bytes ≡ Some s → element_bytes s ≡ bytes
again_of Triangle format size count bytes s fits e = triangles_again_of format size count bytes s fits e
again_of Aabb format size count bytes s fits e = boxes_again_of size count bytes s fits e

if_read : {X : Type 0} (P : X → Type 0) (o : Option X) → ((x : X) → o ≡ Some x → P x) → IfSome o P
if_read P (Some x) each = each x refl
if_read P None each = tt

pub element_bytes-stored : (kind : Kind) (format : Format) (size count : ℕ) (bytes : List ℕ) → ((i : ℕ) → slice_index bytes i < 256) →
    IfSome (stored_shapes kind format size count bytes) (λ s. element_bytes s ≡ bytes)
element_bytes-stored kind format size count bytes fits =
    if_read (λ (s : Shapes). element_bytes s ≡ bytes) (stored_shapes kind format size count bytes) (λ s e. again_of kind format size count bytes s fits e)
