-- What is stored and read back is the same primitive.
use Rattle.std.proofs.Common.{ℕ, zero, suc, ◌≡◌, ◌<◌, ◌+◌, ◌*◌, ◌^◌, ◌++◌, ◌==◌, ◌&&◌, not, Bool, true, false, List, [], ◌∷◌, length, take, drop, Option, Some, None, mul-suc, refl, sym, ap, subst, ◌∙◌, arith, inl, inr}
use Rattle.std.specs.Prelude.{ℤ, ◌≤ℤ◌, int_lt, nat_le, All, IfSome, slice_get, if◌then◌else◌}
use Rattle.std.specs.Int.{w32, cast_signed, cast_unsigned}
use Rattle.std.specs.Int.RustNames.{FitsSigned}
use Rattle.std.specs.List.{flat_map}
use Rattle.std.proofs.lemmas.Int.{ints, to_z-of_z}
use Rattle.std.proofs.Math.Facts.{Fits-of_z}
use Rattle.std.proofs.lemmas.Bool.{cases_Bool}
use Rattle.std.proofs.lemmas.Bool.Decides.{Decides-int_eq, nat_tests}
use Rattle.std.proofs.lemmas.Option.{get_or_from_slice_get, slice_get_within}
use Rattle.std.proofs.lemmas.List.Concat.{flat_map-cons}
use Rattle.std.proofs.Math.Seq.{take-append_seam, drop-append-add}
use Rattle.byteorder.specs.Endian.{little_bytes, little_number}
use Rattle.byteorder.specs.Numbers.{little_number-reads_back}
use Rattle.ray_geom.specs.declared.vec3.Vec3.{Vec3}
use Rattle.ray_geom.specs.Vector.{IsWithin, IsShort, vec3}
use Rattle.ray_geom.specs.Scene.{TriValue, IsTri}
use Rattle.ray_geom.specs.Boxes.{BoxValue, IsBox, box_value}
use Rattle.ray_geom.specs.Decided.{where_so, short_decided}
use Rattle.ray_bytes.specs.Fields.{word_at, signed_at}
use Rattle.ray_bytes.specs.InactiveMark.{inactive_mark, is_inactive_mark}
use Rattle.ray_contents.specs.Limits.{point_within}
use Rattle.ray_contents.proofs.Gathered.{all_some_items}
use Rattle.ray_primitives.specs.declared.index_values.IndexValues.{IndexValues}
use Rattle.ray_primitives.specs.Primitives.{TriangleValue, IsTriangleOf, IsAabb, index_fits, active_triangle, inactive_triangle}
use Rattle.ray_primitives.specs.StoredPrimitives.{marked_point, zero_point, written_tri, written_box, triangle_bytes, aabb_bytes, point_at, indices_at, indices_fit, is_zero, is_zero_but_x, inactive_from, active_from, marked_from, stored_from, stored_triangle, part_at, stored_triangle_at, stored_triangles, inactive_box_from, active_box_from, stored_box_from, stored_box, stored_box_at, stored_boxes}
use Rattle.ray_primitives.specs.BoxReading.{is_ordered}

-- ---- numbers

-- a coordinate that is written and read back
coordinate : (z : ℤ) → FitsSigned w32 z → cast_signed w32 (little_number 4 (little_bytes 4 (cast_unsigned w32 z) ++ [])) ≡ z
coordinate z f =
    let fits = Fits-of_z {w = w32} {z = z} f in
    ap (cast_signed w32) (little_number-reads_back 4 (cast_unsigned w32 z) [] (omega arith)) ∙ to_z-of_z w32 z f

-- a word that is written and read back
word : (n : ℕ) → n < 2 ^ 32 → little_number 4 (little_bytes 4 n ++ []) ≡ n
word n below = little_number-reads_back 4 n [] below

record FitsPoint (v : Vec3) : Type 0 where
  x : FitsSigned w32 v.x
  y : FitsSigned w32 v.y
  z : FitsSigned w32 v.z

short_fits : (v : Vec3) → IsShort (2 ^ 19) v → FitsPoint v
short_fits v h =
    let px = h.x_within in
    let py = h.y_within in
    let pz = h.z_within in
    record { x = omega (arith, ints); y = omega (arith, ints); z = omega (arith, ints) }

marked_fits : FitsPoint marked_point
marked_fits = record { x = omega (arith, ints); y = omega (arith, ints); z = omega (arith, ints) }

zero_fits : FitsPoint zero_point
zero_fits = record { x = omega (arith, ints); y = omega (arith, ints); z = omega (arith, ints) }

-- ---- points of a triangle

v0_back : (t : TriangleValue) → FitsPoint (written_tri t.tri).v0 → point_at (triangle_bytes t) 0 ≡ (written_tri t.tri).v0
unfolding point_at triangle_bytes signed_at word_at
v0_back t f = let v = (written_tri t.tri).v0 in λ i. vec3 (coordinate v.x f.x i) (coordinate v.y f.y i) (coordinate v.z f.z i)

v1_back : (t : TriangleValue) → FitsPoint (written_tri t.tri).v1 → point_at (triangle_bytes t) 12 ≡ (written_tri t.tri).v1
unfolding point_at triangle_bytes signed_at word_at
v1_back t f = let v = (written_tri t.tri).v1 in λ i. vec3 (coordinate v.x f.x i) (coordinate v.y f.y i) (coordinate v.z f.z i)

v2_back : (t : TriangleValue) → FitsPoint (written_tri t.tri).v2 → point_at (triangle_bytes t) 24 ≡ (written_tri t.tri).v2
unfolding point_at triangle_bytes signed_at word_at
v2_back t f = let v = (written_tri t.tri).v2 in λ i. vec3 (coordinate v.x f.x i) (coordinate v.y f.y i) (coordinate v.z f.z i)

-- an index value that fits has 32 bits
below_by : (none half : Bool) (index : ℕ) →
    (if none then index == 0 else (if half then nat_le index 65535 else nat_le index 4294967295)) ≡ true → index < 2 ^ 32
below_by true half index e = grind (arith, nat_tests)
below_by false true index e = grind (arith, nat_tests)
below_by false false index e = grind (arith, nat_tests)

index_below : (size index : ℕ) → index_fits size index ≡ true → index < 2 ^ 32
unfolding index_fits
index_below size index e = below_by (size == 0) (size == 2) index e

indices_back : (size : ℕ) (t : TriangleValue) → IsTriangleOf size t → indices_at (triangle_bytes t) ≡ t.indices
unfolding indices_at triangle_bytes word_at
indices_back size t is =
    let p = word t.indices.first (index_below size t.indices.first is.first) in
    let q = word t.indices.second (index_below size t.indices.second is.second) in
    let r = word t.indices.third (index_below size t.indices.third is.third) in
    λ i. record { first = p i; second = q i; third = r i }

-- ---- the tests are passed

where_so-yes : {P X : Type 0} (d : Dec P) (x : X) → P → where_so d x ≡ Some x
where_so-yes (yes p) x h = refl
where_so-yes (no n) x h = absurd (n h)

within_short : (v : Vec3) → IsShort (2 ^ 19) v → point_within v ≡ Some v
unfolding point_within
within_short v h = where_so-yes (short_decided (2 ^ 19) v) v h

not_marked : (z : ℤ) → IsWithin (2 ^ 19) z → is_inactive_mark z ≡ false
not_marked z h =
    elim (cases_Bool (is_inactive_mark z)) [
      | inl marked ↦ let above = h.above in let same : z ≡ inactive_mark = (Decides-int_eq z inactive_mark).0 marked in absurd (omega (arith, ints))
      | inr unmarked ↦ unmarked
    ]

all_three : (a b c : Bool) → a ≡ true → b ≡ true → c ≡ true → ((a && b) && c) ≡ true
all_three a b c p q r = λ i. (p i && q i) && r i

fit_all : (size : ℕ) (t : TriangleValue) → IsTriangleOf size t → indices_fit size t.indices ≡ true
unfolding indices_fit
fit_all size t is = all_three _ _ _ is.first is.second is.third

-- a chain of two tests
passes : {X : Type 0} (ok marked : Bool) (x y z : Option X) → ok ≡ true → marked ≡ false → (if ok then (if marked then x else y) else z) ≡ y
passes ok marked x y z p q = λ i. if p i then (if q i then x else y) else z

passes_marked : {X : Type 0} (ok marked : Bool) (x y z : Option X) → ok ≡ true → marked ≡ true → (if ok then (if marked then x else y) else z) ≡ x
passes_marked ok marked x y z p q = λ i. if p i then (if q i then x else y) else z

active_back : (size : ℕ) (tri : TriValue) (indices : IndexValues) → IsTri tri → indices_fit size indices ≡ true →
    stored_from size tri.v0 tri.v1 tri.v2 indices ≡ Some (active_triangle tri.v0 tri.v1 tri.v2 indices)
unfolding stored_from marked_from
active_back size tri indices is fit =
    passes (indices_fit size indices) (is_inactive_mark tri.v0.x) (inactive_from tri.v0 tri.v1 tri.v2 indices)
    (active_from (point_within tri.v0) (point_within tri.v1) (point_within tri.v2) indices) None fit (not_marked tri.v0.x is.v0_short.x_within)
    ∙ (λ i. active_from (within_short tri.v0 is.v0_short i) (within_short tri.v1 is.v1_short i) (within_short tri.v2 is.v2_short i) indices)

inactive_back : (size : ℕ) (indices : IndexValues) → indices_fit size indices ≡ true →
    stored_from size marked_point zero_point zero_point indices ≡ Some (inactive_triangle indices)
unfolding stored_from marked_from inactive_from is_zero is_zero_but_x
inactive_back size indices fit = λ i. if fit i then Some (inactive_triangle indices) else None

from_written : (size : ℕ) (o : Option TriValue) (indices : IndexValues) → IfSome o IsTri → indices_fit size indices ≡ true →
    stored_from size (written_tri o).v0 (written_tri o).v1 (written_tri o).v2 indices ≡ Some (record { tri = o; indices = indices })
from_written size (Some tri) indices is fit = active_back size tri indices is fit
from_written size None indices is fit = inactive_back size indices fit

record FitsTri (tri : TriValue) : Type 0 where
  v0 : FitsPoint tri.v0
  v1 : FitsPoint tri.v1
  v2 : FitsPoint tri.v2

written_fits : (o : Option TriValue) → IfSome o IsTri → FitsTri (written_tri o)
written_fits (Some tri) is = record { v0 = short_fits tri.v0 is.v0_short; v1 = short_fits tri.v1 is.v1_short; v2 = short_fits tri.v2 is.v2_short }
written_fits None is = record { v0 = marked_fits; v1 = zero_fits; v2 = zero_fits }

-- a triangle that is stored and read back
pub triangle_back : (size : ℕ) (t : TriangleValue) → IsTriangleOf size t → stored_triangle size (triangle_bytes t) ≡ Some t
unfolding stored_triangle
triangle_back size t is =
    let fits = written_fits t.tri is.limits.limits in
    let p = v0_back t fits.v0 in
    let q = v1_back t fits.v1 in
    let r = v2_back t fits.v2 in
    let s = indices_back size t is in
    (λ i. stored_from size (p i) (q i) (r i) (s i)) ∙ from_written size t.tri t.indices is.limits.limits (fit_all size t is)

-- ---- boxes

lo_back : (box : Option BoxValue) → FitsPoint (written_box box).lo → point_at (aabb_bytes box) 0 ≡ (written_box box).lo
unfolding point_at aabb_bytes signed_at word_at
lo_back box f = let v = (written_box box).lo in λ i. vec3 (coordinate v.x f.x i) (coordinate v.y f.y i) (coordinate v.z f.z i)

hi_back : (box : Option BoxValue) → FitsPoint (written_box box).hi → point_at (aabb_bytes box) 12 ≡ (written_box box).hi
unfolding point_at aabb_bytes signed_at word_at
hi_back box f = let v = (written_box box).hi in λ i. vec3 (coordinate v.x f.x i) (coordinate v.y f.y i) (coordinate v.z f.z i)

not_below : (a b : ℤ) → a ≤ℤ b → not (int_lt b a) ≡ true
not_below a b h = grind (arith, ints)

ordered_back : (lo hi : Vec3) → IsBox (box_value lo hi) → is_ordered lo hi ≡ true
unfolding is_ordered
ordered_back lo hi is = all_three _ _ _ (not_below lo.x hi.x is.x_ordered) (not_below lo.y hi.y is.y_ordered) (not_below lo.z hi.z is.z_ordered)

active_box_back : (box : BoxValue) → IsBox box → stored_box_from box.lo box.hi ≡ Some (Some box)
unfolding stored_box_from
active_box_back box is =
    (λ i. if not_marked box.lo.x is.lo_short.x_within i then inactive_box_from box.lo box.hi
    else active_box_from (within_short box.lo is.lo_short i) (within_short box.hi is.hi_short i))
    ∙ (λ i. if ordered_back box.lo box.hi is i then Some (Some box) else None)

inactive_box_back : stored_box_from marked_point zero_point ≡ Some None
unfolding stored_box_from inactive_box_from is_zero is_zero_but_x
inactive_box_back = refl

box_from_written : (box : Option BoxValue) → IfSome box IsBox → stored_box_from (written_box box).lo (written_box box).hi ≡ Some box
box_from_written (Some box) is = active_box_back box is
box_from_written None is = inactive_box_back

record FitsBox (box : BoxValue) : Type 0 where
  lo : FitsPoint box.lo
  hi : FitsPoint box.hi

written_box_fits : (box : Option BoxValue) → IfSome box IsBox → FitsBox (written_box box)
written_box_fits (Some box) is = record { lo = short_fits box.lo is.lo_short; hi = short_fits box.hi is.hi_short }
written_box_fits None is = record { lo = marked_fits; hi = zero_fits }

-- a box that is stored and read back
pub box_back : (box : Option BoxValue) → IsAabb box → stored_box (aabb_bytes box) ≡ Some box
unfolding stored_box
box_back box is =
    let fits = written_box_fits box is.limits in
    let p = lo_back box fits.lo in
    let q = hi_back box fits.hi in
    (λ i. stored_box_from (p i) (q i)) ∙ box_from_written box is.limits

-- ---- lists

pub length-triangle_bytes : (t : TriangleValue) → length (triangle_bytes t) ≡ 48
unfolding triangle_bytes
length-triangle_bytes t = refl

pub length-aabb_bytes : (box : Option BoxValue) → length (aabb_bytes box) ≡ 24
unfolding aabb_bytes
length-aabb_bytes box = refl

-- part k of parts of one size that stand one after the other
part_of : {X : Type 0} (f : X → List ℕ) (n : ℕ) → ((x : X) → length (f x) ≡ n) → (xs : List X) (k : ℕ) (x : X) → slice_get xs k ≡ Some x →
    take n (drop (n * k) (flat_map f xs)) ≡ f x
part_of f n sized [] k x e = absurd cc
part_of f n sized (z ∷ zs) zero x e =
    let same : z ≡ x = cc in
    let none : n * 0 ≡ 0 = omega arith in
    ap (λ j. take n (drop j (flat_map f (z ∷ zs)))) none
    ∙ (ap (λ ys. take n ys) (flat_map-cons f z zs)
    ∙ (ap (λ j. take j (f z ++ flat_map f zs)) (sym (sized z)) ∙ (take-append_seam (f z) (flat_map f zs) ∙ ap f same)))
part_of f n sized (z ∷ zs) (suc k) x e =
    let next : n * suc k ≡ length (f z) + n * k = let many = sized z in omega (arith, mul-suc n k) in
    ap (λ j. take n (drop j (flat_map f (z ∷ zs)))) next
    ∙ (ap (λ ys. take n (drop (length (f z) + n * k) ys)) (flat_map-cons f z zs)
    ∙ (ap (λ ys. take n ys) (drop-append-add (f z) (flat_map f zs) (n * k)) ∙ part_of f n sized zs k x e))

item_of : {X : Type 0} (P : X → Type 0) (xs : List X) (k : ℕ) (x : X) → All P xs → slice_get xs k ≡ Some x → P x
item_of P xs k x all e = subst (λ y. P y) (get_or_from_slice_get xs k x x e) (all k x (slice_get_within xs k x e))

-- triangles, and boxes, that are stored one after the other and read back
pub triangles_back : (size : ℕ) (ts : List TriangleValue) → All (IsTriangleOf size) ts →
    stored_triangles size (length ts) (flat_map triangle_bytes ts) ≡ Some ts
unfolding stored_triangle_at part_at
triangles_back size ts all =
    all_some_items (stored_triangle_at size (flat_map triangle_bytes ts)) ts
    (λ k t e. ap (stored_triangle size) (part_of triangle_bytes 48 length-triangle_bytes ts k t e)
    ∙ triangle_back size t (item_of (IsTriangleOf size) ts k t all e))

pub boxes_back : (boxes : List (Option BoxValue)) → All IsAabb boxes → stored_boxes (length boxes) (flat_map aabb_bytes boxes) ≡ Some boxes
unfolding stored_box_at part_at
boxes_back boxes all =
    all_some_items (stored_box_at (flat_map aabb_bytes boxes)) boxes
    (λ k box e. ap stored_box (part_of aabb_bytes 24 length-aabb_bytes boxes k box e) ∙ box_back box (item_of IsAabb boxes k box all e))
