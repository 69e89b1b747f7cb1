-- The primitives that are read of their stored form are within the limits.
use Rattle.std.proofs.Common.{ℕ, ◌≡◌, ◌^◌, ◌&&◌, Bool, true, false, List, length, Option, Some, None, refl, sym, subst}
use Rattle.std.specs.Prelude.{IfSome, All, if◌then◌else◌}
use Rattle.ray_geom.specs.declared.vec3.Vec3.{Vec3}
use Rattle.ray_geom.specs.Vector.{IsShort}
use Rattle.ray_geom.specs.Boxes.{BoxValue, box_value}
use Rattle.ray_bytes.specs.InactiveMark.{is_inactive_mark}
use Rattle.ray_contents.specs.Limits.{point_within}
use Rattle.ray_contents.proofs.Gathered.{length-all_some, All-all_some}
use Rattle.ray_primitives.specs.declared.index_values.IndexValues.{IndexValues}
use Rattle.ray_primitives.specs.Primitives.{TriangleValue, IsTriangle, IsTriangleOf, IsAabb, index_fits, active_triangle, inactive_triangle}
use Rattle.ray_primitives.specs.BoxReading.{is_ordered}
use Rattle.ray_primitives.specs.StoredPrimitives.{point_at, indices_at, indices_fit, is_zero, is_zero_but_x, inactive_from, active_from, marked_from, stored_from, stored_triangle, part_at, stored_triangle_at, stored_triangles, inactive_box_from, active_box_from, stored_box_from, stored_box, stored_box_at, stored_boxes}
use Rattle.ray_primitives.proofs.Results.{short_within}
use Rattle.ray_primitives.proofs.BoxLimits.{IsBelow-is_ordered}
use Rattle.ray_primitives.proofs.Chosen.{AreTrue, if_some, same_some, three}

fit_each : (size : ℕ) (i : IndexValues) → indices_fit size i ≡ true → AreTrue (index_fits size i.first) (index_fits size i.second) (index_fits size i.third)
unfolding indices_fit
fit_each size i e = three (index_fits size i.first) (index_fits size i.second) (index_fits size i.third) e

-- ---- triangles

record IsOf (indices : IndexValues) (t : TriangleValue) : Type 0 where
  limits : IsTriangle t
  same : t.indices ≡ indices

of_same : (indices : IndexValues) (s t : TriangleValue) → IsOf indices s → s ≡ t → IsOf indices t
of_same indices s t h e = subst (λ r. IsOf indices r) e h

inactive_of : (a b c : Vec3) (indices : IndexValues) (t : TriangleValue) → inactive_from a b c indices ≡ Some t → IsOf indices t
unfolding inactive_from
inactive_of a b c indices t e =
    let h = if_some ((is_zero_but_x a && is_zero b) && is_zero c) (Some (inactive_triangle indices)) t e in
    of_same indices (inactive_triangle indices) t (record { limits = record { limits = tt }; same = refl })
    (same_some (inactive_triangle indices) t (Some (inactive_triangle indices)) refl h.1)

active_of : (a b c : Option Vec3) (indices : IndexValues) (t : TriangleValue) →
    ((p : Vec3) → a ≡ Some p → IsShort (2 ^ 19) p) → ((p : Vec3) → b ≡ Some p → IsShort (2 ^ 19) p) → ((p : Vec3) → c ≡ Some p → IsShort (2 ^ 19) p) →
    active_from a b c indices ≡ Some t → IsOf indices t
active_of (Some a) (Some b) (Some c) indices t p q r e =
    of_same indices (active_triangle a b c indices) t
    (record { limits = record { limits = record { v0_short = p a refl; v1_short = q b refl; v2_short = r c refl } }; same = refl })
    (same_some (active_triangle a b c indices) t (Some (active_triangle a b c indices)) refl e)
active_of (Some a) (Some b) None indices t p q r e = absurd cc
active_of (Some a) None c indices t p q r e = absurd cc
active_of None b c indices t p q r e = absurd cc

by_mark : (marked : Bool) (a b c : Vec3) (indices : IndexValues) (t : TriangleValue) →
    (if marked then inactive_from a b c indices else active_from (point_within a) (point_within b) (point_within c) indices) ≡ Some t → IsOf indices t
by_mark true a b c indices t e = inactive_of a b c indices t e
by_mark false a b c indices t e =
    active_of (point_within a) (point_within b) (point_within c) indices t (short_within a) (short_within b) (short_within c) e

marked_of : (a b c : Vec3) (indices : IndexValues) (t : TriangleValue) → marked_from a b c indices ≡ Some t → IsOf indices t
unfolding marked_from
marked_of a b c indices t e = by_mark (is_inactive_mark a.x) a b c indices t e

stored_of : (size : ℕ) (a b c : Vec3) (indices : IndexValues) (t : TriangleValue) → stored_from size a b c indices ≡ Some t → IsTriangleOf size t
unfolding stored_from
stored_of size a b c indices t e =
    let h = if_some (indices_fit size indices) (marked_from a b c indices) t e in
    let is = marked_of a b c indices t h.1 in
    let fits = fit_each size indices h.0 in
    record {
      limits = is.limits;
      first = subst (λ (i : IndexValues). index_fits size i.first ≡ true) (sym is.same) fits.first;
      second = subst (λ (i : IndexValues). index_fits size i.second ≡ true) (sym is.same) fits.second;
      third = subst (λ (i : IndexValues). index_fits size i.third ≡ true) (sym is.same) fits.third;
    }

triangle_limits : (size : ℕ) (bytes : List ℕ) (t : TriangleValue) → stored_triangle size bytes ≡ Some t → IsTriangleOf size t
unfolding stored_triangle
triangle_limits size bytes t e = stored_of size (point_at bytes 0) (point_at bytes 12) (point_at bytes 24) (indices_at bytes) t e

at_limits : (size : ℕ) (bytes : List ℕ) (i : ℕ) (t : TriangleValue) → stored_triangle_at size bytes i ≡ Some t → IsTriangleOf size t
unfolding stored_triangle_at
at_limits size bytes i t e = triangle_limits size (part_at 48 bytes i) t e

-- what the triangles of bytes keep
pub record AreTrianglesOf (size count : ℕ) (ts : List TriangleValue) : Type 0 where
  pub as_many : length ts ≡ count
  pub each : All (IsTriangleOf size) ts

pub AreTrianglesOf-stored : (size count : ℕ) (bytes : List ℕ) (ts : List TriangleValue) → stored_triangles size count bytes ≡ Some ts → AreTrianglesOf size count ts
AreTrianglesOf-stored size count bytes ts e = record {
  as_many = length-all_some (stored_triangle_at size bytes) count ts e;
  each = All-all_some (IsTriangleOf size) (stored_triangle_at size bytes) (at_limits size bytes) count ts e;
}

-- ---- boxes

aabb_same : (a b : Option BoxValue) → IsAabb a → a ≡ b → IsAabb b
aabb_same a b h e = subst (λ r. IsAabb r) e h

active_aabb : (lo hi : Option Vec3) (box : Option BoxValue) → ((p : Vec3) → lo ≡ Some p → IsShort (2 ^ 19) p) →
    ((p : Vec3) → hi ≡ Some p → IsShort (2 ^ 19) p) → active_box_from lo hi ≡ Some box → IsAabb box
active_aabb (Some lo) (Some hi) box p q e =
    let h = if_some (is_ordered lo hi) (Some (Some (box_value lo hi))) box e in
    let below = IsBelow-is_ordered lo hi h.0 in
    aabb_same (Some (box_value lo hi)) box
    (record { limits = record { lo_short = p lo refl; hi_short = q hi refl; x_ordered = below.x; y_ordered = below.y; z_ordered = below.z } })
    (same_some (Some (box_value lo hi)) box (Some (Some (box_value lo hi))) refl h.1)
active_aabb (Some lo) None box p q e = absurd cc
active_aabb None hi box p q e = absurd cc

inactive_aabb : (lo hi : Vec3) (box : Option BoxValue) → inactive_box_from lo hi ≡ Some box → IsAabb box
unfolding inactive_box_from
inactive_aabb lo hi box e =
    let h = if_some (is_zero_but_x lo && is_zero hi) (Some None) box e in
    aabb_same None box (record { limits = tt }) (same_some None box (Some None) refl h.1)

aabb_by_mark : (marked : Bool) (lo hi : Vec3) (box : Option BoxValue) →
    (if marked then inactive_box_from lo hi else active_box_from (point_within lo) (point_within hi)) ≡ Some box → IsAabb box
aabb_by_mark true lo hi box e = inactive_aabb lo hi box e
aabb_by_mark false lo hi box e = active_aabb (point_within lo) (point_within hi) box (short_within lo) (short_within hi) e

aabb_limits : (lo hi : Vec3) (box : Option BoxValue) → stored_box_from lo hi ≡ Some box → IsAabb box
unfolding stored_box_from
aabb_limits lo hi box e = aabb_by_mark (is_inactive_mark lo.x) lo hi box e

box_at_limits : (bytes : List ℕ) (i : ℕ) (box : Option BoxValue) → stored_box_at bytes i ≡ Some box → IsAabb box
unfolding stored_box_at stored_box
box_at_limits bytes i box e = let part = part_at 24 bytes i in aabb_limits (point_at part 0) (point_at part 12) box e

-- what the boxes of bytes keep
pub record AreBoxesOf (count : ℕ) (boxes : List (Option BoxValue)) : Type 0 where
  pub as_many : length boxes ≡ count
  pub each : All IsAabb boxes

pub AreBoxesOf-stored : (count : ℕ) (bytes : List ℕ) (boxes : List (Option BoxValue)) → stored_boxes count bytes ≡ Some boxes → AreBoxesOf count boxes
AreBoxesOf-stored count bytes boxes e = record {
  as_many = length-all_some (stored_box_at bytes) count boxes e;
  each = All-all_some IsAabb (stored_box_at bytes) (box_at_limits bytes) count boxes e;
}

-- ---- the same of what is read, if anything is

if_read : {X : Type 0} (P : X → Type 0) (o : Option X) → ((x : X) → o ≡ Some x → P x) → IfSome o P
if_read P (Some x) each = each x refl
if_read P None each = tt

pub IfSome-triangles : (size count : ℕ) (bytes : List ℕ) →
    IfSome (stored_triangles size count bytes) (λ ts. length ts ≡ count) × IfSome (stored_triangles size count bytes) (All (IsTriangleOf size))
IfSome-triangles size count bytes = (
  if_read (λ ts. length ts ≡ count) (stored_triangles size count bytes) (λ ts e. (AreTrianglesOf-stored size count bytes ts e).as_many),
  if_read (All (IsTriangleOf size)) (stored_triangles size count bytes) (λ ts e. (AreTrianglesOf-stored size count bytes ts e).each),
)

pub IfSome-boxes : (count : ℕ) (bytes : List ℕ) →
    IfSome (stored_boxes count bytes) (λ boxes. length boxes ≡ count) × IfSome (stored_boxes count bytes) (All IsAabb)
IfSome-boxes count bytes = (
  if_read (λ boxes. length boxes ≡ count) (stored_boxes count bytes) (λ boxes e. (AreBoxesOf-stored count bytes boxes e).as_many),
  if_read (All IsAabb) (stored_boxes count bytes) (λ boxes e. (AreBoxesOf-stored count bytes boxes e).each),
)
