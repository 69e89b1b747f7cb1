-- The triangles that are read are within the limits, and their index values fit.
use Rattle.std.proofs.Common.{ℕ, ◌≡◌, ◌^◌, ◌+◌, ◌*◌, ◌==◌, ◌&&◌, nat_le, Bool, true, false, Result, Ok, Err, Option, Some, None, List, length, refl, sym, ap, subst}
use Rattle.std.specs.Prelude.{All, is_some, option_and_then, if◌then◌else◌}
use Rattle.std.specs.Bool.{beq}
use Rattle.ray_geom.specs.declared.vec3.Vec3.{Vec3}
use Rattle.ray_geom.specs.Vector.{IsShort}
use Rattle.ray_geom.specs.Transform.{MatrixValue, image_of}
use Rattle.ray_bytes.specs.declared.data_rule.DataRule.{DataRule}
use Rattle.ray_bytes.specs.declared.data_rule.DataRule.TheVariants.{X9, X10}
use Rattle.ray_bytes.specs.declared.data_fault.DataFault.{DataFault}
use Rattle.ray_bytes.specs.InactiveMark.{is_inactive_mark}
use Rattle.ray_bytes.specs.Views.{Vertices, Indices}
use Rattle.ray_contents.specs.Limits.{point_within}
use Rattle.ray_contents.proofs.Gathered.{All-gathered, gathered_all}
use Rattle.ray_primitives.specs.declared.index_values.IndexValues.{IndexValues}
use Rattle.ray_primitives.specs.declared.triangle_info.TriangleInfo.{TriangleInfo}
use Rattle.ray_primitives.specs.declared.corner.Corner.{Corner}
use Rattle.ray_primitives.specs.Primitives.{TriangleValue, IsTriangle, IsTriangleOf, index_fits, active_triangle, inactive_triangle}
use Rattle.ray_primitives.specs.Updates.{old_at, same_indices, triangle_after}
use Rattle.ray_primitives.specs.TriangleReading.{TriangleSource, vertex_at, index_at, corner_with, may_name, named_corner, corner_from, corner_of, placed_of, limited, indices_of, made_of, triangle_from, triangle_of, updated_triangle, triangle_element, triangles_with, transform_read, triangles_read}
use Rattle.ray_primitives.proofs.Results.{element_ok, if_ok, ok_same, short_within}

-- ---- index values fit

both : (a b : Bool) → (a && b) ≡ true → b ≡ true
both true b e = e
both false b e = absurd cc

fits_by : (none half : Bool) → (if none then true else (if half then true else true)) ≡ true
fits_by true half = refl
fits_by false true = refl
fits_by false false = refl

-- 0 fits each size
pub zero_fits : (size : ℕ) → index_fits size 0 ≡ true
unfolding index_fits
zero_fits size = fits_by (size == 0) (size == 2)

fits_where_named : (info : TriangleInfo) (index : ℕ) → may_name info index ≡ true → index_fits info.index_size index ≡ true
unfolding may_name
fits_where_named info index e = both (nat_le index info.max_vertex) (index_fits info.index_size index) e

-- the index value of a corner, where there is one
abbrev index_in : Option Corner → ℕ → ℕ
index_in None d = d
index_in (Some c) d = c.index

corner_index : (index : ℕ) (at : Option Vec3) (c : Corner) → corner_with index at ≡ Some c → index ≡ c.index
corner_index index None c e = absurd cc
corner_index index (Some at) c e = ap (λ (o : Option Corner). index_in o 0) e

if_named : (b : Bool) (size index : ℕ) (at : Option Vec3) (c : Corner) → (b ≡ true → index_fits size index ≡ true) →
    (if b then corner_with index at else None) ≡ Some c → index_fits size c.index ≡ true
if_named true size index at c fits e = subst (λ i. index_fits size i ≡ true) (corner_index index at c e) (fits refl)
if_named false size index at c fits e = absurd cc

named_fits : (info : TriangleInfo) (vertices : Vertices) (index : Option ℕ) (c : Corner) → named_corner info vertices index ≡ Some c → index_fits info.index_size c.index ≡ true
named_fits info vertices None c e = absurd cc
named_fits info vertices (Some index) c e =
    if_named (may_name info index) info.index_size index (vertex_at vertices (info.first_vertex + index)) c (fits_where_named info index) e

from_fits : (info : TriangleInfo) (vertices : Vertices) (indices : Option Indices) (k : ℕ) (c : Corner) →
    corner_from info vertices indices k ≡ Some c → index_fits info.index_size c.index ≡ true
from_fits info vertices None k c e =
    subst (λ i. index_fits info.index_size i ≡ true) (corner_index 0 (vertex_at vertices (info.first_vertex + k)) c e) (zero_fits info.index_size)
from_fits info vertices (Some indices) k c e = named_fits info vertices (index_at indices k) c e

corner_fits : (source : TriangleSource) (k : ℕ) (c : Corner) → corner_of source k ≡ Some c → index_fits source.info.index_size c.index ≡ true
unfolding corner_of
corner_fits source k c e = from_fits source.info source.vertices source.indices k c e

-- ---- points are within the limits

then_short : (o : Option Vec3) (f : Vec3 → Option Vec3) (p : Vec3) → ((v : Vec3) → f v ≡ Some p → IsShort (2 ^ 19) p) → option_and_then f o ≡ Some p → IsShort (2 ^ 19) p
then_short None f p short e = absurd cc
then_short (Some v) f p short e = short v e

placed_short : (m : Option MatrixValue) (v p : Vec3) → placed_of m v ≡ Some p → IsShort (2 ^ 19) p
placed_short None v p e = short_within v p e
placed_short (Some m) v p e = then_short (point_within v) (λ w. point_within (image_of m w)) p (λ w. short_within (image_of m w) p) e

-- what a triangle of three points, or of three corners, keeps
record IsOf (indices : IndexValues) (t : TriangleValue) : Type 0 where
  limits : IsTriangle t
  same : t.indices ≡ indices

of_same : (indices : IndexValues) (s t : TriangleValue) → IsOf indices s → s ≡ t → IsOf indices t
of_same indices s t h e = subst (λ r. IsOf indices r) e h

limited_of : (a b c : Option Vec3) (indices : IndexValues) (t : TriangleValue) →
    ((p : Vec3) → a ≡ Some p → IsShort (2 ^ 19) p) → ((p : Vec3) → b ≡ Some p → IsShort (2 ^ 19) p) → ((p : Vec3) → c ≡ Some p → IsShort (2 ^ 19) p) →
    limited a b c indices ≡ Ok t → IsOf indices t
limited_of (Some a) (Some b) (Some c) indices t p q r e =
    of_same indices (active_triangle a b c indices) t
    (record { limits = record { limits = record { v0_short = p a refl; v1_short = q b refl; v2_short = r c refl } }; same = refl })
    (ok_same (active_triangle a b c indices) t (Ok (active_triangle a b c indices)) refl e)
limited_of (Some a) (Some b) None indices t p q r e = absurd cc
limited_of (Some a) None c indices t p q r e = absurd cc
limited_of None b c indices t p q r e = absurd cc

by_mark : (marked : Bool) (a b c : Option Vec3) (indices : IndexValues) (t : TriangleValue) →
    ((p : Vec3) → a ≡ Some p → IsShort (2 ^ 19) p) → ((p : Vec3) → b ≡ Some p → IsShort (2 ^ 19) p) → ((p : Vec3) → c ≡ Some p → IsShort (2 ^ 19) p) →
    (if marked then Ok (inactive_triangle indices) else limited a b c indices) ≡ Ok t → IsOf indices t
by_mark true a b c indices t p q r e =
    of_same indices (inactive_triangle indices) t (record { limits = record { limits = tt }; same = refl }) (ok_same (inactive_triangle indices) t (Ok (inactive_triangle indices)) refl e)
by_mark false a b c indices t p q r e = limited_of a b c indices t p q r e

made_limits : (m : Option MatrixValue) (a b c : Corner) (t : TriangleValue) → made_of m a b c ≡ Ok t → IsOf (indices_of a b c) t
unfolding made_of
made_limits m a b c t e =
    by_mark (is_inactive_mark a.at.x) (placed_of m a.at) (placed_of m b.at) (placed_of m c.at) (indices_of a b c) t
    (placed_short m a.at) (placed_short m b.at) (placed_short m c.at) e

from_limits : (size : ℕ) (m : Option MatrixValue) (a b c : Option Corner) (t : TriangleValue) →
    ((d : Corner) → a ≡ Some d → index_fits size d.index ≡ true) → ((d : Corner) → b ≡ Some d → index_fits size d.index ≡ true) →
    ((d : Corner) → c ≡ Some d → index_fits size d.index ≡ true) → triangle_from m a b c ≡ Ok t → IsTriangleOf size t
from_limits size m (Some a) (Some b) (Some c) t p q r e =
    let h = made_limits m a b c t e in
    record {
      limits = h.limits;
      first = subst (λ (i : IndexValues). index_fits size i.first ≡ true) (sym h.same) (p a refl);
      second = subst (λ (i : IndexValues). index_fits size i.second ≡ true) (sym h.same) (q b refl);
      third = subst (λ (i : IndexValues). index_fits size i.third ≡ true) (sym h.same) (r c refl);
    }
from_limits size m (Some a) (Some b) None t p q r e = absurd cc
from_limits size m (Some a) None c t p q r e = absurd cc
from_limits size m None b c t p q r e = absurd cc

triangle_limits : (source : TriangleSource) (i : ℕ) (t : TriangleValue) → triangle_of source i ≡ Ok t → IsTriangleOf source.info.index_size t
unfolding triangle_of
triangle_limits source i t e =
    from_limits source.info.index_size source.matrix (corner_of source (3 * i)) (corner_of source (3 * i + 1)) (corner_of source (3 * i + 2)) t
    (corner_fits source (3 * i)) (corner_fits source (3 * i + 1)) (corner_fits source (3 * i + 2)) e

-- ---- an update changes no triangle

after_same : (old : Option TriangleValue) (s t : TriangleValue) → triangle_after old s ≡ Ok t → s ≡ t
after_same None s t e = ok_same s t (Ok s) refl e
after_same (Some old) s t e =
    let active = if_ok (beq (is_some old.tri) (is_some s.tri)) (if same_indices old.indices s.indices then Ok s else Err X10) X9 t e in
    let kept = if_ok (same_indices old.indices s.indices) (Ok s) X10 t active.1 in
    ok_same s t (Ok s) refl kept.1

updated_ok : (old : Option TriangleValue) (r : Result TriangleValue DataRule) (t : TriangleValue) → updated_triangle old r ≡ Ok t → r ≡ Ok t
updated_ok old (Ok s) t e = ap Ok (after_same old s t e)
updated_ok old (Err rule) t e = absurd cc

element_limits : (source : TriangleSource) (olds : Option (List TriangleValue)) (geometry i : ℕ) (t : TriangleValue) →
    triangle_element source olds geometry i ≡ Ok t → IsTriangleOf source.info.index_size t
unfolding triangle_element
element_limits source olds geometry i t e =
    triangle_limits source i t
    (updated_ok (old_at olds i) (triangle_of source i) t (element_ok geometry i (updated_triangle (old_at olds i) (triangle_of source i)) t e))

-- ---- all triangles of a geometry

-- what the triangles of a geometry keep
pub record AreRead (info : TriangleInfo) (ts : List TriangleValue) : Type 0 where
  pub as_many : length ts ≡ info.count
  pub each : All (IsTriangleOf info.index_size) ts

with_limits : (info : TriangleInfo) (vertices : Vertices) (indices : Option Indices) (olds : Option (List TriangleValue)) (geometry : ℕ)
    (m : Result (Option MatrixValue) DataFault) (ts : List TriangleValue) → triangles_with info vertices indices olds geometry m ≡ Ok ts → AreRead info ts
with_limits info vertices indices olds geometry (Err fault) ts e = absurd cc
with_limits info vertices indices olds geometry (Ok matrix) ts e =
    let source : TriangleSource = record { info = info; vertices = vertices; indices = indices; matrix = matrix } in
    let element = triangle_element source olds geometry in
    record {
      as_many = (gathered_all element info.count ts e).as_many;
      each = All-gathered (IsTriangleOf info.index_size) element (element_limits source olds geometry) info.count ts e;
    }

pub AreRead-triangles_read : (info : TriangleInfo) (vertices : Vertices) (indices : Option Indices) (transform : Option (List ℕ)) (olds : Option (List TriangleValue)) (geometry : ℕ)
    (ts : List TriangleValue) → triangles_read info vertices indices transform olds geometry ≡ Ok ts → AreRead info ts
unfolding triangles_read
AreRead-triangles_read info vertices indices transform olds geometry ts e =
    with_limits info vertices indices olds geometry (transform_read geometry info.count transform) ts e
