-- The distance at which a triangle is hit, as the fraction that is told, is inside each box that holds the triangle.
use Rattle.std.proofs.Common.{ℕ, zero, suc, ◌≡◌, ◌≢◌, ◌*◌, ◌^◌, ◌≤◌, ◌<◌, Some, refl, ap, subst, arith}
use Rattle.std.specs.Prelude.{ℤ, pos, negsuc, ◌*ℤ◌, ◌≤ℤ◌, unsigned_abs}
use Rattle.std.proofs.lemmas.Int.{ints}
use Rattle.ray_geom.specs.declared.vec3.Vec3.{Vec3}
use Rattle.ray_geom.specs.Vector.{IsWithin, IsShort, minus_of, cross_of}
use Rattle.ray_geom.specs.Fraction.{IsFraction}
use Rattle.ray_geom.specs.Frac.{numerator, denominator}
use Rattle.ray_geom.specs.Scene.{RayValue, TriValue, IsRay, IsTri}
use Rattle.ray_geom.specs.Boxes.{BoxValue}
use Rattle.ray_geom.specs.LeastBoxes.{HoldsTri}
use Rattle.ray_geom.specs.TriangleHit.{num_of, den_of, over_size, IsHit}
use Rattle.ray_geom.specs.Transform.{MatrixValue, world_tri}
use Rattle.ray_geom.specs.ObjectRay.{object_of}
use Rattle.ray_geom.specs.Decided.{where_so, hit_decided}
use Rattle.ray_geom.specs.HitValue.{HitValue, lowest_terms, told_of, hit_of}
use Rattle.ray_geom.proofs.Bounds.{minor_fits, dot_fits}
use Rattle.ray_geom.proofs.Determinant.{den_of-dot_of}
use Rattle.ray_prune.specs.BoxSpan.{IsInside}
use Rattle.ray_prune.specs.Pruning.{IsDistance}
use Rattle.ray_prune.proofs.Inside.{IsInside-hit}
use Rattle.ray_geom.specs.Reduced.{fraction_of}
use Rattle.ray_candidates.proofs.Reduced.{same_lowest}

-- ---- how large the numbers are

difference_short : (a b : Vec3) → IsShort (2 ^ 19) a → IsShort (2 ^ 19) b → IsShort (2 ^ 20) (minus_of a b)
difference_short a b p q = omega (arith, ints)

normal_short : (a b : Vec3) → IsShort (2 ^ 20) a → IsShort (2 ^ 20) b → IsShort (2 ^ 41) (cross_of a b)
normal_short a b p q = record {
  x_within = (minor_fits a.y a.z b.y b.z p.y_within p.z_within q.y_within q.z_within).within;
  y_within = (minor_fits a.z a.x b.z b.x p.z_within p.x_within q.z_within q.x_within).within;
  z_within = (minor_fits a.x a.y b.x b.y p.x_within p.y_within q.x_within q.y_within).within;
}

plane_short : (tri : TriValue) → IsTri tri → IsShort (2 ^ 41) (cross_of (minus_of tri.v1 tri.v0) (minus_of tri.v2 tri.v0))
plane_short tri t =
    normal_short (minus_of tri.v1 tri.v0) (minus_of tri.v2 tri.v0) (difference_short tri.v1 tri.v0 t.v1_short t.v0_short)
    (difference_short tri.v2 tri.v0 t.v2_short t.v0_short)

num_within : (ray : RayValue) (tri : TriValue) → IsRay ray → IsTri tri → IsWithin (3 * 2 ^ 61) (num_of ray tri)
num_within ray tri r t =
    (dot_fits (minus_of tri.v0 ray.origin) (cross_of (minus_of tri.v1 tri.v0) (minus_of tri.v2 tri.v0))
    (difference_short tri.v0 ray.origin t.v0_short r.origin_short) (plane_short tri t)).within

den_within : (ray : RayValue) (tri : TriValue) → IsRay ray → IsTri tri → IsWithin (3 * 2 ^ 61) (den_of ray tri)
den_within ray tri r t =
    subst (IsWithin (3 * 2 ^ 61)) (den_of-dot_of ray tri)
    (dot_fits ray.dir (cross_of (minus_of tri.v1 tri.v0) (minus_of tri.v2 tri.v0)) r.dir_short (plane_short tri t)).within

size_of : (m : ℕ) (z : ℤ) → IsWithin m z → unsigned_abs z ≤ m
size_of m z h = omega (arith, ints)

size_positive : (z : ℤ) → z ≢ pos 0 → 0 < unsigned_abs z
size_positive z h = grind (arith, ints)

fraction_of_sizes : (num den : ℤ) → den ≢ pos 0 → IsWithin (3 * 2 ^ 61) num → IsWithin (3 * 2 ^ 61) den → IsFraction (unsigned_abs num) (unsigned_abs den)
fraction_of_sizes num den crosses p q = record {
  den_positive = size_positive den crosses;
  den_limit = size_of (3 * 2 ^ 61) den q;
  num_limit = size_of (3 * 2 ^ 61) num p;
}

-- ---- the distance

not_negative : (l : ℕ) (z : ℤ) → pos l ≤ℤ (pos 65536 *ℤ z) → pos 0 ≤ℤ z
not_negative l (pos n) h = omega (arith, ints)
not_negative l (negsuc n) h = absurd (omega (arith, ints))

-- a quotient that isn't negative, by the sizes
by_sizes : (num den : ℤ) (n d : ℕ) → den ≢ pos 0 → pos 0 ≤ℤ over_size num den → n * unsigned_abs den ≡ unsigned_abs num * d → pos n *ℤ den ≡ num *ℤ pos d
by_sizes num (pos zero) n d crosses h same = absurd (crosses refl)
by_sizes (pos j) (pos (suc k)) n d crosses h same = omega (arith, ints)
by_sizes (negsuc j) (pos (suc k)) n d crosses h same = absurd (grind (arith, ints))
by_sizes (pos zero) (negsuc k) n d crosses h same = omega (arith, ints)
by_sizes (pos (suc j)) (negsuc k) n d crosses h same = absurd (grind (arith, ints))
by_sizes (negsuc j) (negsuc k) n d crosses h same = omega (arith, ints)

-- what is told of a hit, where there is one
pub record IsTold (ray : RayValue) (tri : TriValue) (hit : HitValue) : Type 0 where
  pub hits : IsHit ray tri
  pub is_it : told_of ray tri ≡ hit

told_by : (ray : RayValue) (tri : TriValue) (hit : HitValue) (d : Dec (IsHit ray tri)) → where_so d (told_of ray tri) ≡ Some hit → IsTold ray tri hit
told_by ray tri hit (yes h) same = record { hits = h; is_it = cc }
told_by ray tri hit (no misses) same = absurd (cc)

pub hit_told : (ray : RayValue) (tri : TriValue) (hit : HitValue) → hit_of ray tri ≡ Some hit → IsTold ray tri hit
hit_told ray tri hit same = told_by ray tri hit (hit_decided ray tri) same

-- the fraction that is told is the distance
distance_of_parts : (ray : RayValue) (tri : TriValue) → IsRay ray → IsTri tri → IsHit ray tri → (parts : ℕ × ℕ)
    → lowest_terms (unsigned_abs (num_of ray tri)) (unsigned_abs (den_of ray tri)) ≡ parts
    → IsDistance ray tri (numerator (fraction_of parts)) (denominator (fraction_of parts))
distance_of_parts ray tri r t hit parts are =
    let num = num_of ray tri in
    let den = den_of ray tri in
    let limits : IsFraction (unsigned_abs num) (unsigned_abs den) =
    fraction_of_sizes num den hit.crosses (num_within ray tri r t) (den_within ray tri r t) in
    subst (λ p. IsDistance ray tri (numerator (fraction_of p)) (denominator (fraction_of p))) are
    (by_sizes num den _ _ hit.crosses (not_negative (ray.tmin * unsigned_abs den) (over_size num den) hit.from.at_least)
    (same_lowest (unsigned_abs num) (unsigned_abs den) limits))

pub distance_told : (ray : RayValue) (tri : TriValue) (hit : HitValue) → IsRay ray → IsTri tri → IsTold ray tri hit
    → IsDistance ray tri (numerator (fraction_of hit.t)) (denominator (fraction_of hit.t))
distance_told ray tri hit r t told = distance_of_parts ray tri r t told.hits hit.t (ap (λ (h : HitValue). h.t) told.is_it)

pub hit_inside : (ray : RayValue) (m : MatrixValue) (tri : TriValue) (box : BoxValue) (hit : HitValue) → IsRay ray → IsTri (world_tri m tri)
    → HoldsTri tri box → hit_of ray (world_tri m tri) ≡ Some hit
    → IsInside (object_of ray m) box (numerator (fraction_of hit.t)) (denominator (fraction_of hit.t))
hit_inside ray m tri box hit r t holds same =
    let told : IsTold ray (world_tri m tri) hit = hit_told ray (world_tri m tri) hit same in
    IsInside-hit ray m tri box holds told.hits (numerator (fraction_of hit.t)) (denominator (fraction_of hit.t))
    (distance_told ray (world_tri m tri) hit r t told)
