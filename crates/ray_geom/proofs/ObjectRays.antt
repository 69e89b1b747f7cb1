-- What the adjugate is for: M adj(M) v = det v.
use Rattle.std.proofs.Common.{ℕ, ◌≡◌, ◌+◌, ◌*◌, ◌^◌, sym, ap, ◌∙◌, refl, arith}
use Rattle.std.specs.Prelude.{ℤ, pos, ◌+ℤ◌, ◌*ℤ◌}
use Rattle.std.proofs.lemmas.Int.{ints}
use Rattle.std.proofs.Math.IntN.{*ℤ_comm, *ℤ-zero}
use Rattle.ray_geom.specs.declared.vec3.Vec3.{Vec3}
use Rattle.ray_geom.specs.Vector.{IsShort, vec3, cross_of, dot_of, minus_of}
use Rattle.ray_geom.specs.Scene.{RayValue, IsRay}
use Rattle.ray_geom.specs.Transform.{MatrixValue, IsMatrix, Rows, IsAdjugate, times_of, det_of, adjugate_of, adjugate_times}
use Rattle.ray_geom.specs.ObjectRay.{MapsTo, LeadsBack, IsObjectRay, object_of}
use Rattle.ray_geom.proofs.Ring.{+ℤ-*ℤ}
use Rattle.ray_geom.proofs.Determinant.{regroup}
use Rattle.ray_geom.proofs.Triple.{scaled, turn, twice, same_ends}
use Rattle.ray_geom.proofs.Sizes.{cross_short, dot_within, det_within}

pub folded : (a b c v : ℤ) → ((a +ℤ b) +ℤ c) *ℤ v ≡ ((a *ℤ v) +ℤ (b *ℤ v)) +ℤ (c *ℤ v)
folded a b c v = simp +ℤ-*ℤ

-- the matrix with these three columns
abbrev pub columns : Vec3 → Vec3 → Vec3 → Rows
columns p q s = record { a = vec3 p.x q.x s.x; b = vec3 p.y q.y s.y; c = vec3 p.z q.z s.z }

-- a row times a matrix times a vector, column by column
pub dot_of-columns : (r p q s v : Vec3) →
    dot_of r (times_of (columns p q s) v) ≡ ((dot_of r p *ℤ v.x) +ℤ (dot_of r q *ℤ v.y)) +ℤ (dot_of r s *ℤ v.z)
dot_of-columns r p q s v =
    rw (scaled r.x (vec3 p.x q.x s.x) v, scaled r.y (vec3 p.y q.y s.y) v, scaled r.z (vec3 p.z q.z s.z) v)
    (regroup ((r.x *ℤ p.x) *ℤ v.x) ((r.x *ℤ q.x) *ℤ v.y) ((r.x *ℤ s.x) *ℤ v.z)
    ((r.y *ℤ p.y) *ℤ v.x) ((r.y *ℤ q.y) *ℤ v.y) ((r.y *ℤ s.y) *ℤ v.z)
    ((r.z *ℤ p.z) *ℤ v.x) ((r.z *ℤ q.z) *ℤ v.y) ((r.z *ℤ s.z) *ℤ v.z) ∙
    rw (folded (r.x *ℤ p.x) (r.y *ℤ p.y) (r.z *ℤ p.z) v.x, folded (r.x *ℤ q.x) (r.y *ℤ q.y) (r.z *ℤ q.z) v.y, folded (r.x *ℤ s.x) (r.y *ℤ s.y) (r.z *ℤ s.z) v.z)
    refl)

zero_times : (z v : ℤ) → z ≡ pos 0 → z *ℤ v ≡ pos 0
zero_times z v h = *ℤ_comm z v ∙ (ap (λ x. v *ℤ x) h ∙ *ℤ-zero v)

-- of three products, where two of the factors are 0
only_first : (p q r x y z : ℤ) → q ≡ pos 0 → r ≡ pos 0 → ((p *ℤ x) +ℤ (q *ℤ y)) +ℤ (r *ℤ z) ≡ p *ℤ x
only_first p q r x y z q_zero r_zero =
    let second = zero_times q y q_zero in
    let third = zero_times r z r_zero in
    omega (arith, ints)

only_second : (p q r x y z : ℤ) → p ≡ pos 0 → r ≡ pos 0 → ((p *ℤ x) +ℤ (q *ℤ y)) +ℤ (r *ℤ z) ≡ q *ℤ y
only_second p q r x y z p_zero r_zero =
    let first = zero_times p x p_zero in
    let third = zero_times r z r_zero in
    omega (arith, ints)

only_third : (p q r x y z : ℤ) → p ≡ pos 0 → q ≡ pos 0 → ((p *ℤ x) +ℤ (q *ℤ y)) +ℤ (r *ℤ z) ≡ r *ℤ z
only_third p q r x y z p_zero q_zero =
    let first = zero_times p x p_zero in
    let second = zero_times q y q_zero in
    omega (arith, ints)

-- M adj(M) v = det v
pub MapsTo-adjugate : (m : MatrixValue) (v : Vec3) → MapsTo m (adjugate_times m v) (det_of m) v
MapsTo-adjugate m v =
    let p = cross_of m.b m.c in
    let q = cross_of m.c m.a in
    let s = cross_of m.a m.b in
    record {
      x = dot_of-columns m.a p q s v ∙
          only_first (dot_of m.a p) (dot_of m.a q) (dot_of m.a s) v.x v.y v.z (same_ends m.a m.c) (twice m.a m.b);
      y = dot_of-columns m.b p q s v ∙
          (only_second (dot_of m.b p) (dot_of m.b q) (dot_of m.b s) v.x v.y v.z (twice m.b m.c) (same_ends m.b m.a) ∙
          ap (λ z. z *ℤ v.y) (sym (turn m.a m.b m.c)));
      z = dot_of-columns m.c p q s v ∙
          (only_third (dot_of m.c p) (dot_of m.c q) (dot_of m.c s) v.x v.y v.z (same_ends m.c m.b) (twice m.c m.a) ∙
          ap (λ z. z *ℤ v.z) (sym (turn m.a m.b m.c ∙ turn m.b m.c m.a)));
    }

-- the object ray leads back to the ray
pub LeadsBack-object : (ray : RayValue) (m : MatrixValue) → LeadsBack ray m (object_of ray m)
LeadsBack-object ray m = record {
  origin = MapsTo-adjugate m (minus_of ray.origin m.t);
  dir = MapsTo-adjugate m ray.dir;
}

-- each entry of the adjugate is at most 2^25
pub IsAdjugate-adjugate_of : (m : MatrixValue) → IsMatrix m → IsAdjugate (adjugate_of m)
IsAdjugate-adjugate_of m h =
    let p = cross_short m.b m.c h.b_short h.c_short in
    let q = cross_short m.c m.a h.c_short h.a_short in
    let s = cross_short m.a m.b h.a_short h.b_short in
    record {
      a_short = record { x_within = p.x_within; y_within = q.x_within; z_within = s.x_within };
      b_short = record { x_within = p.y_within; y_within = q.y_within; z_within = s.y_within };
      c_short = record { x_within = p.z_within; y_within = q.z_within; z_within = s.z_within };
    }

-- what the adjugate makes of a short vector
times_short : (n : ℕ) (rows : Rows) (v : Vec3) → IsAdjugate rows → IsShort n v →
    IsShort (3 * (2 ^ 25 * n)) (times_of rows v)
times_short n rows v h p = record {
  x_within = dot_within (2 ^ 25) n rows.a v h.a_short p;
  y_within = dot_within (2 ^ 25) n rows.b v h.b_short p;
  z_within = dot_within (2 ^ 25) n rows.c v h.c_short p;
}

minus_short : (a b : Vec3) → IsShort (2 ^ 19) a → IsShort (2 ^ 20) b → IsShort (2 ^ 19 + 2 ^ 20) (minus_of a b)
minus_short a b p q = omega (arith, ints)

-- the bounds of an object ray
pub IsObjectRay-object : (ray : RayValue) (m : MatrixValue) → IsRay ray → IsMatrix m → IsObjectRay (object_of ray m)
IsObjectRay-object ray m r h =
    let rows = IsAdjugate-adjugate_of m h in
    record {
      origin_short = times_short (2 ^ 19 + 2 ^ 20) (adjugate_of m) (minus_of ray.origin m.t) rows
          (minus_short ray.origin m.t r.origin_short h.t_short);
      dir_short = times_short (2 ^ 20) (adjugate_of m) ray.dir rows r.dir_short;
      det_short = det_within m.a m.b m.c h.a_short h.b_short h.c_short;
      det_not_zero = h.det_not_zero;
      ordered = r.ordered;
      tmax_limit = r.tmax_limit;
    }
