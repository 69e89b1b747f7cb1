-- The sign of the determinant taken off: where a ray is stays the same where the determinant, where it begins and
-- which way it goes are turned together.
use Rattle.std.proofs.Common.{ℕ, ◌≡◌, ◌≢◌, [], ◌∷◌, ◌*◌, ◌+◌, ◌^◌, refl, ap, ap₂, arith}
use Rattle.std.specs.Prelude.{ℤ, pos, negsuc, neg_ℤ, ◌<ℤ◌, unsigned_abs}
use Rattle.std.proofs.lemmas.Int.{ints}
use Rattle.std.specs.Int.{int_min, int_max}
use Rattle.ray_geom.specs.declared.vec3.Vec3.{Vec3}
use Rattle.ray_geom.specs.Vector.{IsWithin}
use Rattle.ray_geom.proofs.Ring.{*ℤ-neg_ℤ, neg_ℤ-*ℤ}
use Rattle.ray_window.specs.Lines.{IsLine, AreLines, turned_point}
use Rattle.ray_window.specs.Windows.{floor_of, ceiling_of, moved, turned, spot_of, below_at, above_at, begins_at, ends_at, window_to}

spot_of-turned : (det o m : ℤ) (n d : ℕ) → spot_of (pos (unsigned_abs det)) (turned det o) (turned det m) n d ≡ spot_of det o m n d
unfolding spot_of
spot_of-turned (pos det) o m n d = refl
spot_of-turned (negsuc det) o m n d = omega (arith, ints, neg_ℤ-*ℤ o (pos d), *ℤ-neg_ℤ (pos n) m)

below_at-turned : (det o m : ℤ) (n d : ℕ) → below_at (pos (unsigned_abs det)) (turned det o) (turned det m) n d ≡ below_at det o m n d
unfolding below_at
below_at-turned det o m n d = ap (λ p. moved (floor_of p (unsigned_abs det * d))) (spot_of-turned det o m n d)

above_at-turned : (det o m : ℤ) (n d : ℕ) → above_at (pos (unsigned_abs det)) (turned det o) (turned det m) n d ≡ above_at det o m n d
unfolding above_at
above_at-turned det o m n d = ap (λ p. moved (ceiling_of p (unsigned_abs det * d))) (spot_of-turned det o m n d)

begins_at-turned : (det o m : ℤ) (tmin n d : ℕ) →
    begins_at (pos (unsigned_abs det)) (turned det o) (turned det m) tmin n d ≡ begins_at det o m tmin n d
begins_at-turned det o m tmin n d = ap₂ int_min (below_at-turned det o m tmin 65536) (below_at-turned det o m n d)

ends_at-turned : (det o m : ℤ) (tmin n d : ℕ) →
    ends_at (pos (unsigned_abs det)) (turned det o) (turned det m) tmin n d ≡ ends_at det o m tmin n d
ends_at-turned det o m tmin n d = ap₂ int_max (above_at-turned det o m tmin 65536) (above_at-turned det o m n d)

pub window_to-turned : (det : ℤ) (origin dir : Vec3) (tmin n d : ℕ) →
    window_to (pos (unsigned_abs det)) (turned_point det origin) (turned_point det dir) tmin n d ≡ window_to det origin dir tmin n d
unfolding window_to
window_to-turned det origin dir tmin n d =
    let x_lo = begins_at-turned det origin.x dir.x tmin n d in
    let y_lo = begins_at-turned det origin.y dir.y tmin n d in
    let z_lo = begins_at-turned det origin.z dir.z tmin n d in
    let x_hi = ends_at-turned det origin.x dir.x tmin n d in
    let y_hi = ends_at-turned det origin.y dir.y tmin n d in
    let z_hi = ends_at-turned det origin.z dir.z tmin n d in
    λ i. record { lo = x_lo i ∷ y_lo i ∷ z_lo i ∷ []; hi = x_hi i ∷ y_hi i ∷ z_hi i ∷ [] }

IsWithin-turned : (b : ℕ) (det z : ℤ) → IsWithin b z → IsWithin b (turned det z)
IsWithin-turned b (pos det) z h = h
IsWithin-turned b (negsuc det) z h =
    let above = h.above in
    let below = h.below in
    record { above = omega (arith, ints); below = omega (arith, ints) }

IsWithin-size : (b : ℕ) (det : ℤ) → IsWithin b det → IsWithin b (pos (unsigned_abs det))
IsWithin-size b (pos det) h = h
IsWithin-size b (negsuc det) h =
    let above = h.above in
    record { above = omega (arith, ints); below = omega (arith, ints) }

size_not_zero : (det : ℤ) → det ≢ pos 0 → pos (unsigned_abs det) ≢ pos 0
size_not_zero (pos det) h same = h same
size_not_zero (negsuc det) h same = omega (arith, ints)

IsLine-turned : (det o m : ℤ) → IsLine det o m → IsLine (pos (unsigned_abs det)) (turned det o) (turned det m)
IsLine-turned det o m line = record {
  det_short = IsWithin-size (6 * 2 ^ 36) det line.det_short;
  det_not_zero = size_not_zero det line.det_not_zero;
  o_short = IsWithin-turned (3 * 2 ^ 25 * (2 ^ 19 + 2 ^ 20)) det o line.o_short;
  m_short = IsWithin-turned (3 * 2 ^ 45) det m line.m_short;
}

pub AreLines-turned : (det : ℤ) (origin dir : Vec3) → AreLines det origin dir →
    AreLines (pos (unsigned_abs det)) (turned_point det origin) (turned_point det dir)
AreLines-turned det origin dir lines = record {
  x = IsLine-turned det origin.x dir.x lines.x;
  y = IsLine-turned det origin.y dir.y lines.y;
  z = IsLine-turned det origin.z dir.z lines.z;
}

pub turned_point-below : (det : ℤ) (v w : Vec3) → det <ℤ pos 0 → w.x ≡ neg_ℤ v.x → w.y ≡ neg_ℤ v.y → w.z ≡ neg_ℤ v.z →
    w ≡ turned_point det v
turned_point-below (pos det) v w below x y z = absurd (omega (arith, ints))
turned_point-below (negsuc det) v w below x y z = λ i. record { x = x i; y = y i; z = z i }
