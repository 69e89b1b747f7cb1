-- The window of a ray in an object's space: a box of whole numbers around where the ray is from
-- tmin up to a limit. A distance is a ratio, of the parts num and den.
use Rattle.std.specs.Prelude.{ℕ, ℤ, pos, negsuc, neg_ℤ, suc, ◌*◌, ◌/◌, ◌^◌, ◌+ℤ◌, ◌*ℤ◌, unsigned_abs, Option, Some, None, [], ◌∷◌}
use Rattle.std.specs.Int.{div_ceil, int_min, int_max}
use Rattle.ray_geom.specs.declared.vec3.Vec3.{Vec3}
use Rattle.ray_geom.specs.declared.ratio.Ratio.{Ratio}
use Rattle.ray_geom.specs.Ratio.{parts_of, earlier_of}
use Rattle.ray_geom.specs.ObjectRay.{ObjectRayValue}
use Rattle.ray_lanes.specs.declared.lanes.Window.{Window}

-- p / q rounded down, for a q above 0: its size is rounded down, or up where p is negative
abbrev pub floor_of : ℤ → ℕ → ℤ
floor_of (pos p) q = pos (p / q)
floor_of (negsuc p) q = neg_ℤ (pos (div_ceil (suc p) q))

-- p / q rounded up: its size is rounded up, or down where p is negative
abbrev pub ceiling_of : ℤ → ℕ → ℤ
ceiling_of (pos p) q = pos (div_ceil p q)
ceiling_of (negsuc p) q = neg_ℤ (pos (suc p / q))

-- a number moved into -2^30 to 2^30
abbrev pub moved : ℤ → ℤ
moved z = int_max (neg_ℤ (pos (2 ^ 30))) (int_min (pos (2 ^ 30)) z)

-- p, or -p where det is negative
abbrev pub turned : ℤ → ℤ → ℤ
turned (pos det) p = p
turned (negsuc det) p = neg_ℤ p

-- on one axis, where the ray is at the distance n / d, times |det| d: o + t m has to be divided by det, which
-- may be negative
unfoldable pub spot_of : ℤ → ℤ → ℤ → ℕ → ℕ → ℤ
spot_of det o m n d = turned det ((o *ℤ pos d) +ℤ (pos n *ℤ m))

-- on one axis, (o + t m) / det at the distance n / d, rounded down and moved
unfoldable pub below_at : ℤ → ℤ → ℤ → ℕ → ℕ → ℤ
below_at det o m n d = moved (floor_of (spot_of det o m n d) (unsigned_abs det * d))

-- on one axis, (o + t m) / det at the distance n / d, rounded up and moved
unfoldable pub above_at : ℤ → ℤ → ℤ → ℕ → ℕ → ℤ
above_at det o m n d = moved (ceiling_of (spot_of det o m n d) (unsigned_abs det * d))

-- on one axis, where a window begins that goes from tmin to n / d: at the lesser of the two ends
abbrev pub begins_at : ℤ → ℤ → ℤ → ℕ → ℕ → ℕ → ℤ
begins_at det o m tmin n d = int_min (below_at det o m tmin 65536) (below_at det o m n d)

-- and where it ends: at the greater of the two
abbrev pub ends_at : ℤ → ℤ → ℤ → ℕ → ℕ → ℕ → ℤ
ends_at det o m tmin n d = int_max (above_at det o m tmin 65536) (above_at det o m n d)

-- the window from tmin to n / d
unfoldable pub window_to : ℤ → Vec3 → Vec3 → ℕ → ℕ → ℕ → Window
window_to det origin dir tmin n d = record {
  lo = begins_at det origin.x dir.x tmin n d ∷ begins_at det origin.y dir.y tmin n d ∷ begins_at det origin.z dir.z tmin n d ∷ [];
  hi = ends_at det origin.x dir.x tmin n d ∷ ends_at det origin.y dir.y tmin n d ∷ ends_at det origin.z dir.z tmin n d ∷ [];
}

-- the distance up to which a window goes: tmax, or the limit where that is less
unfoldable pub last_of : ℕ → Option Ratio → Ratio
last_of tmax None = parts_of tmax
last_of tmax (Some limit) = earlier_of (parts_of tmax) limit

-- the window of a ray up to a limit: on each axis from the lesser to the greater of where the ray is at tmin and
-- at tmax, or at the limit where that is less, rounded outwards (own)
unfoldable pub window_of : ObjectRayValue → Option Ratio → Window
window_of object limit =
    let last = last_of object.tmax limit in
    window_to object.det object.origin object.dir object.tmin last.num last.den
