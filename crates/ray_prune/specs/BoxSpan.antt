-- Where a ray is inside a box. A distance is n / d with 0 < d.
use Rattle.std.specs.Prelude.{ℕ, ℤ, pos, negsuc, ◌*◌, ◌<◌, ◌≤◌, ◌+ℤ◌, ◌*ℤ◌, ◌≤ℤ◌}
use Rattle.ray_prune.specs.declared.reach.Reach.{Reach}
use Rattle.ray_prune.specs.declared.span.Span.{Span}
use Rattle.ray_geom.specs.Fraction.{IsFraction, IsAtMost}
use Rattle.ray_geom.specs.Frac.{numerator, denominator}
use Rattle.ray_geom.specs.Boxes.{BoxValue}
use Rattle.ray_geom.specs.ObjectRay.{ObjectRayValue}

-- the lesser end of a box on one axis, times det: det * lo, or det * hi where det is negative
abbrev pub near_end : ℤ → ℤ → ℤ → ℤ
near_end (pos det) lo hi = pos det *ℤ lo
near_end (negsuc det) lo hi = negsuc det *ℤ hi

-- the greater end: det * hi, or det * lo where det is negative
abbrev pub far_end : ℤ → ℤ → ℤ → ℤ
far_end (pos det) lo hi = pos det *ℤ hi
far_end (negsuc det) lo hi = negsuc det *ℤ lo

-- on one axis, o + t m lies from near to far at the distance t = n / d, ends included; all times d (own)
pub record IsBetween (near far o m : ℤ) (n d : ℕ) : Type 0 where
  pub above : (near *ℤ pos d) ≤ℤ ((o *ℤ pos d) +ℤ (pos n *ℤ m))
  pub below : ((o *ℤ pos d) +ℤ (pos n *ℤ m)) ≤ℤ (far *ℤ pos d)

-- on one axis, o + t m lies from det * lo to det * hi, or from det * hi to det * lo where det is negative
abbrev pub IsOnAxis : ℤ → ℤ → ℤ → ℤ → ℤ → ℕ → ℕ → Type 0
IsOnAxis det lo hi o m = IsBetween (near_end det lo hi) (far_end det lo hi) o m

-- the distance n / d is inside: on each axis o' + t d' lies from det * lo to det * hi, or from det * hi
-- to det * lo where det is negative, and the distance is from tmin to tmax, all ends included (own, for
-- the intersection of rays with AABBs in Vulkan's "Ray Traversal")
pub record IsInside (object : ObjectRayValue) (box : BoxValue) (n d : ℕ) : Type 0 where
  pub x : IsOnAxis object.det box.lo.x box.hi.x object.origin.x object.dir.x n d
  pub y : IsOnAxis object.det box.lo.y box.hi.y object.origin.y object.dir.y n d
  pub z : IsOnAxis object.det box.lo.z box.hi.z object.origin.z object.dir.z n d
  pub from : object.tmin * d ≤ 65536 * n
  pub to : 65536 * n ≤ object.tmax * d

-- both ends of a reach are within the limits of a fraction (own)
pub record AreFractions (reach : Reach) : Type 0 where
  pub entry : IsFraction reach.entry.num reach.entry.den
  pub exit : IsFraction reach.exit.num reach.exit.den

-- the reach: its entry is the least distance that is inside, its exit the greatest, and each distance from
-- the entry to the exit is inside (own)
pub record IsReach (object : ObjectRayValue) (box : BoxValue) (reach : Reach) : Type 0 where
  pub entry : IsInside object box reach.entry.num reach.entry.den
  pub exit : IsInside object box reach.exit.num reach.exit.den
  pub least : (n d : ℕ) → 0 < d → IsInside object box n d → IsAtMost reach.entry.num reach.entry.den n d
  pub greatest : (n d : ℕ) → 0 < d → IsInside object box n d → IsAtMost n d reach.exit.num reach.exit.den
  pub between : (n d : ℕ) → 0 < d → IsAtMost reach.entry.num reach.entry.den n d →
      IsAtMost n d reach.exit.num reach.exit.den → IsInside object box n d

-- the span: its entry is the least distance that is inside, and its exit the greatest (own)
pub record IsSpan (object : ObjectRayValue) (box : BoxValue) (span : Span) : Type 0 where
  pub entry : IsInside object box (numerator span.entry) (denominator span.entry)
  pub exit : IsInside object box (numerator span.exit) (denominator span.exit)
  pub least : (n d : ℕ) → 0 < d → IsInside object box n d →
      IsAtMost (numerator span.entry) (denominator span.entry) n d
  pub greatest : (n d : ℕ) → 0 < d → IsInside object box n d →
      IsAtMost n d (numerator span.exit) (denominator span.exit)
