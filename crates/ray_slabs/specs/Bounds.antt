-- The slab test of a box, and what it says of the box: conservative bounds of the distances at which it is met.
use Rattle.std.specs.Prelude.{ℕ, ℤ, pos, ◌≡◌, ◌*◌, ◌+◌, ◌^◌, ◌<◌, ◌≤◌, ◌+ℤ◌, ◌≤ℤ◌, int_le, Bool, true, ◌&&◌, Option, Some, None, cond}
use Rattle.std.specs.Int.{int_min, int_max}
use Rattle.ray_geom.specs.declared.ratio.Ratio.{Ratio}
use Rattle.ray_geom.specs.Boxes.{BoxValue, IsBox, IsPart}
use Rattle.ray_geom.specs.ObjectRay.{ObjectRayValue}
use Rattle.ray_prune.specs.BoxSpan.{IsInside}
use Rattle.ray_prune.specs.BoxReach.{natural_part}
use Rattle.ray_window.specs.Meets.{IsUpTo}
use Rattle.ray_slabs.specs.declared.bound.Bound.{Bound}
use Rattle.ray_slabs.specs.declared.planes.Planes.{Planes}
use Rattle.ray_slabs.specs.declared.slabs.Slabs.{Slabs}
use Rattle.ray_slabs.specs.Keys.{key_at, plane_of, local_key}
use Rattle.ray_slabs.specs.Axes.{near_of, far_of}

-- the six planes of a box as a node stores them
abbrev pub planes_of : BoxValue → Planes
planes_of box = record {
  lo_x = plane_of box.lo.x;
  lo_y = plane_of box.lo.y;
  lo_z = plane_of box.lo.z;
  hi_x = plane_of box.hi.x;
  hi_y = plane_of box.hi.y;
  hi_z = plane_of box.hi.z;
}

-- each plane is stored: at most 2^30
pub record AreStored (planes : Planes) : Type 0 where
  pub lo_x : planes.lo_x ≤ 2 ^ 30
  pub lo_y : planes.lo_y ≤ 2 ^ 30
  pub lo_z : planes.lo_z ≤ 2 ^ 30
  pub hi_x : planes.hi_x ≤ 2 ^ 30
  pub hi_y : planes.hi_y ≤ 2 ^ 30
  pub hi_z : planes.hi_z ≤ 2 ^ 30

-- the key of a box: the greatest of 0 and the three keys at which the ray comes between its planes
abbrev pub entry_key : Slabs → Planes → ℤ
entry_key slabs planes =
    int_max (int_max (int_max (pos 0) (near_of slabs.x planes.lo_x planes.hi_x)) (near_of slabs.y planes.lo_y planes.hi_y))
    (near_of slabs.z planes.lo_z planes.hi_z)

-- and the least of the last key, the limit and the three keys at which it goes out of them
abbrev pub exit_key : Slabs → ℤ → Planes → ℤ
exit_key slabs limit planes =
    int_min (int_min (int_min (int_min slabs.last limit) (far_of slabs.x planes.lo_x planes.hi_x)) (far_of slabs.y planes.lo_y planes.hi_y))
    (far_of slabs.z planes.lo_z planes.hi_z)

-- what the test answers of an entry and an exit
abbrev pub bound_by : Bool → ℤ → ℤ → Option Bound
bound_by exact entry exit =
    cond (int_le entry exit) (Some record { key = entry; sure = exact && int_le (entry +ℤ pos 6) exit }) None

-- the slab test: a box is kept where the one isn't above the other, and is met for sure where there is a margin of 3
-- keys on both sides and no axis is nearly flat
abbrev pub bound_of : Slabs → ℤ → Planes → Option Bound
bound_of slabs limit planes = bound_by slabs.exact (entry_key slabs planes) (exit_key slabs limit planes)

-- what the test says of a box in the root's box: where it is met at n / d, its key is at most that of n / d, and it is
-- kept up to each limit that isn't before n / d
pub record IsKept (slabs : Slabs) (box : BoxValue) (n d : ℕ) : Type 0 where
  pub lower : (pos slabs.base +ℤ entry_key slabs (planes_of box)) ≤ℤ pos (key_at slabs.shift n d)
  pub kept : (limit : ℤ) → local_key slabs.base (key_at slabs.shift n d) ≤ℤ limit →
      entry_key slabs (planes_of box) ≤ℤ exit_key slabs limit (planes_of box)

-- slabs bound the distances of a ray in a root's box, up to a limit: each box in the root's box that is met at a
-- distance up to the limit is kept, and each that is told for sure is met 3 keys behind its own (own)
pub record AreBounds (object : ObjectRayValue) (root : BoxValue) (limit : Option Ratio) (slabs : Slabs) : Type 0 where
  pub kept : (box : BoxValue) (n d : ℕ) → IsBox box → IsPart box root → 0 < d → IsInside object box n d → IsUpTo limit n d →
      IsKept slabs box n d
  pub sure : (box : BoxValue) (to : ℤ) → IsBox box → slabs.exact ≡ true →
      (entry_key slabs (planes_of box) +ℤ pos 6) ≤ℤ exit_key slabs to (planes_of box) →
      IsInside object box ((slabs.base + (natural_part (entry_key slabs (planes_of box)) + 3)) * 2 ^ slabs.shift) (2 ^ 38)
