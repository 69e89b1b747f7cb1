-- The limits of the primitives as they are kept.
use Rattle.std.proofs.Common.{Bool, true, false, Some, None, ◌≡◌}
use Rattle.std.specs.Prelude.{if◌then◌else◌}
use Rattle.ray_geom.specs.declared.vec3.Vec3.{Vec3}
use Rattle.ray_geom.specs.Scene.{IsTri, tri_value}
use Rattle.ray_geom.specs.Boxes.{IsBox, box_value}
use Rattle.ray_bytes.specs.InactiveMark.{is_inactive_mark}
use Rattle.ray_primitives.specs.declared.index_values.IndexValues.{IndexValues}
use Rattle.ray_primitives.specs.Primitives.{IsAabb, IsTriangle, active_triangle, inactive_triangle, kept_box, kept_triangle}

by_mark : (marked : Bool) (a b c : Vec3) (indices : IndexValues) → IsTri (tri_value a b c) →
    IsTriangle (if marked then inactive_triangle indices else active_triangle a b c indices)
by_mark true a b c indices h = record { limits = tt }
by_mark false a b c indices h = record { limits = h }

-- where three points are within the limits, so is the triangle that they keep
pub IsTriangle-kept : (a b c : Vec3) (indices : IndexValues) → IsTri (tri_value a b c) → IsTriangle (kept_triangle a b c indices)
unfolding kept_triangle
IsTriangle-kept a b c indices h = by_mark (is_inactive_mark a.x) a b c indices h

-- and the other way round: what is kept without the mark is within the limits
tri_unmarked : (marked : Bool) (a b c : Vec3) (indices : IndexValues) →
    IsTriangle (if marked then inactive_triangle indices else active_triangle a b c indices) → marked ≡ false → IsTri (tri_value a b c)
tri_unmarked true a b c indices kept unmarked = absurd cc
tri_unmarked false a b c indices kept unmarked = kept.limits

pub IsTri-unmarked : (a b c : Vec3) (indices : IndexValues) → IsTriangle (kept_triangle a b c indices) → is_inactive_mark a.x ≡ false →
    IsTri (tri_value a b c)
unfolding kept_triangle
IsTri-unmarked a b c indices kept unmarked = tri_unmarked (is_inactive_mark a.x) a b c indices kept unmarked

box_unmarked : (marked : Bool) (lo hi : Vec3) → IsAabb (if marked then None else Some (box_value lo hi)) → marked ≡ false → IsBox (box_value lo hi)
box_unmarked true lo hi kept unmarked = absurd cc
box_unmarked false lo hi kept unmarked = kept.limits

pub IsBox-unmarked : (lo hi : Vec3) → IsAabb (kept_box lo hi) → is_inactive_mark lo.x ≡ false → IsBox (box_value lo hi)
unfolding kept_box
IsBox-unmarked lo hi kept unmarked = box_unmarked (is_inactive_mark lo.x) lo hi kept unmarked
