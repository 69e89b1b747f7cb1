-- The mark of an inactive primitive. (Own: the number; Vulkan, "Acceleration Structures", marks an
-- inactive primitive by a coordinate that is no number.)
use Rattle.std.specs.Prelude.{ℤ, negsuc, ◌-◌, ◌^◌, Bool}
use Rattle.std.specs.Ordering.{int_eq}

-- the least number of 32 bits, -2^31
abbrev pub inactive_mark : ℤ
inactive_mark = negsuc (2 ^ 31 - 1)

-- whether a coordinate marks its primitive as inactive: as x of a triangle's first vertex, or as a
-- box's least x
abbrev pub is_inactive_mark : ℤ → Bool
is_inactive_mark x = int_eq x inactive_mark
