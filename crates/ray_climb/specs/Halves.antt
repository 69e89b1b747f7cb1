-- A box in two numbers of 63 bits: its low half has its least corner and its high half its
-- greatest, three coordinates of 21 bits each, counted from the least one that there is. (Own.)
use Rattle.std.specs.Prelude.{ℕ, ℤ, pos, ◌+◌, ◌*◌, ◌/◌, ◌%◌, ◌^◌, ◌+ℤ◌, ◌-ℤ◌, min, max}
use Rattle.ray_geom.specs.declared.vec3.Vec3.{Vec3}
use Rattle.ray_geom.specs.Vector.{vec3}
use Rattle.ray_geom.specs.Boxes.{BoxValue}
use Rattle.ray_prune.specs.BoxReach.{natural_part}

-- three numbers below 2^21 in one
abbrev pub packed : ℕ → ℕ → ℕ → ℕ
packed x y z = x * 2 ^ 42 + y * 2 ^ 21 + z

-- and each of them again
abbrev pub x_of : ℕ → ℕ
x_of half = half / 2 ^ 42

abbrev pub y_of : ℕ → ℕ
y_of half = half / 2 ^ 21 % 2 ^ 21

abbrev pub z_of : ℕ → ℕ
z_of half = half % 2 ^ 21

-- a coordinate, from -2^19 to 2^19, counted from the least one
abbrev pub raised : ℤ → ℕ
raised c = natural_part (c +ℤ pos (2 ^ 19))

-- a corner of a box in one number
unfoldable pub half_of : Vec3 → ℕ
half_of v = packed (raised v.x) (raised v.y) (raised v.z)

-- the two halves of a box
abbrev pub low_half : BoxValue → ℕ
low_half box = half_of box.lo

abbrev pub high_half : BoxValue → ℕ
high_half box = half_of box.hi

-- coordinate by coordinate the lesser of two halves, and the greater
unfoldable pub lesser_half : ℕ → ℕ → ℕ
lesser_half a b = packed (min (x_of a) (x_of b)) (min (y_of a) (y_of b)) (min (z_of a) (z_of b))

unfoldable pub greater_half : ℕ → ℕ → ℕ
greater_half a b = packed (max (x_of a) (x_of b)) (max (y_of a) (y_of b)) (max (z_of a) (z_of b))

-- and again from 0
abbrev pub lowered : ℕ → ℤ
lowered n = pos n -ℤ pos (2 ^ 19)

-- the corner again
abbrev pub corner_of : ℕ → Vec3
corner_of half = vec3 (lowered (x_of half)) (lowered (y_of half)) (lowered (z_of half))
