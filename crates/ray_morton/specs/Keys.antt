-- The key of a box: where its middle is, as one number of 60 bits. (Own.)
use Rattle.std.specs.Prelude.{◌+◌, ◌*◌, ◌/◌, ◌%◌, ◌^◌, ◌+ℤ◌, ℕ, zero, suc, ℤ, pos}
use Rattle.ray_geom.specs.Boxes.{BoxValue}
use Rattle.ray_prune.specs.BoxReach.{natural_part}

-- where the middle of a box is on an axis, from 0 to 2^19: a quarter, rounded down, of its least and its greatest
-- coordinate and 2^20
abbrev pub middle_of : ℤ → ℤ → ℕ
middle_of lo hi = natural_part ((lo +ℤ hi) +ℤ pos (2 ^ 20)) / 4

-- the lowest bits of three numbers, so many of each, in turns from the highest down, and at each height the first
-- number's before the second's before the third's
unfoldable pub interleaved : ℕ → ℕ → ℕ → ℕ → ℕ
interleaved zero x y z = 0
interleaved (suc bits) x y z = 8 * interleaved bits (x / 2) (y / 2) (z / 2) + (4 * (x % 2) + (2 * (y % 2) + z % 2))

-- the key of a box: the bits of its middle on the axes x, y and z in turns
abbrev pub key_of : BoxValue → ℕ
key_of box = interleaved 20 (middle_of box.lo.x box.hi.x) (middle_of box.lo.y box.hi.y) (middle_of box.lo.z box.hi.z)
