-- Keys of distances and stored planes: the fixed-point numbers of a slab test.
use Rattle.std.specs.Prelude.{ℕ, ℤ, pos, ◌*◌, ◌/◌, ◌^◌, ◌-◌, ◌+ℤ◌, ◌-ℤ◌, ◌≤ℤ◌}
use Rattle.std.specs.Int.{int_min}
use Rattle.ray_prune.specs.BoxReach.{natural_part}

-- the distance n / d as a key: in 2^(shift - 38), rounded down (own)
abbrev pub key_at : ℕ → ℕ → ℕ → ℕ
key_at shift n d = (n * 2 ^ 38) / (d * 2 ^ shift)

-- a plane as a node stores it: p + 2^19, in 1/1024 (own)
abbrev pub plane_of : ℤ → ℕ
plane_of p = natural_part (p +ℤ pos (2 ^ 19)) * 1024

-- the high half of a product of two numbers of 32 bits
abbrev pub high_half : ℕ → ℕ → ℕ
high_half plane factor = plane * factor / 2 ^ 32

-- a key counted from a base, and at most 2^31 - 64
abbrev pub local_key : ℕ → ℕ → ℤ
local_key base key = int_min (pos key -ℤ pos base) (pos (2 ^ 31 - 64))

-- a key lies from near to far
pub record IsFrom (near far key : ℤ) : Type 0 where
  pub at_least : near ≤ℤ key
  pub at_most : key ≤ℤ far
