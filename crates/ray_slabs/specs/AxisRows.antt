-- The slab test on one axis, of eight boxes at once, of which no clause of a public call speaks.
use Rattle.std.specs.Prelude.{ℕ, ℤ, ◌<◌, ◌+◌, ◌-◌, ◌%◌, ◌^◌, FitsSigned, List, replicate}
use Rattle.std.specs.Int.{w32}
use Rattle.ray_slabs.specs.declared.axis.Axis.{Axis}
use Rattle.ray_slabs.specs.declared.axis.Axis.TheVariants.{Rising, Falling, Flat}
use Rattle.ray_slabs.specs.Rows.{high_row, keys_over, keys_under, lifted, overlap_row}

-- a key that is beyond all that are compared with it, with 2^31 more
abbrev pub lifted_beyond : ℕ
lifted_beyond = 2 ^ 32 - 32

-- a key that is 3 more, with 2^31 more
abbrev pub lifted_far : ℤ → ℕ
lifted_far start = (lifted start + 3) % 2 ^ 32

-- the numbers of an axis fit 32 bits
abbrev pub IsFit : Axis → Type 0
IsFit (Rising factor start) = (factor < 2 ^ 32) × FitsSigned w32 start
IsFit (Falling factor start) = (factor < 2 ^ 32) × FitsSigned w32 start
IsFit (Flat from to) = FitsSigned w32 from × FitsSigned w32 to

-- the keys at which the ray comes between planes
abbrev pub near_row : Axis → List ℕ → List ℕ → List ℕ
near_row (Rising factor start) lo hi = keys_over (lifted start) (high_row lo factor)
near_row (Falling factor start) lo hi = keys_under (lifted start) (high_row hi factor)
near_row (Flat from to) lo hi = overlap_row lo hi (lifted from) (lifted to) lifted_beyond

-- and those at which it goes out of them
abbrev pub far_row : Axis → List ℕ → List ℕ → List ℕ
far_row (Rising factor start) lo hi = keys_over (lifted_far start) (high_row hi factor)
far_row (Falling factor start) lo hi = keys_under (lifted_far start) (high_row lo factor)
far_row (Flat from to) lo hi = replicate 8 lifted_beyond
