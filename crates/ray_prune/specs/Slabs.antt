-- Words of private calls alone, which a reader of the public contracts needs not: what the calls of the box reach give,
-- by which distances n / d they keep.
use Rattle.std.specs.Prelude.{ℕ, ℤ, pos, ◌+◌, ◌*◌, ◌^◌, ◌<◌, ◌↔◌, ◌*ℤ◌, ◌≤ℤ◌, unsigned_abs}
use Rattle.ray_prune.specs.declared.slab.Slab.{Slab}
use Rattle.ray_prune.specs.declared.reach.Reach.{Reach}
use Rattle.ray_geom.specs.Vector.{IsWithin}
use Rattle.ray_geom.specs.Fraction.{IsAtMost}

-- how large the numbers of one axis are: the determinant, the box's two ends, and o and m
pub record IsAxis (det lo hi o m : ℤ) : Type 0 where
  pub det_short : IsWithin (6 * 2 ^ 36) det
  pub lo_short : IsWithin (2 ^ 19) lo
  pub hi_short : IsWithin (2 ^ 19) hi
  pub o_short : IsWithin (3 * 2 ^ 25 * (2 ^ 19 + 2 ^ 20)) o
  pub m_short : IsWithin (3 * 2 ^ 45) m

-- n / d is at least near / size, where size isn't 0; where it is, near isn't above 0
pub record IsPast (near : ℤ) (size n d : ℕ) : Type 0 where
  pub at_least : (near *ℤ pos d) ≤ℤ pos (n * size)

-- n / d is at most far / size, where size isn't 0; where it is, far isn't below 0
pub record IsBefore (far : ℤ) (size n d : ℕ) : Type 0 where
  pub at_most : pos (n * size) ≤ℤ (far *ℤ pos d)

-- n / d is in the slab
pub record IsInSlab (slab : Slab) (n d : ℕ) : Type 0 where
  pub past : IsPast slab.near slab.size n d
  pub before : IsBefore slab.far slab.size n d

-- how large a slab's numbers are
pub record IsSlab (slab : Slab) : Type 0 where
  pub near_below : unsigned_abs slab.near < 2 ^ 58
  pub far_below : unsigned_abs slab.far < 2 ^ 58
  pub size_below : slab.size < 2 ^ 47

-- n / d is from the entry to the exit
pub record Covers (reach : Reach) (n d : ℕ) : Type 0 where
  pub from : IsAtMost reach.entry.num reach.entry.den n d
  pub to : IsAtMost n d reach.exit.num reach.exit.den

-- the second reach covers what the first covers and P holds of
abbrev pub Narrows : (ℕ → ℕ → Type 0) → Reach → Reach → Type 0
Narrows P reach narrower = (n d : ℕ) → 0 < d → Covers narrower n d ↔ (Covers reach n d × P n d)

-- P holds of no distance
abbrev pub Never : (ℕ → ℕ → Type 0) → Type 0
Never P = (n d : ℕ) → 0 < d → ¬ P n d
