-- How a slope stands for an axis of a ray, of which no clause of a public call speaks.
use Rattle.std.specs.Prelude.{ℕ, ℤ, pos, negsuc, neg_ℤ, ◌≡◌, ◌*◌, ◌+◌, ◌<◌, ◌≤◌, ◌^◌, ◌+ℤ◌, ◌-ℤ◌, ◌*ℤ◌, ◌≤ℤ◌, ◌<ℤ◌, unsigned_abs, Bool, true, false}
use Rattle.ray_geom.specs.Vector.{IsWithin}
use Rattle.ray_slabs.specs.declared.slope.Slope.{Slope}

-- lesser planes are crossed later: det and m have opposite signs
abbrev pub is_falling : ℤ → ℤ → Bool
is_falling (pos det) (pos m) = false
is_falling (pos det) (negsuc m) = true
is_falling (negsuc det) (pos m) = true
is_falling (negsuc det) (negsuc m) = false

-- how far it is back to the origin, along the ray
abbrev pub back_of : ℤ → ℤ → ℤ
back_of o (pos m) = neg_ℤ o
back_of o (negsuc m) = o

-- the way to the plane at -2^19, times |det|
abbrev pub way_of : Bool → ℕ → ℤ → ℤ
way_of false size back = back -ℤ pos (2 ^ 19 * size)
way_of true size back = back +ℤ pos (2 ^ 19 * size)

abbrev pub start_of : ℤ → ℤ → ℤ → ℤ
start_of det o m = way_of (is_falling det m) (unsigned_abs det) (back_of o m)

-- the offset of a slope: its start, and 2 more where it is falling
abbrev pub offset_of : Bool → ℤ → ℤ
offset_of false start = start
offset_of true start = start +ℤ pos 2

-- p / q, rounded down
pub record IsFloor (p : ℤ) (q : ℕ) (k : ℤ) : Type 0 where
  pub below : (k *ℤ pos q) ≤ℤ p
  pub above : p <ℤ ((k *ℤ pos q) +ℤ pos q)

-- a slope stands for an axis with the determinant, o and m: the factor is |det| / |m| and the offset is the way to
-- the plane at -2^19, by |m|, in the units of keys, both rounded down
pub record IsSlope (det o m : ℤ) (shift : ℕ) (slope : Slope) : Type 0 where
  pub moves : 0 < unsigned_abs m
  pub way : slope.falling ≡ is_falling det m
  pub factor_below : slope.factor * (unsigned_abs m * 2 ^ shift) ≤ unsigned_abs det * 2 ^ 60
  pub factor_above : unsigned_abs det * 2 ^ 60 ≤ (slope.factor + 1) * (unsigned_abs m * 2 ^ shift)
  pub offset : IsFloor (start_of det o m *ℤ pos (2 ^ 38)) (unsigned_abs m * 2 ^ shift) (offset_of slope.falling slope.start)
  pub start_short : IsWithin (2 ^ 61 + 2) slope.start
  pub factor_short : slope.factor < 2 ^ 32

-- the parts of a slope
pub record IsMade (falling : Bool) (factor : ℕ) (offset : ℤ) (slope : Slope) : Type 0 where
  pub falling_is : slope.falling ≡ falling
  pub factor_is : slope.factor ≡ factor
  pub offset_is : offset_of falling slope.start ≡ offset
  pub start_short : IsWithin (2 ^ 61 + 2) slope.start
  pub factor_short : slope.factor < 2 ^ 32
