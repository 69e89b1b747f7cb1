-- Fractions n / d of natural numbers.
use Rattle.std.specs.Prelude.{ℕ, ◌≡◌, ◌*◌, ◌^◌, ◌<◌, ◌≤◌}
use Rattle.std.specs.Int.{◌∣◌}
use Rattle.std.specs.Ordering.{nat_cmp}
use Rattle.std.specs.declared.cmp.Ordering.{Ordering}

-- n / d is at most m / e: n e is at most m d (own)
abbrev pub IsAtMost : ℕ → ℕ → ℕ → ℕ → Type 0
IsAtMost n d m e = n * e ≤ m * d

-- n / d and m / e have one value: n e is m d (own)
abbrev pub IsSameValue : ℕ → ℕ → ℕ → ℕ → Type 0
IsSameValue n d m e = n * e ≡ m * d

-- the fraction order: how n / d stands to m / e is how n e stands to m d (own)
abbrev pub fraction_cmp : ℕ → ℕ → ℕ → ℕ → Ordering
fraction_cmp n d m e = nat_cmp (n * e) (m * d)

-- a fraction within the limits: the denominator isn't 0, and neither number is above 3 * 2^61 (own)
pub record IsFraction (num den : ℕ) : Type 0 where
  pub den_positive : 0 < den
  pub den_limit : den ≤ 3 * 2 ^ 61
  pub num_limit : num ≤ 3 * 2 ^ 61

-- lowest terms: no number but 1 divides both (own)
pub record IsLowest (num den : ℕ) : Type 0 where
  pub only_one : (d : ℕ) → d ∣ num → d ∣ den → d ≡ 1
