-- Bits of a number from a place on.
use Rattle.std.proofs.Common.{ℕ, ◌≡◌, ◌+◌, ◌-◌, ◌/◌, ◌%◌, ◌^◌, ◌<◌, ◌≤◌, ◌∙◌, ap, sym, arith}
use Rattle.std.specs.Int.{bit_at, trailing_zeros, w32}
use Rattle.std.proofs.lemmas.Nat.{pow-add}
use Rattle.std.proofs.Math.Nat.{div-div-eq-div-mul}
use Rattle.std.proofs.lemmas.Nat.Bits.{bit_at-trailing_zeros, bit_at-zero}
use Rattle.ray_lanes.specs.Overlap.{HasBit}

-- a bit of what stands from a place on
from-on : (n from j : ℕ) → bit_at n (from + j) ≡ bit_at (n / 2 ^ from) j
from-on n from j = ap (λ p. n / p % 2) (pow-add 2 from j) ∙ ap (λ q. q % 2) (sym (div-div-eq-div-mul n (2 ^ from) (2 ^ j)))

-- bit k, where it isn't set in what stands from a place on
unset : (n from k : ℕ) → from ≤ k → bit_at (n / 2 ^ from) (k - from) ≡ 0 → HasBit n k → ⊥
unset n from k after clear set =
    let at : k ≡ from + (k - from) = omega (arith, after) in
    let is : bit_at n k ≡ 0 = ap (bit_at n) at ∙ (from-on n from (k - from) ∙ clear) in
    let no : 0 ≡ 1 = sym is ∙ set in
    omega (arith, no)

-- where nothing is from a place on, no bit is set there
pub none-set : (n from k : ℕ) → n / 2 ^ from ≡ 0 → from ≤ k → HasBit n k → ⊥
none-set n from k none after = unset n from k after (ap (λ q. bit_at q (k - from)) none ∙ bit_at-zero (k - from))

-- the lowest bit of it is set, and none before
pub is-set : (n from : ℕ) → 0 < n / 2 ^ from → n / 2 ^ from < 2 ^ 32 → HasBit n (from + trailing_zeros w32 (n / 2 ^ from))
is-set n from some small = from-on n from (trailing_zeros w32 (n / 2 ^ from)) ∙ (bit_at-trailing_zeros w32 (n / 2 ^ from) some small).1

pub none-before : (n from k : ℕ) → 0 < n / 2 ^ from → n / 2 ^ from < 2 ^ 32 → from ≤ k → k < from + trailing_zeros w32 (n / 2 ^ from)
    → HasBit n k → ⊥
none-before n from k some small after below =
    unset n from k after ((bit_at-trailing_zeros w32 (n / 2 ^ from) some small).2 (k - from) (omega (arith, after, below)))
