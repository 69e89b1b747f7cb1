-- The order of fractions is transitive, and the reach in lowest terms is the span.
use Rattle.std.proofs.Common.{ℕ, ◌*◌, ◌<◌, ◌≤◌, arith}
use Rattle.std.specs.Prelude.{◌↔◌}
use Rattle.std.proofs.Math.Nat.{mul-le-mul_right, le_of_mul-le-mul_right}
use Rattle.ray_geom.specs.declared.frac.Frac.{Frac}
use Rattle.ray_prune.specs.declared.reach.Reach.{Reach}
use Rattle.ray_geom.specs.Fraction.{IsAtMost, IsSameValue}
use Rattle.ray_geom.specs.Boxes.{BoxValue}
use Rattle.ray_geom.specs.ObjectRay.{ObjectRayValue}
use Rattle.ray_prune.specs.BoxSpan.{IsReach, IsSpan}

-- "at most" is transitive, through a fraction whose denominator isn't 0
pub at_most_chain : (n d m e k l : ℕ) → 0 < e → IsAtMost n d m e → IsAtMost m e k l → IsAtMost n d k l
at_most_chain n d m e k l e_positive p q =
    let first : n * e * l ≤ m * d * l = mul-le-mul_right {m = n * e} {n = m * d} l p in
    let second : m * l * d ≤ k * e * d = mul-le-mul_right {m = m * l} {n = k * e} d q in
    le_of_mul-le-mul_right {m = n * l} {n = k * d} {k = e} (omega arith) e_positive

-- fractions of one value are at most the same
pub at_most_left : (n d m e k l : ℕ) → 0 < d → 0 < e → IsSameValue n d m e → IsAtMost n d k l ↔ IsAtMost m e k l
at_most_left n d m e k l d_positive e_positive same = (
  λ h. at_most_chain m e n d k l d_positive (omega arith) h,
  λ h. at_most_chain n d m e k l e_positive (omega arith) h,
)

pub at_most_right : (n d m e k l : ℕ) → 0 < d → 0 < e → IsSameValue n d m e → IsAtMost k l n d ↔ IsAtMost k l m e
at_most_right n d m e k l d_positive e_positive same = (
  λ h. at_most_chain k l n d m e d_positive h (omega arith),
  λ h. at_most_chain k l m e n d e_positive h (omega arith),
)

-- the reach in lowest terms is the span
pub IsSpan-reduced : (object : ObjectRayValue) (box : BoxValue) (reach : Reach) (entry exit : Frac) →
    IsReach object box reach →
    IsSameValue entry.num entry.den reach.entry.num reach.entry.den →
    IsSameValue exit.num exit.den reach.exit.num reach.exit.den →
    IsSpan object box record { entry = entry; exit = exit }
IsSpan-reduced object box reach entry exit h p q =
    let first = reach.entry in
    let last = reach.exit in
    let same_entry = λ (k l : ℕ). at_most_left entry.num entry.den first.num first.den k l entry.limits.den_positive first.positive p in
    let under_entry = λ (k l : ℕ). at_most_right entry.num entry.den first.num first.den k l entry.limits.den_positive first.positive p in
    let same_exit = λ (k l : ℕ). at_most_left exit.num exit.den last.num last.den k l exit.limits.den_positive last.positive q in
    let under_exit = λ (k l : ℕ). at_most_right exit.num exit.den last.num last.den k l exit.limits.den_positive last.positive q in
    let ordered : IsAtMost first.num first.den last.num last.den = h.least last.num last.den last.positive h.exit in
    record {
      entry = h.between entry.num entry.den entry.limits.den_positive ((under_entry first.num first.den).1 (omega arith))
          ((same_entry last.num last.den).1 ordered);
      exit = h.between exit.num exit.den exit.limits.den_positive ((under_exit first.num first.den).1 ordered)
          ((same_exit last.num last.den).1 (omega arith));
      least = λ n d positive i. (same_entry n d).1 (h.least n d positive i);
      greatest = λ n d positive i. (under_exit n d).1 (h.greatest n d positive i);
    }
