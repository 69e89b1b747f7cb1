-- A ratio is that of its two numbers.
use Rattle.std.proofs.Common.{ℕ, zero, suc, ◌≡◌, ◌<◌, sym, ◌∙◌, arith}
use Rattle.std.proofs.Props.{props}
use Rattle.ray_geom.specs.declared.ratio.Ratio.{Ratio}
use Rattle.ray_geom.specs.Ratio.{ratio_at, suc_positive}

below_prop : (m n : ℕ) → IsProp (m < n)
below_prop m n = hlevel props

ratio_at-positive : (n d : ℕ) (positive : 0 < d) → ratio_at n d ≡ record { num = n; den = d; positive = positive }
ratio_at-positive n zero positive = absurd (omega arith)
ratio_at-positive n (suc d) positive =
    λ i. record { num = n; den = suc d; positive = below_prop 0 (suc d) (suc_positive d) positive i }

pub ratio_at-is : (r : Ratio) (n d : ℕ) → r.num ≡ n → r.den ≡ d → r ≡ ratio_at n d
ratio_at-is r n d p q = sym (ratio_at-positive r.num r.den r.positive) ∙ (λ i. ratio_at (p i) (q i))
