-- Ratios: fractions as they are, and not in lowest terms. A ratio is a distance where a key or a
-- comparison needs a total order by value.
use Rattle.std.specs.Prelude.{ℕ, zero, suc, ◌*◌, ◌<◌, Bool, cond, nat_le}
use Rattle.std.specs.Ordering.{eq_by_cmp}
use Rattle.std.specs.declared.cmp.Ordering.{Ordering}
use Rattle.std.proofs.Common.{arith, lit<}
use Rattle.ray_geom.specs.declared.frac.Frac.{Frac}
use Rattle.ray_geom.specs.declared.ratio.Ratio.{Ratio}
use Rattle.ray_geom.specs.Fraction.{fraction_cmp}

-- the fraction order, at two ratios (own)
abbrev pub ratio_cmp : Ratio → Ratio → Ordering
ratio_cmp a b = fraction_cmp a.num a.den b.num b.den

-- two ratios have one value (own)
abbrev pub ratio_eq : Ratio → Ratio → Bool
ratio_eq = eq_by_cmp ratio_cmp

-- the ratio of a fraction in lowest terms
abbrev pub ratio_of : Frac → Ratio
ratio_of f = record { num = f.num; den = f.den; positive = f.limits.den_positive }

-- a successor is above 0
pub suc_positive : (k : ℕ) → 0 < suc k
suc_positive k = omega arith

-- num / (k + 1)
abbrev pub over_suc : ℕ → ℕ → Ratio
over_suc num k = record { num = num; den = suc k; positive = suc_positive k }

-- a distance of so many parts of 1/65536
abbrev pub parts_of : ℕ → Ratio
parts_of parts = record { num = parts; den = 65536; positive = lit< tt }

-- numerator and denominator as a ratio, which has a total order; 0 where the denominator is 0
abbrev pub ratio_at : ℕ → ℕ → Ratio
ratio_at num zero = over_suc 0 0
ratio_at num (suc k) = over_suc num k

-- the greater of two ratios, by value
abbrev pub later_of : Ratio → Ratio → Ratio
later_of a b = cond (nat_le (a.num * b.den) (b.num * a.den)) b a

-- the lesser of two ratios, by value
abbrev pub earlier_of : Ratio → Ratio → Ratio
earlier_of a b = cond (nat_le (a.num * b.den) (b.num * a.den)) a b
