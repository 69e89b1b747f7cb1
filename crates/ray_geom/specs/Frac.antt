-- The two numbers of a `Frac`, and the order of fractions at them.
use Rattle.std.specs.Prelude.{ℕ}
use Rattle.std.specs.declared.cmp.Ordering.{Ordering}
use Rattle.ray_geom.specs.declared.frac.Frac.{Frac}
use Rattle.ray_geom.specs.Fraction.{fraction_cmp}

-- the numerator of a fraction in lowest terms
abbrev pub numerator : Frac → ℕ
numerator f = f.num

-- the denominator of a fraction in lowest terms
abbrev pub denominator : Frac → ℕ
denominator f = f.den

-- the fraction order
abbrev pub frac_cmp : Frac → Frac → Ordering
frac_cmp f g = fraction_cmp f.num f.den g.num g.den
