-- Lemmas that a reader of the public contracts needs not: the laws of the order of `Frac`, and that one value has one `Frac`. They stand in specs/, since
-- the `impl`s cite them.
use Rattle.std.specs.Prelude.{ℕ, ◌≡◌, ◌==◌, ◌&&◌, ◌*◌, ◌<◌, Bool, refl}
use Rattle.std.specs.Cmp.{IsTotalOrder, IsPartialOrder, Agrees, partial_order_from_agreeing_total, nat_cmp_is}
use Rattle.std.specs.Ordering.{nat_cmp, as_partial_cmp, is_eq, eq_by_cmp}
use Rattle.std.specs.declared.cmp.Ordering.TheVariants.{Less, Equal}
use Rattle.std.proofs.Common.{arith, sym, ap}
use Rattle.std.proofs.Props.{props}
use Rattle.std.proofs.lemmas.Bool.Decides.{nat_tests}
use Rattle.std.proofs.lemmas.Cmp.{ranked, nat_cmp_total}
use Rattle.std.proofs.Math.Nat.{mul-lt-mul_of_pos_right, lt_of_mul-lt-mul_right}
use mathlib.Core.HLevel.{is_prop→PathP}
use Rattle.ray_geom.specs.declared.frac.Frac.{Frac}
use Rattle.ray_geom.specs.Fraction.{IsFraction, IsLowest, IsSameValue}
use Rattle.ray_geom.specs.Frac.{frac_cmp}
use Rattle.ray_geom.specs.Gauss.{same_den, same_num}

-- the two facts that a `Frac` carries have one proof each
IsFraction-prop : (n d : ℕ) → IsProp (IsFraction n d)
IsFraction-prop n d = hlevel props

IsLowest-prop : (n d : ℕ) → IsProp (IsLowest n d)
IsLowest-prop n d = hlevel props

-- two with the same numbers are identical
same_numbers : (f g : Frac) → f.num ≡ g.num → f.den ≡ g.den → f ≡ g
same_numbers f g n d = λ i. record {
  num = n i;
  den = d i;
  limits = is_prop→PathP (λ j. IsFraction (n j) (d j)) (λ j. IsFraction-prop (n j) (d j)) f.limits g.limits i;
  lowest = is_prop→PathP (λ j. IsLowest (n j) (d j)) (λ j. IsLowest-prop (n j) (d j)) f.lowest g.lowest i;
}

-- two of one value are identical
pub same_value : (f g : Frac) → IsSameValue f.num f.den g.num g.den → f ≡ g
same_value f g h =
    same_numbers f g
    (same_num f.num f.den g.num g.den f.limits.den_positive g.limits.den_positive f.lowest g.lowest h)
    (same_den f.num f.den g.num g.den f.limits.den_positive g.limits.den_positive f.lowest g.lowest h)

-- below is transitive
pub below_chain : (n d m e k l : ℕ) → 0 < d → 0 < l → n * e < m * d → m * l < k * e → n * l < k * d
below_chain n d m e k l d_positive l_positive p q =
    let first : n * e * l < m * d * l =
    mul-lt-mul_of_pos_right {m = n * e} {n = m * d} {k = l} p l_positive in
    let second : m * l * d < k * e * d =
    mul-lt-mul_of_pos_right {m = m * l} {n = k * e} {k = d} q d_positive in
    let both : n * l * e < k * d * e = omega arith in
    lt_of_mul-lt-mul_right e both

-- the order by value is a total order
pub frac_cmp-total : IsTotalOrder frac_cmp
frac_cmp-total = record {
  antisymm = λ f g. nat_cmp_total.antisymm (f.num * g.den) (g.num * f.den);
  trans = λ f g h p q.
      sym (nat_cmp_is (f.num * h.den) (h.num * f.den) Less
      (below_chain f.num f.den g.num g.den h.num h.den f.limits.den_positive h.limits.den_positive
      (ranked (f.num * g.den) (g.num * f.den) Less (sym p))
      (ranked (g.num * h.den) (h.num * g.den) Less (sym q))));
  congr = λ f g h p. ap (λ x. frac_cmp x h) (same_value f g (ranked (f.num * g.den) (g.num * f.den) Equal (sym p)));
}

-- `partial_cmp` answers what `cmp` does
pub frac_cmp-partial : Agrees (as_partial_cmp frac_cmp) frac_cmp
frac_cmp-partial = λ f g. refl

-- what the derived `==` tests
abbrev pub frac_eq : Frac → Frac → Bool
frac_eq f g = (f.num == g.num) && (f.den == g.den)

-- `==` holds where the order ties: at two numbers each, and at two fractions
tests_agree : (n d m e : ℕ) →
    (n * e ≡ m * d → n ≡ m) → (n * e ≡ m * d → d ≡ e) →
    ((n == m) && (d == e)) ≡ is_eq (nat_cmp (n * e) (m * d))
tests_agree n d m e p q = grind (arith, nat_tests)

pub frac_cmp-eq : (f g : Frac) → frac_eq f g ≡ eq_by_cmp frac_cmp f g
frac_cmp-eq f g =
    tests_agree f.num f.den g.num g.den
    (same_num f.num f.den g.num g.den f.limits.den_positive g.limits.den_positive f.lowest g.lowest)
    (same_den f.num f.den g.num g.den f.limits.den_positive g.limits.den_positive f.lowest g.lowest)

-- the laws of `PartialOrd`
pub frac_cmp-laws : IsPartialOrder frac_eq (as_partial_cmp frac_cmp)
frac_cmp-laws = partial_order_from_agreeing_total frac_cmp frac_cmp-total frac_cmp-partial frac_cmp-eq
