-- Lemmas that a reader of the public contracts needs not: the laws of the order of ratios. They stand in specs/, since the `impl`s cite them.
use Rattle.std.specs.Prelude.{ℕ, ◌≡◌, ◌*◌, ◌<◌, refl}
use Rattle.std.specs.Cmp.{IsTotalOrder, IsPartialOrder, IsEquivalence, IsPartialEquivalence, Agrees, partial_order_from_agreeing_total, partial_equiv_from_equiv, nat_cmp_is}
use Rattle.std.specs.Ordering.{MatchOrdering, nat_cmp, as_partial_cmp, eq_by_cmp}
use Rattle.std.specs.declared.cmp.Ordering.{Ordering}
use Rattle.std.specs.declared.cmp.Ordering.TheVariants.{Less, Equal, Greater}
use Rattle.std.proofs.Common.{arith, sym, ap, ◌∙◌}
use Rattle.std.proofs.lemmas.Cmp.{ranked, nat_cmp_total, eq_by_cmp_equiv}
use Rattle.std.proofs.Math.Nat.{mul-lt-mul_of_pos_right}
use Rattle.ray_geom.specs.declared.ratio.Ratio.{Ratio}
use Rattle.ray_geom.specs.Ratio.{ratio_cmp, ratio_eq}
use Rattle.ray_geom.specs.FracLaws.{below_chain}

-- a positive factor on both sides leaves the order
scaled_rank : (a b k : ℕ) → 0 < k → (r : Ordering) → MatchOrdering r (a < b) (a ≡ b) (b < a) →
    MatchOrdering r (a * k < b * k) (a * k ≡ b * k) (b * k < a * k)
scaled_rank a b k positive Less h = mul-lt-mul_of_pos_right {m = a} {n = b} {k = k} h positive
scaled_rank a b k positive Equal h = ap (λ x. x * k) h
scaled_rank a b k positive Greater h = mul-lt-mul_of_pos_right {m = b} {n = a} {k = k} h positive

nat_cmp-scaled : (a b k : ℕ) → 0 < k → nat_cmp a b ≡ nat_cmp (a * k) (b * k)
nat_cmp-scaled a b k positive =
    nat_cmp_is (a * k) (b * k) (nat_cmp a b) (scaled_rank a b k positive (nat_cmp a b) (ranked a b (nat_cmp a b) refl))

-- fractions of one value stand alike to a third: at plain numbers
alike : (n d m e k l : ℕ) → 0 < d → 0 < e → n * e ≡ m * d → nat_cmp (n * l) (k * d) ≡ nat_cmp (m * l) (k * e)
alike n d m e k l d_positive e_positive same =
    let left : n * l * e ≡ m * l * d = omega (arith, ap (λ x. x * l) same) in
    let right : k * d * e ≡ k * e * d = omega arith in
    nat_cmp-scaled (n * l) (k * d) e e_positive ∙
    ((λ i. nat_cmp (left i) (right i)) ∙ sym (nat_cmp-scaled (m * l) (k * e) d d_positive))

-- the order by value is a total order
pub ratio_cmp-total : IsTotalOrder ratio_cmp
ratio_cmp-total = record {
  antisymm = λ a b. nat_cmp_total.antisymm (a.num * b.den) (b.num * a.den);
  trans = λ a b c p q.
      sym (nat_cmp_is (a.num * c.den) (c.num * a.den) Less
      (below_chain a.num a.den b.num b.den c.num c.den a.positive c.positive
      (ranked (a.num * b.den) (b.num * a.den) Less (sym p))
      (ranked (b.num * c.den) (c.num * b.den) Less (sym q))));
  congr = λ a b c p.
      alike a.num a.den b.num b.den c.num c.den a.positive b.positive
      (ranked (a.num * b.den) (b.num * a.den) Equal (sym p));
}

-- `partial_cmp` answers what `cmp` does, and `==` holds where it answers `Equal`
pub ratio_cmp-partial : Agrees (as_partial_cmp ratio_cmp) ratio_cmp
ratio_cmp-partial = λ a b. refl

pub ratio_cmp-eq : (a b : Ratio) → ratio_eq a b ≡ eq_by_cmp ratio_cmp a b
ratio_cmp-eq = λ a b. refl

-- the laws of `Eq`, `PartialEq` and `PartialOrd`
pub ratio_eq-equivalence : IsEquivalence ratio_eq
ratio_eq-equivalence = eq_by_cmp_equiv ratio_cmp-total

pub ratio_eq-laws : IsPartialEquivalence ratio_eq
ratio_eq-laws = partial_equiv_from_equiv ratio_eq-equivalence

pub ratio_cmp-laws : IsPartialOrder ratio_eq (as_partial_cmp ratio_cmp)
ratio_cmp-laws = partial_order_from_agreeing_total ratio_cmp ratio_cmp-total ratio_cmp-partial ratio_cmp-eq
