-- Trees by halves: how many places and levels they have, and that each leaf has 1 to 4 places.
use Rattle.std.proofs.Common.{◌≡◌, ◌∙◌, ◌+◌, ◌-◌, ◌*◌, ◌/◌, ◌^◌, ◌<◌, ◌≤◌, ◌⊎◌, inl, inr, ℕ, zero, suc, true, false, refl, sym, ap, subst, arith}
use Rattle.std.specs.Prelude.{nat_le, if◌then◌else◌}
use Rattle.std.proofs.lemmas.Bool.Decides.{nat_tests}
use Rattle.std.proofs.Math.Nat.{pow-suc, pow-zero}
use Rattle.ray_tree.specs.Shapes.{levels, AreHalves}
use Rattle.ray_tree.specs.Plans.{Plan, Few, Both, size, places_of, label, AreSmall, halves}
use Rattle.ray_tree.proofs.Spelled.{places-label}

pub halves_none : (count : ℕ) → halves zero count ≡ Few count
unfolding halves
halves_none count = refl

pub halves_few : (height count : ℕ) → count ≤ 4 → halves (suc height) count ≡ Few count
unfolding halves
halves_few height count le =
    let yes_few : nat_le count 4 ≡ true = grind (arith, nat_tests) in
    ap (λ b. if b then Few count else Both (halves height ((count + 1) / 2)) (halves height (count - (count + 1) / 2))) yes_few

pub halves_more : (height count : ℕ) → 4 < count → halves (suc height) count ≡ Both (halves height ((count + 1) / 2)) (halves height (count - (count + 1) / 2))
unfolding halves
halves_more height count lt =
    let not_few : nat_le count 4 ≡ false = grind (arith, nat_tests) in
    ap (λ b. if b then Few count else Both (halves height ((count + 1) / 2)) (halves height (count - (count + 1) / 2))) not_few

-- what is known of a tree by halves
pub record Halved (height count : ℕ) (p : Plan) : Type 0 where
  pub full : places_of p ≡ count
  pub small : AreSmall p
  pub sized : size p + 1 ≤ 2 * count
  pub low : (at first : ℕ) → levels (label at first p) ≤ suc height
  pub even : (at first : ℕ) → AreHalves (label at first p)

of_few : (height count : ℕ) → 0 < count → count ≤ 4 → Halved height count (Few count)
of_few height count some few = record {
  full = refl;
  small = (some, few);
  sized = omega arith;
  low = λ at first. omega arith;
  even = λ at first. tt;
}

of_both : (height count a b : ℕ) (l r : Plan) → a ≡ (count + 1) / 2 → a + b ≡ count → 4 < count → Halved height a l → Halved height b r → Halved (suc height) count (Both l r)
of_both height count a b l r half sum many p q = record {
  full = omega (arith, p.full, q.full);
  small = (p.small, q.small);
  sized = let s = p.sized in let t = q.sized in omega arith;
  low = λ at first.
      let s = p.low (at + 1) first in
      let t = q.low ((at + 1) + size l) (first + places_of l) in
      omega arith;
  even = λ at first.
      let e = places-label (at + 1) first l ∙ p.full in
      let f = places-label ((at + 1) + size l) (first + places_of l) r ∙ q.full in (
        omega (arith, e, f),
        e ∙ half ∙ ap (λ n. (n + 1) / 2) (omega (arith, e, f)),
        p.even (at + 1) first,
        q.even ((at + 1) + size l) (first + places_of l),
      );
}

decided : (count : ℕ) → (count ≤ 4) ⊎ (4 < count)
decided count = by (count - 4) count refl
  where
    by : (d n : ℕ) → n - 4 ≡ d → (n ≤ 4) ⊎ (4 < n)
    by zero n e = inl (omega arith)
    by (suc d) n e = inr (omega arith)

pub halved : (height count : ℕ) → 0 < count → count ≤ 4 * 2 ^ height → Halved height count (halves height count)
halved zero count some le = subst (Halved zero count) (sym (halves_none count)) (of_few zero count some (omega (arith, pow-zero 2)))
halved (suc h) count some le = elim (decided count) [
  | inl few ↦ subst (Halved (suc h) count) (sym (halves_few h count few)) (of_few (suc h) count some few)
  | inr many ↦
      (let twice = pow-suc 2 h in
      subst (Halved (suc h) count) (sym (halves_more h count many))
      (of_both h count ((count + 1) / 2) (count - (count + 1) / 2) (halves h ((count + 1) / 2)) (halves h (count - (count + 1) / 2))
      refl (omega arith) many
      (halved h ((count + 1) / 2) (omega arith) (omega (arith, twice)))
      (halved h (count - (count + 1) / 2) (omega arith) (omega (arith, twice)))))
]
