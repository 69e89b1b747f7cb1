-- The laws of a ring that the whole numbers lack in the library: products of sums, of differences
-- and of opposites, and products of three.
use Rattle.std.proofs.Common.{◌≡◌, ◌*◌, ap, ◌∙◌, arith}
use Rattle.std.specs.Prelude.{ℤ, neg_ℤ, ◌+ℤ◌, ◌-ℤ◌, ◌*ℤ◌}
use Rattle.std.proofs.lemmas.Int.{ints}
use Rattle.std.proofs.Math.IntN.{*ℤ_comm}
use borrow.Author.Differences.{up, down, sum_is_lem, product_is, neg_is}

pub *ℤ-+ℤ : (a b c : ℤ) → a *ℤ (b +ℤ c) ≡ (a *ℤ b) +ℤ (a *ℤ c)
*ℤ-+ℤ a b c =
    let sum = sum_is_lem b c in
    omega (arith, ints, ap (λ x. up a * x) sum, ap (λ x. down a * x) sum)

pub *ℤ-neg_ℤ : (a b : ℤ) → a *ℤ neg_ℤ b ≡ neg_ℤ (a *ℤ b)
*ℤ-neg_ℤ a b =
    let n = neg_is b in
    omega (arith, ints, ap (λ x. up a * x) n.0, ap (λ x. down a * x) n.0, ap (λ x. up a * x) n.1, ap (λ x. down a * x) n.1)

pub *ℤ--ℤ : (a b c : ℤ) → a *ℤ (b -ℤ c) ≡ (a *ℤ b) -ℤ (a *ℤ c)
*ℤ--ℤ a b c = *ℤ-+ℤ a b (neg_ℤ c) ∙ ap (λ x. (a *ℤ b) +ℤ x) (*ℤ-neg_ℤ a c)

pub +ℤ-*ℤ : (a b c : ℤ) → (a +ℤ b) *ℤ c ≡ (a *ℤ c) +ℤ (b *ℤ c)
+ℤ-*ℤ a b c = omega (arith, ints, *ℤ_comm (a +ℤ b) c, *ℤ-+ℤ c a b, *ℤ_comm a c, *ℤ_comm b c)

pub sub_ℤ-*ℤ : (a b c : ℤ) → (a -ℤ b) *ℤ c ≡ (a *ℤ c) -ℤ (b *ℤ c)
sub_ℤ-*ℤ a b c = omega (arith, ints, *ℤ_comm (a -ℤ b) c, *ℤ--ℤ c a b, *ℤ_comm a c, *ℤ_comm b c)

pub neg_ℤ-*ℤ : (a b : ℤ) → neg_ℤ a *ℤ b ≡ neg_ℤ (a *ℤ b)
neg_ℤ-*ℤ a b = *ℤ_comm (neg_ℤ a) b ∙ (*ℤ-neg_ℤ b a ∙ ap neg_ℤ (*ℤ_comm b a))

pub *ℤ_assoc : (a b c : ℤ) → a *ℤ (b *ℤ c) ≡ (a *ℤ b) *ℤ c
*ℤ_assoc a b c =
    let p = product_is a b in
    let q = product_is b c in
    omega (
      arith,
      ints,
      ap (λ x. x * up c) p.0,
      ap (λ x. x * down c) p.0,
      ap (λ x. x * up c) p.1,
      ap (λ x. x * down c) p.1,
      ap (λ x. up a * x) q.0,
      ap (λ x. down a * x) q.0,
      ap (λ x. up a * x) q.1,
      ap (λ x. down a * x) q.1,
    )

-- the laws that write a product of sums as a sum of products
pub ruleset spread = (*ℤ-+ℤ, *ℤ--ℤ, +ℤ-*ℤ, sub_ℤ-*ℤ, *ℤ-neg_ℤ, neg_ℤ-*ℤ)
