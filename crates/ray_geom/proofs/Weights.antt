-- What positive weights say of signs and of distances.
use Rattle.std.proofs.Common.{ℕ, zero, suc, ◌≡◌, ◌≢◌, ◌*◌, ◌≤◌, sym, ap, subst, ◌∙◌, refl, arith}
use Rattle.std.specs.Prelude.{ℤ, pos, negsuc, ◌+ℤ◌, ◌*ℤ◌, ◌≤ℤ◌, unsigned_abs}
use Rattle.std.specs.Int.{int_signum}
use Rattle.std.proofs.lemmas.Int.{ints}
use Rattle.std.proofs.Math.IntN.{*ℤ_comm}
use Rattle.std.proofs.Math.Nat.{le_of_mul-le-mul_left, mul-le-mul_right}
use Rattle.ray_geom.specs.Vector.{sign_of}
use Rattle.ray_geom.specs.TriangleHit.{over_size, IsFrom, IsTo}
use Rattle.ray_geom.proofs.Ring.{*ℤ_assoc}

-- a positive weight leaves the sign
pub sign_of-weight : (m : ℕ) (z : ℤ) → sign_of (pos (suc m) *ℤ z) ≡ sign_of z
sign_of-weight m (pos zero) = grind (arith, ints)
sign_of-weight m (pos (suc n)) = grind (arith, ints)
sign_of-weight m (negsuc n) = grind (arith, ints)

-- of two numbers of one sign each has the sign of the sum
left_sign : (v w : ℤ) → sign_of w ≡ sign_of v → sign_of v ≡ sign_of (v +ℤ w)
left_sign v w h = grind (arith, ints)

right_sign : (v w : ℤ) → sign_of w ≡ sign_of v → sign_of w ≡ sign_of (v +ℤ w)
right_sign v w h = grind (arith, ints)

-- two numbers that are equal with positive weights
weighed_sign : (m j : ℕ) (v w : ℤ) → pos (suc m) *ℤ w ≡ pos (suc j) *ℤ v → sign_of w ≡ sign_of v
weighed_sign m j v w h = sym (sign_of-weight m w) ∙ (ap sign_of h ∙ sign_of-weight j v)

pub record AreShares (v w den : ℤ) : Type 0 where
  pub left : sign_of v ≡ sign_of den
  pub right : sign_of w ≡ sign_of den

pub AreShares-weighed : (m j : ℕ) (v w den : ℤ) →
    pos (suc m) *ℤ w ≡ pos (suc j) *ℤ v → v +ℤ w ≡ den → AreShares v w den
AreShares-weighed m j v w den h sum =
    let same = weighed_sign m j v w h in
    record { left = left_sign v w same ∙ ap sign_of sum; right = right_sign v w same ∙ ap sign_of sum }

-- a number with the sign of one that isn't zero isn't zero
pub not_zero_by_sign : (v den : ℤ) → sign_of v ≡ sign_of den → den ≢ pos 0 → v ≢ pos 0
not_zero_by_sign v den h den_not_zero zero_v = grind (arith, ints)

-- the sign times the number is its absolute value
pub signum-self : (den : ℤ) → int_signum den *ℤ den ≡ pos (unsigned_abs den)
signum-self (pos zero) = refl
signum-self (pos (suc n)) = grind (arith, ints)
signum-self (negsuc n) = grind (arith, ints)

swap : (a b c : ℤ) → a *ℤ (b *ℤ c) ≡ b *ℤ (a *ℤ c)
swap a b c = *ℤ_assoc a b c ∙ (ap (λ x. x *ℤ c) (*ℤ_comm a b) ∙ sym (*ℤ_assoc b a c))

-- k den = s num, with both multiplied by the sign of den
pub over_size-weighed : (k s : ℕ) (num den : ℤ) → pos k *ℤ den ≡ pos s *ℤ num →
    pos k *ℤ pos (unsigned_abs den) ≡ pos s *ℤ over_size num den
over_size-weighed k s num den h =
    ap (λ x. pos k *ℤ x) (sym (signum-self den)) ∙
    (swap (pos k) (int_signum den) den ∙ (ap (λ x. int_signum den *ℤ x) h ∙ swap (int_signum den) (pos s) num))

-- a number that is a positive share of a natural number is one
pub record IsShare (k size s : ℕ) (z : ℤ) : Type 0 where
  pub part : ℕ
  pub is : z ≡ pos part
  pub value : k * size ≡ suc s * part

IsShare-from : (k size s : ℕ) (z : ℤ) → pos k *ℤ pos size ≡ pos (suc s) *ℤ z → IsShare k size s z
IsShare-from k size s (pos n) h = record { part = n; is = refl; value = omega (arith, ints) }
IsShare-from k size s (negsuc n) h = absurd (omega (arith, ints))

-- least size <= 65536 part, from the same of k and s
from_share : (least size k s part : ℕ) →
    k * size ≡ suc s * part → least * suc s ≤ 65536 * k → least * size ≤ 65536 * part
from_share least size k s part value h =
    let scaled : least * suc s * size ≤ 65536 * k * size = mul-le-mul_right {m = least * suc s} {n = 65536 * k} size h in
    let product : 65536 * (k * size) ≡ 65536 * (suc s * part) = ap (λ x. 65536 * x) value in
    le_of_mul-le-mul_left {m = least * size} {n = 65536 * part} {k = suc s} (omega arith) (omega arith)

to_share : (most size k s part : ℕ) →
    k * size ≡ suc s * part → 65536 * k ≤ most * suc s → 65536 * part ≤ most * size
to_share most size k s part value h =
    let scaled : 65536 * k * size ≤ most * suc s * size = mul-le-mul_right {m = 65536 * k} {n = most * suc s} size h in
    let product : 65536 * (k * size) ≡ 65536 * (suc s * part) = ap (λ x. 65536 * x) value in
    le_of_mul-le-mul_left {m = 65536 * part} {n = most * size} {k = suc s} (omega arith) (omega arith)

lift : (a part : ℕ) → a ≤ 65536 * part → pos a ≤ℤ (pos 65536 *ℤ pos part)
lift a part h = omega (arith, ints)

lower : (a part : ℕ) → 65536 * part ≤ a → (pos 65536 *ℤ pos part) ≤ℤ pos a
lower a part h = omega (arith, ints)

-- where k den = s num and k / s is within an end of the interval, so is num / den
pub IsFrom-weighed : (least k s : ℕ) (num den : ℤ) →
    pos k *ℤ den ≡ pos (suc s) *ℤ num → least * suc s ≤ 65536 * k → IsFrom least num den
IsFrom-weighed least k s num den h from =
    let share : IsShare k (unsigned_abs den) s (over_size num den) =
    IsShare-from k (unsigned_abs den) s (over_size num den) (over_size-weighed k (suc s) num den h) in
    record {
      at_least = subst (λ z. pos (least * unsigned_abs den) ≤ℤ (pos 65536 *ℤ z)) (sym share.is)
          (lift (least * unsigned_abs den) share.part (from_share least (unsigned_abs den) k s share.part share.value from));
    }

pub IsTo-weighed : (most k s : ℕ) (num den : ℤ) →
    pos k *ℤ den ≡ pos (suc s) *ℤ num → 65536 * k ≤ most * suc s → IsTo most num den
IsTo-weighed most k s num den h to =
    let share : IsShare k (unsigned_abs den) s (over_size num den) =
    IsShare-from k (unsigned_abs den) s (over_size num den) (over_size-weighed k (suc s) num den h) in
    record {
      at_most = subst (λ z. (pos 65536 *ℤ z) ≤ℤ pos (most * unsigned_abs den)) (sym share.is)
          (lower (most * unsigned_abs den) share.part (to_share most (unsigned_abs den) k s share.part share.value to));
    }
