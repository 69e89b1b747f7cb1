-- The high half of a plane's product with a factor, and how far it is from where the plane is crossed.
use Rattle.std.proofs.Common.{ℕ, ◌≡◌, ◌+◌, ◌*◌, ◌^◌, ◌≤◌, ◌<◌, arith}
use Rattle.std.specs.Prelude.{ℤ, pos, negsuc, ◌+ℤ◌, ◌≤ℤ◌}
use Rattle.std.proofs.lemmas.Int.{ints}
use Rattle.std.proofs.Math.Nat.{mul-le-mul_left, mul-le-mul_right}
use Rattle.ray_geom.specs.Vector.{IsWithin}
use Rattle.ray_prune.specs.BoxReach.{natural_part}
use Rattle.ray_slabs.specs.Keys.{high_half}

pub lifted_is : (p : ℤ) → IsWithin (2 ^ 19) p → pos (natural_part (p +ℤ pos (2 ^ 19))) ≡ p +ℤ pos (2 ^ 19)
lifted_is p within = natural_is (p +ℤ pos (2 ^ 19)) (let above = within.above in omega (arith, ints))
  where
    natural_is : (z : ℤ) → pos 0 ≤ℤ z → pos (natural_part z) ≡ z
    natural_is (pos n) h = omega (arith, ints)
    natural_is (negsuc n) h = absurd (omega (arith, ints))

pub lifted_short : (p : ℤ) → IsWithin (2 ^ 19) p → natural_part (p +ℤ pos (2 ^ 19)) ≤ 2 ^ 20
lifted_short p within =
    let below = within.below in
    let is = lifted_is p within in
    omega (arith, ints)

-- rounded down
high_times : (p f : ℕ) → high_half (p * 1024) f * 4194304 ≤ p * f
high_times p f = omega arith

high_over : (p f : ℕ) → p * f < (high_half (p * 1024) f + 1) * 4194304
high_over p f = omega arith

pub high_below : (p f size speed : ℕ) → f * speed ≤ size * 2 ^ 60 → high_half (p * 1024) f * speed ≤ p * size * 2 ^ 38
high_below p f size speed h = least (high_half (p * 1024) f) (high_times p f)
  where
    least : (v : ℕ) → v * 4194304 ≤ p * f → v * speed ≤ p * size * 2 ^ 38
    least v e =
        let a = mul-le-mul_right speed e in
        let b = mul-le-mul_left p h in
        omega arith

pub high_above : (p f size speed : ℕ) → p ≤ 2 ^ 20 → size * 2 ^ 60 ≤ (f + 1) * speed →
    p * size * 2 ^ 38 ≤ (high_half (p * 1024) f + 2) * speed
high_above p f size speed short h = greatest (high_half (p * 1024) f) (high_over p f)
  where
    greatest : (v : ℕ) → p * f < (v + 1) * 4194304 → p * size * 2 ^ 38 ≤ (v + 2) * speed
    greatest v e =
        let e2 : p * f ≤ (v + 1) * 4194304 = omega arith in
        let a = mul-le-mul_right speed e2 in
        let b = mul-le-mul_left p h in
        let c = mul-le-mul_right speed short in
        omega arith
