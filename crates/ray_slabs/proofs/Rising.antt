-- The keys of distances: they rise with the distance.
use Rattle.std.proofs.Common.{ℕ, ◌*◌, ◌^◌, ◌≤◌, ◌<◌, arith}
use Rattle.std.proofs.Math.Nat.{mul-le-mul_right, le-div_iff_mul-le, div-mul-le_self}
use Rattle.ray_slabs.specs.Keys.{key_at}
use Rattle.ray_slabs.proofs.Axes.{one_below}
use Rattle.ray_slabs.proofs.Crossings.{product_positive, cancelled}

-- a later distance has no lesser key
pub key_rises : (shift n d m e : ℕ) → 0 < d → 0 < e → n * e ≤ m * d → key_at shift n d ≤ key_at shift m e
key_rises shift n d m e positive below h = rises (key_at shift n d) (div-mul-le_self (n * 2 ^ 38) (d * 2 ^ shift))
  where
    rises : (k : ℕ) → k * (d * 2 ^ shift) ≤ n * 2 ^ 38 → k ≤ key_at shift m e
    rises k a =
        let b = mul-le-mul_right e a in
        let c = mul-le-mul_right (2 ^ 38) h in
        let r : k * (e * 2 ^ shift) ≤ m * 2 ^ 38 = cancelled d (k * (e * 2 ^ shift)) (m * 2 ^ 38) positive (omega arith) in
        (le-div_iff_mul-le {k = e * 2 ^ shift} {x = k} {y = m * 2 ^ 38} (product_positive e (2 ^ shift) below (one_below shift))).1 r
