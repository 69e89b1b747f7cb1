-- Where a ray is at a distance lies between where it is at one before and at one after it: on an axis at least
-- one of the two is at most any end above it, and at least one is at least any end below it.
use Rattle.std.proofs.Common.{ℕ, zero, suc, ◌≡◌, ◌*◌, ◌≤◌, ◌<◌, ◌⊎◌, inl, inr, ap, ◌∙◌, arith}
use Rattle.std.specs.Prelude.{ℤ, pos, negsuc, ◌+ℤ◌, ◌*ℤ◌, ◌≤ℤ◌}
use Rattle.std.proofs.lemmas.Int.{ints}
use Rattle.std.proofs.Math.IntN.{*ℤ_comm}
use Rattle.std.proofs.Math.Nat.{mul-le-mul_right}
use Rattle.ray_prune.specs.BoxSpan.{IsBetween}
use Rattle.ray_geom.proofs.Ring.{*ℤ-+ℤ, *ℤ_assoc}
use Rattle.ray_geom.proofs.Triple.{swap_product}
use Rattle.ray_prune.proofs.Scaling.{times_rises, times_back}

-- d times where the ray is at a / e, in its two parts
parted : (o m : ℤ) (a e d : ℕ) →
    pos d *ℤ ((o *ℤ pos e) +ℤ (pos a *ℤ m)) ≡ (pos d *ℤ (o *ℤ pos e)) +ℤ (pos (d * a) *ℤ m)
parted o m a e d = *ℤ-+ℤ (pos d) (o *ℤ pos e) (pos a *ℤ m) ∙ ap (λ x. (pos d *ℤ (o *ℤ pos e)) +ℤ x) (*ℤ_assoc (pos d) (pos a) m)

exchanged : (o : ℤ) (d e : ℕ) → pos d *ℤ (o *ℤ pos e) ≡ pos e *ℤ (o *ℤ pos d)
exchanged o d e =
    ap (λ x. pos d *ℤ x) (*ℤ_comm o (pos e)) ∙ (swap_product (pos d) (pos e) o ∙ ap (λ x. pos e *ℤ x) (*ℤ_comm (pos d) o))

end_exchanged : (far : ℤ) (d e : ℕ) → pos e *ℤ (far *ℤ pos d) ≡ pos d *ℤ (pos e *ℤ far)
end_exchanged far d e = ap (λ x. pos e *ℤ x) (*ℤ_comm far (pos d)) ∙ swap_product (pos e) (pos d) far

-- from n / d to a / e
below_from : (o m far : ℤ) (a e n d : ℕ) → (pos (suc d * a) *ℤ m) ≤ℤ (pos (e * n) *ℤ m) →
    ((o *ℤ pos (suc d)) +ℤ (pos n *ℤ m)) ≤ℤ (far *ℤ pos (suc d)) → ((o *ℤ pos e) +ℤ (pos a *ℤ m)) ≤ℤ (pos e *ℤ far)
below_from o m far a e n d less h =
    let scaled = times_rises e ((o *ℤ pos (suc d)) +ℤ (pos n *ℤ m)) (far *ℤ pos (suc d)) h in
    let here = parted o m a e (suc d) in
    let there = parted o m n (suc d) e in
    let first = exchanged o (suc d) e in
    let last = end_exchanged far (suc d) e in
    times_back d ((o *ℤ pos e) +ℤ (pos a *ℤ m)) (pos e *ℤ far) (omega (arith, ints))

above_from : (o m near : ℤ) (a e n d : ℕ) → (pos (e * n) *ℤ m) ≤ℤ (pos (suc d * a) *ℤ m) →
    (near *ℤ pos (suc d)) ≤ℤ ((o *ℤ pos (suc d)) +ℤ (pos n *ℤ m)) → (pos e *ℤ near) ≤ℤ ((o *ℤ pos e) +ℤ (pos a *ℤ m))
above_from o m near a e n d more h =
    let scaled = times_rises e (near *ℤ pos (suc d)) ((o *ℤ pos (suc d)) +ℤ (pos n *ℤ m)) h in
    let here = parted o m a e (suc d) in
    let there = parted o m n (suc d) e in
    let first = exchanged o (suc d) e in
    let last = end_exchanged near (suc d) e in
    times_back d (pos e *ℤ near) ((o *ℤ pos e) +ℤ (pos a *ℤ m)) (omega (arith, ints))

rising : (x y j : ℕ) → x ≤ y → (pos x *ℤ pos j) ≤ℤ (pos y *ℤ pos j)
rising x y j h = omega (arith, ints, mul-le-mul_right j h)

falling : (x y j : ℕ) → x ≤ y → (pos y *ℤ negsuc j) ≤ℤ (pos x *ℤ negsuc j)
falling x y j h = omega (arith, ints, mul-le-mul_right (suc j) h)

-- the distance n / d is from a / e to b / f
pub record IsFromTo (a e b f n d : ℕ) : Type 0 where
  pub positive : 0 < d
  pub from : a * d ≤ n * e
  pub to : n * f ≤ b * d

-- one of the two ends is at most far
pub least_end : (o m near far : ℤ) (a e b f n d : ℕ) → IsFromTo a e b f n d → IsBetween near far o m n d →
    (((o *ℤ pos e) +ℤ (pos a *ℤ m)) ≤ℤ (pos e *ℤ far)) ⊎ (((o *ℤ pos f) +ℤ (pos b *ℤ m)) ≤ℤ (pos f *ℤ far))
least_end o m near far a e b f n zero span h = absurd (let p = span.positive in omega arith)
least_end o (pos j) near far a e b f n (suc d) span h =
    let from = span.from in inl (below_from o (pos j) far a e n d (rising (suc d * a) (e * n) j (omega arith)) h.below)
least_end o (negsuc j) near far a e b f n (suc d) span h =
    let to = span.to in inr (below_from o (negsuc j) far b f n d (falling (f * n) (suc d * b) j (omega arith)) h.below)

-- and one is at least near
pub greatest_end : (o m near far : ℤ) (a e b f n d : ℕ) → IsFromTo a e b f n d → IsBetween near far o m n d →
    ((pos e *ℤ near) ≤ℤ ((o *ℤ pos e) +ℤ (pos a *ℤ m))) ⊎ ((pos f *ℤ near) ≤ℤ ((o *ℤ pos f) +ℤ (pos b *ℤ m)))
greatest_end o m near far a e b f n zero span h = absurd (let p = span.positive in omega arith)
greatest_end o (pos j) near far a e b f n (suc d) span h =
    let to = span.to in inr (above_from o (pos j) near b f n d (rising (f * n) (suc d * b) j (omega arith)) h.above)
greatest_end o (negsuc j) near far a e b f n (suc d) span h =
    let from = span.from in inl (above_from o (negsuc j) near a e n d (falling (suc d * a) (e * n) j (omega arith)) h.above)
