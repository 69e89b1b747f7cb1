-- A hit of the world triangle is inside each box of the object's space that holds the triangle, and what is
-- inside a box is inside each box around it.
use Rattle.std.proofs.Common.{ℕ, zero, suc, ◌≡◌, ◌≢◌, ◌+◌, ◌*◌, ◌≤◌, sym, ap, subst, ◌∙◌, refl, arith}
use Rattle.std.specs.Prelude.{ℤ, pos, negsuc, ◌+ℤ◌, ◌*ℤ◌, ◌≤ℤ◌, unsigned_abs}
use Rattle.std.specs.Int.{int_signum}
use Rattle.std.proofs.lemmas.Int.{ints}
use Rattle.std.proofs.Math.IntN.{*ℤ_comm}
use Rattle.std.proofs.Math.Nat.{mul-le-mul_right, le_of_mul-le-mul_left}
use Rattle.ray_geom.specs.Scene.{RayValue, TriValue}
use Rattle.ray_geom.specs.Boxes.{BoxValue, IsPart}
use Rattle.ray_geom.specs.LeastBoxes.{HoldsTri}
use Rattle.ray_geom.specs.TriangleHit.{first_volume, second_volume, third_volume, den_of, num_of, over_size, IsHit}
use Rattle.ray_geom.specs.Transform.{MatrixValue, det_of, adjugate_of, world_tri}
use Rattle.ray_geom.specs.ObjectRay.{ObjectRayValue, object_of}
use Rattle.ray_prune.specs.BoxSpan.{near_end, far_end, IsBetween, IsOnAxis, IsInside}
use Rattle.ray_prune.specs.Pruning.{IsDistance}
use Rattle.ray_geom.proofs.Ring.{*ℤ-+ℤ, +ℤ-*ℤ, *ℤ_assoc}
use Rattle.ray_geom.proofs.Triple.{swap_product}
use Rattle.ray_geom.proofs.Signs.{over_size-side}
use Rattle.ray_geom.proofs.Weights.{signum-self, over_size-weighed}
use Rattle.ray_prune.proofs.Scaling.{times_rises, times_falls, times_back, near_below, far_above}
use Rattle.ray_prune.proofs.Cramer.{axis_point, back_x, back_y, back_z}

-- weights that are natural numbers, and their sum
pub record AreNatural (u v w num den : ℤ) : Type 0 where
  pub a : ℕ
  pub b : ℕ
  pub c : ℕ
  pub e : ℕ
  pub s : ℕ
  pub first : over_size u den ≡ pos a
  pub second : over_size v den ≡ pos b
  pub third : over_size w den ≡ pos c
  pub along : over_size num den ≡ pos e
  pub size : unsigned_abs den ≡ suc s
  pub sum : (a + b) + c ≡ suc s

natural_of : (z : ℤ) → pos 0 ≤ℤ z → (n : ℕ) × (z ≡ pos n)
natural_of (pos n) h = (n, refl)
natural_of (negsuc n) h = absurd (omega (arith, ints))

positive_of : (n : ℕ) → n ≢ 0 → (k : ℕ) × (n ≡ suc k)
positive_of zero h = absurd (h refl)
positive_of (suc k) h = (k, refl)

abs_not_zero : (z : ℤ) → z ≢ pos 0 → unsigned_abs z ≢ 0
abs_not_zero z h same = grind (arith, ints)

sum_over : (g u v w den : ℤ) → (u +ℤ v) +ℤ w ≡ den → ((g *ℤ u) +ℤ (g *ℤ v)) +ℤ (g *ℤ w) ≡ g *ℤ den
sum_over g u v w den h = omega (arith, ints, ap (λ x. g *ℤ x) h, *ℤ-+ℤ g (u +ℤ v) w, *ℤ-+ℤ g u v)

sum_natural : (x y z total : ℤ) (a b c s : ℕ) → (x +ℤ y) +ℤ z ≡ total → x ≡ pos a → y ≡ pos b → z ≡ pos c → total ≡ pos s →
    (a + b) + c ≡ s
sum_natural x y z total a b c s h p q r t = omega (arith, ints)

natural_weights : (u v w num den : ℤ) → (u +ℤ v) +ℤ w ≡ den → den ≢ pos 0 →
    pos 0 ≤ℤ over_size u den → pos 0 ≤ℤ over_size v den → pos 0 ≤ℤ over_size w den → pos 0 ≤ℤ over_size num den →
    AreNatural u v w num den
natural_weights u v w num den sum crosses p q r t =
    let a = natural_of (over_size u den) p in
    let b = natural_of (over_size v den) q in
    let c = natural_of (over_size w den) r in
    let e = natural_of (over_size num den) t in
    let s = positive_of (unsigned_abs den) (abs_not_zero den crosses) in
    record {
      a = a.0;
      b = b.0;
      c = c.0;
      e = e.0;
      s = s.0;
      first = a.1;
      second = b.1;
      third = c.1;
      along = e.1;
      size = s.1;
      sum = sum_natural (over_size u den) (over_size v den) (over_size w den) (int_signum den *ℤ den) a.0 b.0 c.0 (suc s.0)
          (sum_over (int_signum den) u v w den sum) a.1 b.1 c.1 (signum-self den ∙ ap pos s.1);
    }

not_negative_from : (l : ℕ) (z : ℤ) → pos l ≤ℤ (pos 65536 *ℤ z) → pos 0 ≤ℤ z
not_negative_from l (pos n) h = omega (arith, ints)
not_negative_from l (negsuc n) h = absurd (omega (arith, ints))

-- those of a hit
pub hit_weights : (ray : RayValue) (tri : TriValue) → IsHit ray tri →
    AreNatural (first_volume ray tri) (second_volume ray tri) (third_volume ray tri) (num_of ray tri) (den_of ray tri)
hit_weights ray tri hit =
    let den = den_of ray tri in
    natural_weights (first_volume ray tri) (second_volume ray tri) (third_volume ray tri) (num_of ray tri) den refl hit.crosses
    (over_size-side (first_volume ray tri) den _ hit.first) (over_size-side (second_volume ray tri) den _ hit.second)
    (over_size-side (third_volume ray tri) den _ hit.third)
    (not_negative_from (ray.tmin * unsigned_abs den) (over_size (num_of ray tri) den) hit.from.at_least)

-- an equation, with all its terms over the sign of den
signed_equation : (g u v w den num q0 q1 q2 o m : ℤ) →
    ((u *ℤ q0) +ℤ (v *ℤ q1)) +ℤ (w *ℤ q2) ≡ (den *ℤ o) +ℤ (num *ℤ m) →
    (((g *ℤ u) *ℤ q0) +ℤ ((g *ℤ v) *ℤ q1)) +ℤ ((g *ℤ w) *ℤ q2) ≡ ((g *ℤ den) *ℤ o) +ℤ ((g *ℤ num) *ℤ m)
signed_equation g u v w den num q0 q1 q2 o m h =
    omega (
      arith,
      ints,
      ap (λ x. g *ℤ x) h,
      *ℤ-+ℤ g ((u *ℤ q0) +ℤ (v *ℤ q1)) (w *ℤ q2),
      *ℤ-+ℤ g (u *ℤ q0) (v *ℤ q1),
      *ℤ-+ℤ g (den *ℤ o) (num *ℤ m),
      *ℤ_assoc g u q0,
      *ℤ_assoc g v q1,
      *ℤ_assoc g w q2,
      *ℤ_assoc g den o,
      *ℤ_assoc g num m,
    )

natural_equation : (u v w num den q0 q1 q2 o m : ℤ) (h : AreNatural u v w num den) →
    ((u *ℤ q0) +ℤ (v *ℤ q1)) +ℤ (w *ℤ q2) ≡ (den *ℤ o) +ℤ (num *ℤ m) →
    ((pos h.a *ℤ q0) +ℤ (pos h.b *ℤ q1)) +ℤ (pos h.c *ℤ q2) ≡ (pos (suc h.s) *ℤ o) +ℤ (pos h.e *ℤ m)
natural_equation u v w num den q0 q1 q2 o m h e =
    let size : int_signum den *ℤ den ≡ pos (suc h.s) = signum-self den ∙ ap pos h.size in
    (λ i. ((sym h.first i *ℤ q0) +ℤ (sym h.second i *ℤ q1)) +ℤ (sym h.third i *ℤ q2)) ∙
    (signed_equation (int_signum den) u v w den num q0 q1 q2 o m e ∙
    (λ i. (size i *ℤ o) +ℤ (h.along i *ℤ m)))

-- a whole number in parts
parts : (a b c s : ℕ) (z : ℤ) → (a + b) + c ≡ s → pos s *ℤ z ≡ ((pos a *ℤ z) +ℤ (pos b *ℤ z)) +ℤ (pos c *ℤ z)
parts a b c s z h =
    sym (ap (λ k. pos k *ℤ z) h) ∙ omega (arith, ints, +ℤ-*ℤ (pos a) (pos b) z, +ℤ-*ℤ (pos (a + b)) (pos c) z)

-- a weighed sum of numbers that aren't below an end isn't below it
weighed_below : (a b c s : ℕ) (end q0 q1 q2 sum : ℤ) → (a + b) + c ≡ s →
    ((pos a *ℤ q0) +ℤ (pos b *ℤ q1)) +ℤ (pos c *ℤ q2) ≡ sum → end ≤ℤ q0 → end ≤ℤ q1 → end ≤ℤ q2 → (pos s *ℤ end) ≤ℤ sum
weighed_below a b c s end q0 q1 q2 sum h e p q r =
    let x = times_rises a end q0 p in
    let y = times_rises b end q1 q in
    let z = times_rises c end q2 r in
    let whole = parts a b c s end h in
    omega (arith, ints)

weighed_above : (a b c s : ℕ) (end q0 q1 q2 sum : ℤ) → (a + b) + c ≡ s →
    ((pos a *ℤ q0) +ℤ (pos b *ℤ q1)) +ℤ (pos c *ℤ q2) ≡ sum → q0 ≤ℤ end → q1 ≤ℤ end → q2 ≤ℤ end → sum ≤ℤ (pos s *ℤ end)
weighed_above a b c s end q0 q1 q2 sum h e p q r =
    let x = times_rises a q0 end p in
    let y = times_rises b q1 end q in
    let z = times_rises c q2 end r in
    let whole = parts a b c s end h in
    omega (arith, ints)

-- the same at the distance n / d = e / s
moved_out : (k d n e : ℕ) (o m : ℤ) → e * d ≡ n * k →
    pos d *ℤ ((pos k *ℤ o) +ℤ (pos e *ℤ m)) ≡ pos k *ℤ ((o *ℤ pos d) +ℤ (pos n *ℤ m))
moved_out k d n e o m h =
    let left : pos d *ℤ (pos e *ℤ m) ≡ pos (d * e) *ℤ m = *ℤ_assoc (pos d) (pos e) m in
    let right : pos k *ℤ (pos n *ℤ m) ≡ pos (k * n) *ℤ m = *ℤ_assoc (pos k) (pos n) m in
    let same : pos (d * e) *ℤ m ≡ pos (k * n) *ℤ m = ap (λ x. pos x *ℤ m) (omega arith) in
    omega (
      arith,
      ints,
      *ℤ-+ℤ (pos d) (pos k *ℤ o) (pos e *ℤ m),
      *ℤ-+ℤ (pos k) (o *ℤ pos d) (pos n *ℤ m),
      swap_product (pos d) (pos k) o,
      ap (λ x. pos k *ℤ x) (*ℤ_comm (pos d) o),
    )

moved_end : (k d : ℕ) (end : ℤ) → pos d *ℤ (pos k *ℤ end) ≡ pos k *ℤ (end *ℤ pos d)
moved_end k d end = swap_product (pos d) (pos k) end ∙ ap (λ x. pos k *ℤ x) (*ℤ_comm (pos d) end)

at_distance : (s d n e : ℕ) (near far o m : ℤ) → e * d ≡ n * suc s →
    (pos (suc s) *ℤ near) ≤ℤ ((pos (suc s) *ℤ o) +ℤ (pos e *ℤ m)) →
    ((pos (suc s) *ℤ o) +ℤ (pos e *ℤ m)) ≤ℤ (pos (suc s) *ℤ far) → IsBetween near far o m n d
at_distance s d n e near far o m h p q =
    let sum = (pos (suc s) *ℤ o) +ℤ (pos e *ℤ m) in
    let middle = moved_out (suc s) d n e o m h in
    let first = times_rises d (pos (suc s) *ℤ near) sum p in
    let last = times_rises d sum (pos (suc s) *ℤ far) q in
    let near_is = moved_end (suc s) d near in
    let far_is = moved_end (suc s) d far in
    record {
      above = times_back s (near *ℤ pos d) ((o *ℤ pos d) +ℤ (pos n *ℤ m)) (omega (arith, ints));
      below = times_back s ((o *ℤ pos d) +ℤ (pos n *ℤ m)) (far *ℤ pos d) (omega (arith, ints));
    }

-- on one axis
on_axis : (u v w num den : ℤ) (h : AreNatural u v w num den) (det lo hi p0 p1 p2 o m : ℤ) (n d : ℕ) →
    h.e * d ≡ n * suc h.s →
    ((u *ℤ (det *ℤ p0)) +ℤ (v *ℤ (det *ℤ p1))) +ℤ (w *ℤ (det *ℤ p2)) ≡ (den *ℤ o) +ℤ (num *ℤ m) →
    lo ≤ℤ p0 → p0 ≤ℤ hi → lo ≤ℤ p1 → p1 ≤ℤ hi → lo ≤ℤ p2 → p2 ≤ℤ hi → IsOnAxis det lo hi o m n d
on_axis u v w num den h det lo hi p0 p1 p2 o m n d ratio e lo0 hi0 lo1 hi1 lo2 hi2 =
    let near = near_end det lo hi in
    let far = far_end det lo hi in
    let sum = (pos (suc h.s) *ℤ o) +ℤ (pos h.e *ℤ m) in
    let whole = natural_equation u v w num den (det *ℤ p0) (det *ℤ p1) (det *ℤ p2) o m h e in
    at_distance h.s d n h.e near far o m ratio
    (weighed_below h.a h.b h.c (suc h.s) near (det *ℤ p0) (det *ℤ p1) (det *ℤ p2) sum h.sum whole
    (near_below det lo hi p0 lo0 hi0) (near_below det lo hi p1 lo1 hi1) (near_below det lo hi p2 lo2 hi2))
    (weighed_above h.a h.b h.c (suc h.s) far (det *ℤ p0) (det *ℤ p1) (det *ℤ p2) sum h.sum whole
    (far_above det lo hi p0 lo0 hi0) (far_above det lo hi p1 lo1 hi1) (far_above det lo hi p2 lo2 hi2))

-- the hit's distance is e / s
same_ratio : (n d e s : ℕ) → pos n *ℤ pos s ≡ pos d *ℤ pos e → e * d ≡ n * s
same_ratio n d e s h = omega (arith, ints)

ratio_of_hit : (u v w num den : ℤ) (h : AreNatural u v w num den) (n d : ℕ) → pos n *ℤ den ≡ num *ℤ pos d → h.e * d ≡ n * suc h.s
ratio_of_hit u v w num den h n d e =
    let weighed : pos n *ℤ pos (unsigned_abs den) ≡ pos d *ℤ over_size num den =
    over_size-weighed n d num den (e ∙ *ℤ_comm num (pos d)) in
    same_ratio n d h.e (suc h.s)
    (ap (λ x. pos n *ℤ pos x) (sym h.size) ∙ (weighed ∙ ap (λ x. pos d *ℤ x) h.along))

-- and it is in the interval
lowered : (l e : ℕ) → pos l ≤ℤ (pos 65536 *ℤ pos e) → l ≤ 65536 * e
lowered l e h = omega (arith, ints)

raised : (l e : ℕ) → (pos 65536 *ℤ pos e) ≤ℤ pos l → 65536 * e ≤ l
raised l e h = omega (arith, ints)

from_tmin : (tmin n d e s : ℕ) → e * d ≡ n * suc s → tmin * suc s ≤ 65536 * e → tmin * d ≤ 65536 * n
from_tmin tmin n d e s h le =
    let scaled : tmin * suc s * d ≤ 65536 * e * d = mul-le-mul_right {m = tmin * suc s} {n = 65536 * e} d le in
    let moved : 65536 * (e * d) ≡ 65536 * (n * suc s) = ap (λ x. 65536 * x) h in
    le_of_mul-le-mul_left {m = tmin * d} {n = 65536 * n} {k = suc s} (omega arith) (omega arith)

to_tmax : (tmax n d e s : ℕ) → e * d ≡ n * suc s → 65536 * e ≤ tmax * suc s → 65536 * n ≤ tmax * d
to_tmax tmax n d e s h le =
    let scaled : 65536 * e * d ≤ tmax * suc s * d = mul-le-mul_right {m = 65536 * e} {n = tmax * suc s} d le in
    let moved : 65536 * (e * d) ≡ 65536 * (n * suc s) = ap (λ x. 65536 * x) h in
    le_of_mul-le-mul_left {m = 65536 * n} {n = tmax * d} {k = suc s} (omega arith) (omega arith)

-- the first law of pruning
pub IsInside-hit : (ray : RayValue) (m : MatrixValue) (tri : TriValue) (box : BoxValue) →
    HoldsTri tri box → IsHit ray (world_tri m tri) → (n d : ℕ) → IsDistance ray (world_tri m tri) n d →
    IsInside (object_of ray m) box n d
IsInside-hit ray m tri box holds hit n d distance =
    let w = world_tri m tri in
    let h = hit_weights ray w hit in
    let u = first_volume ray w in
    let v = second_volume ray w in
    let x = third_volume ray w in
    let num = num_of ray w in
    let den = den_of ray w in
    let object = object_of ray m in
    let ratio : h.e * d ≡ n * suc h.s = ratio_of_hit u v x num den h n d distance in
    record {
      x = on_axis u v x num den h (det_of m) box.lo.x box.hi.x tri.v0.x tri.v1.x tri.v2.x object.origin.x object.dir.x n d ratio
          (axis_point m ray tri (adjugate_of m).a (λ p. p.x) (back_x m))
          holds.v0.above.x holds.v0.below.x holds.v1.above.x holds.v1.below.x holds.v2.above.x holds.v2.below.x;
      y = on_axis u v x num den h (det_of m) box.lo.y box.hi.y tri.v0.y tri.v1.y tri.v2.y object.origin.y object.dir.y n d ratio
          (axis_point m ray tri (adjugate_of m).b (λ p. p.y) (back_y m))
          holds.v0.above.y holds.v0.below.y holds.v1.above.y holds.v1.below.y holds.v2.above.y holds.v2.below.y;
      z = on_axis u v x num den h (det_of m) box.lo.z box.hi.z tri.v0.z tri.v1.z tri.v2.z object.origin.z object.dir.z n d ratio
          (axis_point m ray tri (adjugate_of m).c (λ p. p.z) (back_z m))
          holds.v0.above.z holds.v0.below.z holds.v1.above.z holds.v1.below.z holds.v2.above.z holds.v2.below.z;
      from = from_tmin ray.tmin n d h.e h.s ratio
          (lowered (ray.tmin * suc h.s) h.e
          (subst (λ z. pos (ray.tmin * suc h.s) ≤ℤ (pos 65536 *ℤ z)) h.along
          (subst (λ z. pos (ray.tmin * z) ≤ℤ (pos 65536 *ℤ over_size num den)) h.size hit.from.at_least)));
      to = to_tmax ray.tmax n d h.e h.s ratio
          (raised (ray.tmax * suc h.s) h.e
          (subst (λ z. (pos 65536 *ℤ z) ≤ℤ pos (ray.tmax * suc h.s)) h.along
          (subst (λ z. (pos 65536 *ℤ over_size num den) ≤ℤ pos (ray.tmax * z)) h.size hit.to.at_most)));
    }

-- what is inside a box is inside a box around it
wider_near : (det lo hi lo' hi' : ℤ) → lo' ≤ℤ lo → hi ≤ℤ hi' → near_end det lo' hi' ≤ℤ near_end det lo hi
wider_near (pos k) lo hi lo' hi' p q = times_rises k lo' lo p
wider_near (negsuc k) lo hi lo' hi' p q = times_falls k hi hi' q

wider_far : (det lo hi lo' hi' : ℤ) → lo' ≤ℤ lo → hi ≤ℤ hi' → far_end det lo hi ≤ℤ far_end det lo' hi'
wider_far (pos k) lo hi lo' hi' p q = times_rises k hi hi' q
wider_far (negsuc k) lo hi lo' hi' p q = times_falls k lo' lo p

wider : (near far near' far' o m : ℤ) (n d : ℕ) → near' ≤ℤ near → far ≤ℤ far' →
    IsBetween near far o m n d → IsBetween near' far' o m n d
wider near far near' far' o m n d p q h =
    let above = h.above in
    let below = h.below in
    let first = times_rises d near' near p in
    let last = times_rises d far far' q in
    record {
      above = omega (arith, ints, *ℤ_comm (pos d) near', *ℤ_comm (pos d) near);
      below = omega (arith, ints, *ℤ_comm (pos d) far', *ℤ_comm (pos d) far);
    }

wider_axis : (det lo hi lo' hi' o m : ℤ) (n d : ℕ) → lo' ≤ℤ lo → hi ≤ℤ hi' → IsOnAxis det lo hi o m n d → IsOnAxis det lo' hi' o m n d
wider_axis det lo hi lo' hi' o m n d p q h =
    wider (near_end det lo hi) (far_end det lo hi) (near_end det lo' hi') (far_end det lo' hi') o m n d
    (wider_near det lo hi lo' hi' p q) (wider_far det lo hi lo' hi' p q) h

pub IsInside-part : (object : ObjectRayValue) (inner outer : BoxValue) → IsPart inner outer → (n d : ℕ) →
    IsInside object inner n d → IsInside object outer n d
IsInside-part object inner outer part n d i = record {
  x = wider_axis object.det inner.lo.x inner.hi.x outer.lo.x outer.hi.x object.origin.x object.dir.x n d part.above.x part.below.x i.x;
  y = wider_axis object.det inner.lo.y inner.hi.y outer.lo.y outer.hi.y object.origin.y object.dir.y n d part.above.y part.below.y i.y;
  z = wider_axis object.det inner.lo.z inner.hi.z outer.lo.z outer.hi.z object.origin.z object.dir.z n d part.above.z part.below.z i.z;
  from = i.from;
  to = i.to;
}
