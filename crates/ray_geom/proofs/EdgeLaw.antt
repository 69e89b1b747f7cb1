-- The edge law: where a ray's line crosses the interior of an edge of two triangles that are wound and
-- faced alike, exactly one of the two is hit.
--
-- With A, B and C for the points a, b and c as seen from the ray's origin, and k d = m A + j B, the
-- triple products say: the volume of (a, b) is 0; m V(c, a) = j V(b, c), so both have the sign of the
-- determinant; k den = (m + j) num, so the distance is k / (m + j). What is left of the hit of (a, b, c)
-- is that the side of (a, b) is the sign of the determinant, and the side of (b, a) is its opposite.
use Rattle.std.proofs.Common.{ℕ, suc, ◌≡◌, ◌≢◌, ◌+◌, ◌*◌, ◌≤◌, sym, ap, subst, ◌∙◌, arith}
use Rattle.std.specs.Prelude.{ℤ, pos, neg_ℤ, ◌+ℤ◌, ◌*ℤ◌}
use Rattle.std.specs.declared.cmp.Ordering.TheVariants.{Equal}
use Rattle.std.proofs.lemmas.Int.{ints}
use Rattle.std.proofs.Math.IntN.{*ℤ-zero}
use Rattle.ray_geom.specs.declared.vec3.Vec3.{Vec3}
use Rattle.ray_geom.specs.Vector.{minus_of, cross_of, dot_of, sign_of}
use Rattle.ray_geom.specs.Scene.{RayValue, tri_value}
use Rattle.ray_geom.specs.EdgeVolume.{volume_of}
use Rattle.ray_geom.specs.EdgeSide.{side_of}
use Rattle.ray_geom.specs.TriangleHit.{num_of, den_of, IsHit}
use Rattle.ray_geom.specs.Crossing.{Crossing}
use Rattle.ray_geom.proofs.Ring.{*ℤ-+ℤ, +ℤ-*ℤ, *ℤ-neg_ℤ}
use Rattle.ray_geom.proofs.Determinant.{dot_of-cross_of}
use Rattle.ray_geom.proofs.Signs.{sign_of-then}
use Rattle.ray_geom.proofs.Triple.{turn, twice, same_ends, flip, dot_of-Mixes}
use Rattle.ray_geom.proofs.Weights.{sign_of-weight, AreShares, AreShares-weighed, not_zero_by_sign, IsFrom-weighed, IsTo-weighed}

-- a point as seen from the ray's origin
abbrev pub seen : RayValue → Vec3 → Vec3
seen ray a = minus_of a ray.origin

zero_by_sign : (z : ℤ) → sign_of z ≡ Equal → z ≡ pos 0
zero_by_sign z h = grind (arith, ints)

-- of k p = m q + j r where p and r are 0
only_left : (k m j : ℕ) (p q r : ℤ) →
    pos k *ℤ p ≡ (pos (suc m) *ℤ q) +ℤ (pos j *ℤ r) → p ≡ pos 0 → r ≡ pos 0 → q ≡ pos 0
only_left k m j p q r h p_zero r_zero =
    let left : pos k *ℤ p ≡ pos 0 = ap (λ x. pos k *ℤ x) p_zero ∙ *ℤ-zero (pos k) in
    let right : pos j *ℤ r ≡ pos 0 = ap (λ x. pos j *ℤ x) r_zero ∙ *ℤ-zero (pos j) in
    let product : pos (suc m) *ℤ q ≡ pos 0 = omega (arith, ints) in
    zero_by_sign q (sym (sign_of-weight m q) ∙ ap sign_of product)

-- the same where p is 0 and r is the opposite of v
balance : (k m j : ℕ) (p q r v : ℤ) →
    pos k *ℤ p ≡ (pos m *ℤ q) +ℤ (pos j *ℤ r) → p ≡ pos 0 → r ≡ neg_ℤ v → pos m *ℤ q ≡ pos j *ℤ v
balance k m j p q r v h p_zero opposite =
    let left : pos k *ℤ p ≡ pos 0 = ap (λ x. pos k *ℤ x) p_zero ∙ *ℤ-zero (pos k) in
    let right : pos j *ℤ r ≡ neg_ℤ (pos j *ℤ v) = ap (λ x. pos j *ℤ x) opposite ∙ *ℤ-neg_ℤ (pos j) v in
    omega (arith, ints)

-- and where one of the parts is 0
left_part : (j : ℕ) (whole left r : ℤ) → whole ≡ left +ℤ (pos j *ℤ r) → r ≡ pos 0 → whole ≡ left
left_part j whole left r h r_zero =
    let right : pos j *ℤ r ≡ pos 0 = ap (λ x. pos j *ℤ x) r_zero ∙ *ℤ-zero (pos j) in omega (arith, ints)

right_part : (m : ℕ) (whole q right : ℤ) → whole ≡ (pos m *ℤ q) +ℤ right → q ≡ pos 0 → whole ≡ right
right_part m whole q right h q_zero =
    let left : pos m *ℤ q ≡ pos 0 = ap (λ x. pos m *ℤ x) q_zero ∙ *ℤ-zero (pos m) in omega (arith, ints)

-- the volume of the crossed edge is 0
volume_of-crossed : (ray : RayValue) (a b : Vec3) → Crossing ray a b → volume_of ray a b ≡ pos 0
volume_of-crossed ray a b x =
    let d = ray.dir in
    let p = seen ray a in
    let q = seen ray b in
    turn d p q ∙
    only_left x.k x.m (suc x.j) (dot_of d (cross_of q d)) (dot_of p (cross_of q d)) (dot_of q (cross_of q d))
    (dot_of-Mixes x.k (suc x.m) (suc x.j) d p q (cross_of q d) x.mixes) (same_ends d q) (twice q d)

-- the other two are equal with the weights
volume_of-shares : (ray : RayValue) (a b c : Vec3) (x : Crossing ray a b) →
    pos (suc x.m) *ℤ volume_of ray c a ≡ pos (suc x.j) *ℤ volume_of ray b c
volume_of-shares ray a b c x =
    let d = ray.dir in
    let p = seen ray a in
    let q = seen ray b in
    let r = seen ray c in
    ap (λ z. pos (suc x.m) *ℤ z) (sym (turn p d r)) ∙
    balance x.k (suc x.m) (suc x.j) (dot_of d (cross_of d r)) (dot_of p (cross_of d r)) (dot_of q (cross_of d r)) (volume_of ray b c)
    (dot_of-Mixes x.k (suc x.m) (suc x.j) d p q (cross_of d r) x.mixes) (twice d r)
    (flip q r d ∙ ap neg_ℤ (sym (turn d q r)))

first_of_three : (a b c : ℤ) → b ≡ pos 0 → c ≡ pos 0 → (a +ℤ b) +ℤ c ≡ a
first_of_three a b c p q = omega (arith, ints)

-- the numerator is the triple product of the vertices
pub num_of-triple : (ray : RayValue) (a b c : Vec3) →
    num_of ray (tri_value a b c) ≡ dot_of (seen ray a) (cross_of (seen ray b) (seen ray c))
num_of-triple ray a b c =
    let p = seen ray a in
    let q = seen ray b in
    let r = seen ray c in
    dot_of-cross_of p ray (tri_value a b c) ∙
    first_of_three (dot_of p (cross_of q r)) (dot_of p (cross_of r p)) (dot_of p (cross_of p q)) (same_ends p r) (twice p q)

sum_of_parts : (k m j : ℕ) (u v w num : ℤ) →
    pos k *ℤ u ≡ pos m *ℤ num → pos k *ℤ v ≡ pos j *ℤ num → w ≡ pos 0 →
    pos k *ℤ ((u +ℤ v) +ℤ w) ≡ pos (m + j) *ℤ num
sum_of_parts k m j u v w num p q w_zero =
    let last : pos k *ℤ w ≡ pos 0 = ap (λ x. pos k *ℤ x) w_zero ∙ *ℤ-zero (pos k) in
    omega (arith, ints, *ℤ-+ℤ (pos k) (u +ℤ v) w, *ℤ-+ℤ (pos k) u v, +ℤ-*ℤ (pos m) (pos j) num)

-- k den = (m + j) num
den_of-weighed : (ray : RayValue) (a b c : Vec3) (x : Crossing ray a b) →
    pos x.k *ℤ den_of ray (tri_value a b c) ≡ pos (suc x.m + suc x.j) *ℤ num_of ray (tri_value a b c)
den_of-weighed ray a b c x =
    let d = ray.dir in
    let p = seen ray a in
    let q = seen ray b in
    let r = seen ray c in
    let triple = dot_of p (cross_of q r) in
    let left : pos x.k *ℤ volume_of ray b c ≡ pos (suc x.m) *ℤ triple =
    left_part (suc x.j) (pos x.k *ℤ dot_of d (cross_of q r)) (pos (suc x.m) *ℤ triple) (dot_of q (cross_of q r))
    (dot_of-Mixes x.k (suc x.m) (suc x.j) d p q (cross_of q r) x.mixes) (twice q r) in
    let right : pos x.k *ℤ volume_of ray c a ≡ pos (suc x.j) *ℤ triple =
    right_part (suc x.m) (pos x.k *ℤ dot_of d (cross_of r p)) (dot_of p (cross_of r p)) (pos (suc x.j) *ℤ dot_of q (cross_of r p))
    (dot_of-Mixes x.k (suc x.m) (suc x.j) d p q (cross_of r p) x.mixes) (same_ends p r) ∙
    ap (λ z. pos (suc x.j) *ℤ z) (sym (turn p q r)) in
    sum_of_parts x.k (suc x.m) (suc x.j) (volume_of ray b c) (volume_of ray c a) (volume_of ray a b) triple left right
    (volume_of-crossed ray a b x) ∙
    ap (λ z. pos (suc x.m + suc x.j) *ℤ z) (sym (num_of-triple ray a b c))

two_of_three : (u v w : ℤ) → w ≡ pos 0 → u +ℤ v ≡ (u +ℤ v) +ℤ w
two_of_three u v w h = omega (arith, ints)

-- a triangle is hit where the side of its crossed edge is the sign of the determinant
pub IsHit-side : (ray : RayValue) (a b c : Vec3) → Crossing ray a b → den_of ray (tri_value a b c) ≢ pos 0 →
    side_of ray a b ≡ sign_of (den_of ray (tri_value a b c)) → IsHit ray (tri_value a b c)
IsHit-side ray a b c x crosses side =
    let den = den_of ray (tri_value a b c) in
    let u = volume_of ray b c in
    let v = volume_of ray c a in
    let w = volume_of ray a b in
    let flat : w ≡ pos 0 = volume_of-crossed ray a b x in
    let shares : AreShares u v den =
    AreShares-weighed x.m x.j u v den (volume_of-shares ray a b c x) (two_of_three u v w flat) in
    let weights : suc x.m + suc x.j ≡ suc (x.m + suc x.j) = omega arith in
    let value : pos x.k *ℤ den ≡ pos (suc (x.m + suc x.j)) *ℤ num_of ray (tri_value a b c) =
    subst (λ s. pos x.k *ℤ den ≡ pos s *ℤ num_of ray (tri_value a b c)) weights (den_of-weighed ray a b c x) in
    record {
      crosses = crosses;
      first = sym (sign_of-then u _ (not_zero_by_sign u den shares.left crosses)) ∙ shares.left;
      second = sym (sign_of-then v _ (not_zero_by_sign v den shares.right crosses)) ∙ shares.right;
      third = side;
      from = IsFrom-weighed ray.tmin x.k (x.m + suc x.j) (num_of ray (tri_value a b c)) den value
          (subst (λ s. ray.tmin * s ≤ 65536 * x.k) weights x.from);
      to = IsTo-weighed ray.tmax x.k (x.m + suc x.j) (num_of ray (tri_value a b c)) den value
          (subst (λ s. 65536 * x.k ≤ ray.tmax * s) weights x.to);
    }

exchanged : (a b : ℤ) → a +ℤ b ≡ b +ℤ a
exchanged a b = omega (arith, ints)

-- the crossing, seen from the other triangle
pub Crossing-back : (ray : RayValue) (a b : Vec3) → Crossing ray a b → Crossing ray b a
Crossing-back ray a b x = record {
  k = x.k;
  m = x.j;
  j = x.m;
  mixes = record {
    x = x.mixes.x ∙ exchanged (pos (suc x.m) *ℤ (seen ray a).x) (pos (suc x.j) *ℤ (seen ray b).x);
    y = x.mixes.y ∙ exchanged (pos (suc x.m) *ℤ (seen ray a).y) (pos (suc x.j) *ℤ (seen ray b).y);
    z = x.mixes.z ∙ exchanged (pos (suc x.m) *ℤ (seen ray a).z) (pos (suc x.j) *ℤ (seen ray b).z);
  };
  from = let h = x.from in subst (λ s. ray.tmin * s ≤ 65536 * x.k) (omega arith) h;
  to = let h = x.to in subst (λ s. 65536 * x.k ≤ ray.tmax * s) (omega arith) h;
}
