-- What is inside a box of the object's space is inside each world box that holds the images of its corners.
use Rattle.std.proofs.Common.{ℕ, zero, suc, ◌≡◌, ◌≢◌, ◌*◌, ◌≤◌, sym, ap, subst, ◌∙◌, refl, arith}
use Rattle.std.specs.Prelude.{ℤ, pos, negsuc, neg_ℤ, ◌+ℤ◌, ◌-ℤ◌, ◌*ℤ◌, ◌≤ℤ◌}
use Rattle.std.proofs.lemmas.Int.{ints}
use Rattle.std.proofs.Math.IntN.{*ℤ_comm}
use Rattle.ray_geom.specs.declared.vec3.Vec3.{Vec3}
use Rattle.ray_geom.specs.Vector.{vec3, minus_of, dot_of}
use Rattle.ray_geom.specs.Scene.{RayValue}
use Rattle.ray_geom.specs.Boxes.{BoxValue}
use Rattle.ray_geom.specs.Transform.{MatrixValue, det_of, identity_value}
use Rattle.ray_geom.specs.ObjectRay.{ObjectRayValue, object_value, object_of}
use Rattle.ray_prune.specs.BoxSpan.{IsOnAxis, IsInside}
use Rattle.ray_prune.specs.Pruning.{HoldsImages}
use Rattle.ray_geom.proofs.Ring.{*ℤ-+ℤ, *ℤ--ℤ, +ℤ-*ℤ, sub_ℤ-*ℤ, neg_ℤ-*ℤ, *ℤ_assoc}
use Rattle.ray_geom.proofs.Triple.{swap_product, dot_of-neg}
use Rattle.ray_prune.proofs.Scaling.{times_back, negsuc-*ℤ}
use Rattle.ray_geom.proofs.ObjectRays.{LeadsBack-object}
use Rattle.ray_prune.proofs.Corners.{IsImageOver-corners}

-- where the object ray is at the distance n / d, times det d
abbrev pub point_at : ObjectRayValue → ℕ → ℕ → Vec3
point_at object n d =
    vec3 ((object.origin.x *ℤ pos d) +ℤ (pos n *ℤ object.dir.x)) ((object.origin.y *ℤ pos d) +ℤ (pos n *ℤ object.dir.y))
    ((object.origin.z *ℤ pos d) +ℤ (pos n *ℤ object.dir.z))

abbrev negated : Vec3 → Vec3
negated p = vec3 (neg_ℤ p.x) (neg_ℤ p.y) (neg_ℤ p.z)

-- a row of M times it
dot_of-point : (r o m : Vec3) (n d : ℕ) →
    dot_of r (vec3 ((o.x *ℤ pos d) +ℤ (pos n *ℤ m.x)) ((o.y *ℤ pos d) +ℤ (pos n *ℤ m.y)) ((o.z *ℤ pos d) +ℤ (pos n *ℤ m.z))) ≡
    (dot_of r o *ℤ pos d) +ℤ (pos n *ℤ dot_of r m)
dot_of-point r o m n d =
    omega (
      arith,
      ints,
      *ℤ-+ℤ r.x (o.x *ℤ pos d) (pos n *ℤ m.x),
      *ℤ-+ℤ r.y (o.y *ℤ pos d) (pos n *ℤ m.y),
      *ℤ-+ℤ r.z (o.z *ℤ pos d) (pos n *ℤ m.z),
      *ℤ_assoc r.x o.x (pos d),
      *ℤ_assoc r.y o.y (pos d),
      *ℤ_assoc r.z o.z (pos d),
      swap_product r.x (pos n) m.x,
      swap_product r.y (pos n) m.y,
      swap_product r.z (pos n) m.z,
      +ℤ-*ℤ ((r.x *ℤ o.x) +ℤ (r.y *ℤ o.y)) (r.z *ℤ o.z) (pos d),
      +ℤ-*ℤ (r.x *ℤ o.x) (r.y *ℤ o.y) (pos d),
      *ℤ-+ℤ (pos n) ((r.x *ℤ m.x) +ℤ (r.y *ℤ m.y)) (r.z *ℤ m.z),
      *ℤ-+ℤ (pos n) (r.x *ℤ m.x) (r.y *ℤ m.y),
    )

-- a factor out of both parts
factored : (k a b : ℤ) (n d : ℕ) → ((k *ℤ a) *ℤ pos d) +ℤ (pos n *ℤ (k *ℤ b)) ≡ k *ℤ ((a *ℤ pos d) +ℤ (pos n *ℤ b))
factored k a b n d =
    omega (arith, ints, *ℤ_assoc k a (pos d), swap_product (pos n) k b, *ℤ-+ℤ k (a *ℤ pos d) (pos n *ℤ b))

-- so a row of M takes it to det times where the ray is
row_of-point : (r o m : Vec3) (k a b : ℤ) (n d : ℕ) → dot_of r o ≡ k *ℤ a → dot_of r m ≡ k *ℤ b →
    dot_of r (vec3 ((o.x *ℤ pos d) +ℤ (pos n *ℤ m.x)) ((o.y *ℤ pos d) +ℤ (pos n *ℤ m.y)) ((o.z *ℤ pos d) +ℤ (pos n *ℤ m.z))) ≡
    k *ℤ ((a *ℤ pos d) +ℤ (pos n *ℤ b))
row_of-point r o m k a b n d p q =
    dot_of-point r o m n d ∙ ((λ i. (p i *ℤ pos d) +ℤ (pos n *ℤ q i)) ∙ factored k a b n d)

-- one coordinate in the world: with s = |det|, all times s
world_above : (s d n : ℕ) (lo o t m row : ℤ) → row ≡ pos (suc s) *ℤ (((o -ℤ t) *ℤ pos d) +ℤ (pos n *ℤ m)) →
    (pos (suc s * d) *ℤ lo) ≤ℤ (row +ℤ (pos (suc s * d) *ℤ t)) → (lo *ℤ pos d) ≤ℤ ((o *ℤ pos d) +ℤ (pos n *ℤ m))
world_above s d n lo o t m row is h =
    let k = pos (suc s) in
    times_back s (lo *ℤ pos d) ((o *ℤ pos d) +ℤ (pos n *ℤ m))
    (omega (
      arith,
      ints,
      sym (*ℤ_assoc k (pos d) lo),
      sym (*ℤ_assoc k (pos d) t),
      ap (λ x. k *ℤ x) (*ℤ_comm (pos d) lo),
      ap (λ x. k *ℤ x) (*ℤ_comm (pos d) t),
      ap (λ x. k *ℤ x) (sub_ℤ-*ℤ o t (pos d)),
      *ℤ--ℤ k (o *ℤ pos d) (t *ℤ pos d),
      *ℤ-+ℤ k ((o -ℤ t) *ℤ pos d) (pos n *ℤ m),
      *ℤ-+ℤ k (o *ℤ pos d) (pos n *ℤ m),
    ))

world_below : (s d n : ℕ) (hi o t m row : ℤ) → row ≡ pos (suc s) *ℤ (((o -ℤ t) *ℤ pos d) +ℤ (pos n *ℤ m)) →
    (row +ℤ (pos (suc s * d) *ℤ t)) ≤ℤ (pos (suc s * d) *ℤ hi) → ((o *ℤ pos d) +ℤ (pos n *ℤ m)) ≤ℤ (hi *ℤ pos d)
world_below s d n hi o t m row is h =
    let k = pos (suc s) in
    times_back s ((o *ℤ pos d) +ℤ (pos n *ℤ m)) (hi *ℤ pos d)
    (omega (
      arith,
      ints,
      sym (*ℤ_assoc k (pos d) hi),
      sym (*ℤ_assoc k (pos d) t),
      ap (λ x. k *ℤ x) (*ℤ_comm (pos d) hi),
      ap (λ x. k *ℤ x) (*ℤ_comm (pos d) t),
      ap (λ x. k *ℤ x) (sub_ℤ-*ℤ o t (pos d)),
      *ℤ--ℤ k (o *ℤ pos d) (t *ℤ pos d),
      *ℤ-+ℤ k ((o -ℤ t) *ℤ pos d) (pos n *ℤ m),
      *ℤ-+ℤ k (o *ℤ pos d) (pos n *ℤ m),
    ))

-- what is known on one axis of the object's space
pub record IsOver (s d : ℕ) (lo hi q : ℤ) : Type 0 where
  pub above : (pos (suc s * d) *ℤ lo) ≤ℤ q
  pub below : q ≤ℤ (pos (suc s * d) *ℤ hi)

over_positive : (s d : ℕ) (lo hi o m : ℤ) (n : ℕ) → IsOnAxis (pos (suc s)) lo hi o m n d →
    IsOver s d lo hi ((o *ℤ pos d) +ℤ (pos n *ℤ m))
over_positive s d lo hi o m n h =
    let k = pos (suc s) in
    let above = h.above in
    let below = h.below in
    record {
      above = omega (arith, ints, sym (*ℤ_assoc k (pos d) lo), ap (λ x. k *ℤ x) (*ℤ_comm (pos d) lo), *ℤ_assoc k lo (pos d));
      below = omega (arith, ints, sym (*ℤ_assoc k (pos d) hi), ap (λ x. k *ℤ x) (*ℤ_comm (pos d) hi), *ℤ_assoc k hi (pos d));
    }

negated_end : (s d : ℕ) (end : ℤ) → (negsuc s *ℤ end) *ℤ pos d ≡ neg_ℤ (pos (suc s * d) *ℤ end)
negated_end s d end =
    let k = pos (suc s) in
    ap (λ x. x *ℤ pos d) (negsuc-*ℤ s end) ∙
    (neg_ℤ-*ℤ (k *ℤ end) (pos d) ∙
    ap neg_ℤ (sym (*ℤ_assoc k end (pos d)) ∙ (ap (λ x. k *ℤ x) (*ℤ_comm end (pos d)) ∙ *ℤ_assoc k (pos d) end)))

over_negative : (s d : ℕ) (lo hi o m : ℤ) (n : ℕ) → IsOnAxis (negsuc s) lo hi o m n d →
    IsOver s d lo hi (neg_ℤ ((o *ℤ pos d) +ℤ (pos n *ℤ m)))
over_negative s d lo hi o m n h =
    let above = h.above in
    let below = h.below in
    let low = negated_end s d lo in
    let high = negated_end s d hi in
    record { above = omega (arith, ints); below = omega (arith, ints) }

-- where the ray is in the world, for a point q of the object's space that M takes to it, s = |det| times as long
pub record IsTaken (m : MatrixValue) (ray : RayValue) (s n d : ℕ) (q : Vec3) : Type 0 where
  pub x : dot_of m.a q ≡ pos (suc s) *ℤ (((ray.origin.x -ℤ m.t.x) *ℤ pos d) +ℤ (pos n *ℤ ray.dir.x))
  pub y : dot_of m.b q ≡ pos (suc s) *ℤ (((ray.origin.y -ℤ m.t.y) *ℤ pos d) +ℤ (pos n *ℤ ray.dir.y))
  pub z : dot_of m.c q ≡ pos (suc s) *ℤ (((ray.origin.z -ℤ m.t.z) *ℤ pos d) +ℤ (pos n *ℤ ray.dir.z))

-- the ray itself, as an object ray
abbrev pub ray_alone : RayValue → ObjectRayValue
ray_alone ray = object_value ray.origin ray.dir (pos 1) ray.tmin ray.tmax

one_axis : (lo hi o m : ℤ) (n d : ℕ) → (lo *ℤ pos d) ≤ℤ ((o *ℤ pos d) +ℤ (pos n *ℤ m)) →
    ((o *ℤ pos d) +ℤ (pos n *ℤ m)) ≤ℤ (hi *ℤ pos d) → IsOnAxis (pos 1) lo hi o m n d
one_axis lo hi o m n d p q =
    let low : (pos 1 *ℤ lo) *ℤ pos d ≡ lo *ℤ pos d = ap (λ x. x *ℤ pos d) (one_times lo) in
    let high : (pos 1 *ℤ hi) *ℤ pos d ≡ hi *ℤ pos d = ap (λ x. x *ℤ pos d) (one_times hi) in
    record { above = omega (arith, ints); below = omega (arith, ints) }
  where
    one_times : (z : ℤ) → pos 1 *ℤ z ≡ z
    one_times z = omega (arith, ints)

inside_world : (m : MatrixValue) (ray : RayValue) (box world : BoxValue) (s n d : ℕ) (q : Vec3) →
    HoldsImages m box world → IsOver s d box.lo.x box.hi.x q.x → IsOver s d box.lo.y box.hi.y q.y → IsOver s d box.lo.z box.hi.z q.z →
    IsTaken m ray s n d q → ray.tmin * d ≤ 65536 * n → 65536 * n ≤ ray.tmax * d → IsInside (ray_alone ray) world n d
inside_world m ray box world s n d q h x y z taken from to =
    let image = IsImageOver-corners (suc s * d) m box world q h (record {
      x_above = x.above;
      y_above = y.above;
      z_above = z.above;
      x_below = x.below;
      y_below = y.below;
      z_below = z.below;
    }) in
    record {
      x = one_axis world.lo.x world.hi.x ray.origin.x ray.dir.x n d
          (world_above s d n world.lo.x ray.origin.x m.t.x ray.dir.x (dot_of m.a q) taken.x image.x.above)
          (world_below s d n world.hi.x ray.origin.x m.t.x ray.dir.x (dot_of m.a q) taken.x image.x.below);
      y = one_axis world.lo.y world.hi.y ray.origin.y ray.dir.y n d
          (world_above s d n world.lo.y ray.origin.y m.t.y ray.dir.y (dot_of m.b q) taken.y image.y.above)
          (world_below s d n world.hi.y ray.origin.y m.t.y ray.dir.y (dot_of m.b q) taken.y image.y.below);
      z = one_axis world.lo.z world.hi.z ray.origin.z ray.dir.z n d
          (world_above s d n world.lo.z ray.origin.z m.t.z ray.dir.z (dot_of m.c q) taken.z image.z.above)
          (world_below s d n world.hi.z ray.origin.z m.t.z ray.dir.z (dot_of m.c q) taken.z image.z.below);
      from = from;
      to = to;
    }

-- M takes the object ray's point to the ray's, det times as long
taken_x : (m : MatrixValue) (ray : RayValue) (n d : ℕ) →
    dot_of m.a (point_at (object_of ray m) n d) ≡ det_of m *ℤ (((ray.origin.x -ℤ m.t.x) *ℤ pos d) +ℤ (pos n *ℤ ray.dir.x))
taken_x m ray n d =
    let object = object_of ray m in
    let back = LeadsBack-object ray m in
    row_of-point m.a object.origin object.dir (det_of m) (ray.origin.x -ℤ m.t.x) ray.dir.x n d back.origin.x back.dir.x

taken_y : (m : MatrixValue) (ray : RayValue) (n d : ℕ) →
    dot_of m.b (point_at (object_of ray m) n d) ≡ det_of m *ℤ (((ray.origin.y -ℤ m.t.y) *ℤ pos d) +ℤ (pos n *ℤ ray.dir.y))
taken_y m ray n d =
    let object = object_of ray m in
    let back = LeadsBack-object ray m in
    row_of-point m.b object.origin object.dir (det_of m) (ray.origin.y -ℤ m.t.y) ray.dir.y n d back.origin.y back.dir.y

taken_z : (m : MatrixValue) (ray : RayValue) (n d : ℕ) →
    dot_of m.c (point_at (object_of ray m) n d) ≡ det_of m *ℤ (((ray.origin.z -ℤ m.t.z) *ℤ pos d) +ℤ (pos n *ℤ ray.dir.z))
taken_z m ray n d =
    let object = object_of ray m in
    let back = LeadsBack-object ray m in
    row_of-point m.c object.origin object.dir (det_of m) (ray.origin.z -ℤ m.t.z) ray.dir.z n d back.origin.z back.dir.z

-- and its opposite, where det is negative
taken_back : (r p : Vec3) (s : ℕ) (k z : ℤ) → k ≡ negsuc s → dot_of r p ≡ k *ℤ z → dot_of r (negated p) ≡ pos (suc s) *ℤ z
taken_back r p s k z is h =
    dot_of-neg r (negated p) p refl refl refl ∙
    (ap neg_ℤ (h ∙ (ap (λ x. x *ℤ z) is ∙ negsuc-*ℤ s z)) ∙ twice_negated (pos (suc s) *ℤ z))
  where
    twice_negated : (z : ℤ) → neg_ℤ (neg_ℤ z) ≡ z
    twice_negated z = omega (arith, ints)

-- by the sign of det
inside_by : (m : MatrixValue) (ray : RayValue) (box world : BoxValue) (n d : ℕ) → HoldsImages m box world →
    (k : ℤ) → det_of m ≡ k → k ≢ pos 0 → IsInside (object_of ray m) box n d → IsInside (ray_alone ray) world n d
inside_by m ray box world n d h (pos zero) is crosses i = absurd (crosses refl)
inside_by m ray box world n d h (pos (suc s)) is crosses i =
    let object = object_of ray m in
    let axis = λ (lo hi o v : ℤ) (j : IsOnAxis (det_of m) lo hi o v n d).
    over_positive s d lo hi o v n (subst (λ k. IsOnAxis k lo hi o v n d) is j) in
    inside_world m ray box world s n d (point_at object n d) h
    (axis box.lo.x box.hi.x object.origin.x object.dir.x i.x) (axis box.lo.y box.hi.y object.origin.y object.dir.y i.y)
    (axis box.lo.z box.hi.z object.origin.z object.dir.z i.z)
    (record {
      x = taken_x m ray n d ∙ ap (λ k. k *ℤ (((ray.origin.x -ℤ m.t.x) *ℤ pos d) +ℤ (pos n *ℤ ray.dir.x))) is;
      y = taken_y m ray n d ∙ ap (λ k. k *ℤ (((ray.origin.y -ℤ m.t.y) *ℤ pos d) +ℤ (pos n *ℤ ray.dir.y))) is;
      z = taken_z m ray n d ∙ ap (λ k. k *ℤ (((ray.origin.z -ℤ m.t.z) *ℤ pos d) +ℤ (pos n *ℤ ray.dir.z))) is;
    })
    i.from i.to
inside_by m ray box world n d h (negsuc s) is crosses i =
    let object = object_of ray m in
    let p = point_at object n d in
    let axis = λ (lo hi o v : ℤ) (j : IsOnAxis (det_of m) lo hi o v n d).
    over_negative s d lo hi o v n (subst (λ k. IsOnAxis k lo hi o v n d) is j) in
    inside_world m ray box world s n d (negated p) h
    (axis box.lo.x box.hi.x object.origin.x object.dir.x i.x) (axis box.lo.y box.hi.y object.origin.y object.dir.y i.y)
    (axis box.lo.z box.hi.z object.origin.z object.dir.z i.z)
    (record {
      x = taken_back m.a p s (det_of m) (((ray.origin.x -ℤ m.t.x) *ℤ pos d) +ℤ (pos n *ℤ ray.dir.x)) is (taken_x m ray n d);
      y = taken_back m.b p s (det_of m) (((ray.origin.y -ℤ m.t.y) *ℤ pos d) +ℤ (pos n *ℤ ray.dir.y)) is (taken_y m ray n d);
      z = taken_back m.c p s (det_of m) (((ray.origin.z -ℤ m.t.z) *ℤ pos d) +ℤ (pos n *ℤ ray.dir.z)) is (taken_z m ray n d);
    })
    i.from i.to

-- the identity leaves the ray as it is
same_x : (a b c : ℤ) → ((pos 1 *ℤ a) +ℤ (pos 0 *ℤ b)) +ℤ (pos 0 *ℤ c) ≡ a
same_x a b c = omega (arith, ints)

same_y : (a b c : ℤ) → ((pos 0 *ℤ a) +ℤ (pos 1 *ℤ b)) +ℤ (pos 0 *ℤ c) ≡ b
same_y a b c = omega (arith, ints)

same_z : (a b c : ℤ) → ((pos 0 *ℤ a) +ℤ (pos 0 *ℤ b)) +ℤ (pos 1 *ℤ c) ≡ c
same_z a b c = omega (arith, ints)

minus_zero : (a : ℤ) → a -ℤ pos 0 ≡ a
minus_zero a = omega (arith, ints)

pub object_of-identity : (ray : RayValue) → object_of ray identity_value ≡ ray_alone ray
object_of-identity ray =
    let o = minus_of ray.origin (vec3 (pos 0) (pos 0) (pos 0)) in
    let v = ray.dir in
    λ i. object_value
    (vec3 ((same_x o.x o.y o.z ∙ minus_zero ray.origin.x) i) ((same_y o.x o.y o.z ∙ minus_zero ray.origin.y) i)
    ((same_z o.x o.y o.z ∙ minus_zero ray.origin.z) i))
    (vec3 (same_x v.x v.y v.z i) (same_y v.x v.y v.z i) (same_z v.x v.y v.z i)) (pos 1) ray.tmin ray.tmax

-- the law of the world's boxes
pub IsInside-world : (m : MatrixValue) (ray : RayValue) (box world : BoxValue) → det_of m ≢ pos 0 → HoldsImages m box world →
    (n d : ℕ) → IsInside (object_of ray m) box n d → IsInside (object_of ray identity_value) world n d
IsInside-world m ray box world crosses h n d i =
    subst (λ object. IsInside object world n d) (sym (object_of-identity ray))
    (inside_by m ray box world n d h (det_of m) refl crosses i)
