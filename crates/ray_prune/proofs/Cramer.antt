-- Cramer's rule: with U = d . (b x c), V = d . (c x a), W = d . (a x b) and N = a . (b x c), U a + V b + W c
-- is N d. So adj(M) M p = det p, and the weights of a triangle's vertices give the point of the object ray.
use Rattle.std.proofs.Common.{◌≡◌, sym, ap, subst, ◌∙◌, refl, arith}
use Rattle.std.specs.Prelude.{ℤ, pos, ◌+ℤ◌, ◌-ℤ◌, ◌*ℤ◌}
use Rattle.std.proofs.lemmas.Int.{ints}
use Rattle.std.proofs.Math.IntN.{*ℤ_comm}
use Rattle.ray_geom.specs.declared.vec3.Vec3.{Vec3}
use Rattle.ray_geom.specs.Vector.{vec3, minus_of, minor_of, cross_of, dot_of}
use Rattle.ray_geom.specs.Scene.{RayValue, TriValue}
use Rattle.ray_geom.specs.Transform.{MatrixValue, matrix_value, Rows, times_of, det_of, adjugate_of, image_of, world_tri}
use Rattle.ray_geom.specs.ObjectRay.{MapsTo}
use Rattle.ray_geom.specs.TriangleHit.{first_volume, second_volume, third_volume, den_of, num_of}
use Rattle.ray_geom.proofs.Ring.{*ℤ-+ℤ, *ℤ--ℤ, +ℤ-*ℤ, sub_ℤ-*ℤ}
use Rattle.ray_geom.proofs.Triple.{six, turn_product, swap_product}
use Rattle.ray_geom.proofs.ObjectRays.{dot_of-columns, MapsTo-adjugate}
use Rattle.ray_geom.proofs.EdgeLaw.{seen, num_of-triple}

pub dot_of-comm : (a b : Vec3) → dot_of a b ≡ dot_of b a
dot_of-comm a b = omega (arith, ints, *ℤ_comm a.x b.x, *ℤ_comm a.y b.y, *ℤ_comm a.z b.z)

-- the transform whose matrix has these columns
abbrev across : Vec3 → Vec3 → Vec3 → MatrixValue
across a b c =
    matrix_value (vec3 a.x b.x c.x) (vec3 a.y b.y c.y) (vec3 a.z b.z c.z) (vec3 (pos 0) (pos 0) (pos 0))

minor_of-turn : (a b c d : ℤ) → minor_of a b c d ≡ minor_of a c b d
minor_of-turn a b c d = omega (arith, ints, *ℤ_comm b c)

-- the rows of its adjugate are cross products
abbrev crosses : Vec3 → Vec3 → Vec3 → Rows
crosses a b c = record { a = cross_of b c; b = cross_of c a; c = cross_of a b }

adjugate_of-across : (a b c : Vec3) → adjugate_of (across a b c) ≡ crosses a b c
adjugate_of-across a b c = λ i. record {
  a = vec3 (minor_of-turn b.y c.y b.z c.z i) (minor_of-turn b.z c.z b.x c.x i) (minor_of-turn b.x c.x b.y c.y i);
  b = vec3 (minor_of-turn c.y a.y c.z a.z i) (minor_of-turn c.z a.z c.x a.x i) (minor_of-turn c.x a.x c.y a.y i);
  c = vec3 (minor_of-turn a.y b.y a.z b.z i) (minor_of-turn a.z b.z a.x b.x i) (minor_of-turn a.x b.x a.y b.y i);
}

matched : (a b c d e f a' b' c' d' e' f' : ℤ) →
    a ≡ a' → b ≡ b' → c ≡ e' → d ≡ d' → e ≡ c' → f ≡ f' →
    ((a -ℤ b) +ℤ (c -ℤ d)) +ℤ (e -ℤ f) ≡ ((a' -ℤ b') +ℤ (c' -ℤ d')) +ℤ (e' -ℤ f')
matched a b c d e f a' b' c' d' e' f' p q r s t u = omega (arith, ints)

-- the determinant by columns is that by rows
det_of-across : (a b c : Vec3) → det_of (across a b c) ≡ dot_of a (cross_of b c)
det_of-across a b c =
    six (vec3 a.x b.x c.x) (vec3 a.y b.y c.y) (vec3 a.z b.z c.z) ∙
    (matched
    (a.x *ℤ (b.y *ℤ c.z)) (a.x *ℤ (c.y *ℤ b.z)) (b.x *ℤ (c.y *ℤ a.z))
    (b.x *ℤ (a.y *ℤ c.z)) (c.x *ℤ (a.y *ℤ b.z)) (c.x *ℤ (b.y *ℤ a.z))
    (a.x *ℤ (b.y *ℤ c.z)) (a.x *ℤ (b.z *ℤ c.y)) (a.y *ℤ (b.z *ℤ c.x))
    (a.y *ℤ (b.x *ℤ c.z)) (a.z *ℤ (b.x *ℤ c.y)) (a.z *ℤ (b.y *ℤ c.x))
    refl (ap (λ x. a.x *ℤ x) (*ℤ_comm c.y b.z)) (sym (turn_product a.z b.x c.y))
    (swap_product b.x a.y c.z) (turn_product c.x a.y b.z)
    (turn_product c.x b.y a.z ∙ (turn_product b.y a.z c.x ∙ ap (λ x. a.z *ℤ x) (*ℤ_comm c.x b.y))) ∙
    sym (six a b c))

-- Cramer's rule, coordinate by coordinate
cramer : (a b c d : Vec3) →
    MapsTo (across a b c) (vec3 (dot_of d (cross_of b c)) (dot_of d (cross_of c a)) (dot_of d (cross_of a b)))
    (dot_of a (cross_of b c)) d
cramer a b c d =
    let m = across a b c in
    let whole : MapsTo m (times_of (crosses a b c) d) (det_of m) d =
    subst (λ rows. MapsTo m (times_of rows d) (det_of m) d) (adjugate_of-across a b c) (MapsTo-adjugate m d) in
    let columned : MapsTo m (times_of (crosses a b c) d) (dot_of a (cross_of b c)) d =
    subst (λ n. MapsTo m (times_of (crosses a b c) d) n d) (det_of-across a b c) whole in
    let turned : times_of (crosses a b c) d ≡ vec3 (dot_of d (cross_of b c)) (dot_of d (cross_of c a)) (dot_of d (cross_of a b)) =
    λ i. vec3 (dot_of-comm (cross_of b c) d i) (dot_of-comm (cross_of c a) d i) (dot_of-comm (cross_of a b) d i) in
    subst (λ v. MapsTo m v (dot_of a (cross_of b c)) d) turned columned

-- a factor, out of a scalar product
pub pulled : (r : Vec3) (n : ℤ) (d : Vec3) → dot_of r (vec3 (n *ℤ d.x) (n *ℤ d.y) (n *ℤ d.z)) ≡ n *ℤ dot_of r d
pulled r n d =
    omega (
      arith,
      ints,
      swap_product r.x n d.x,
      swap_product r.y n d.y,
      swap_product r.z n d.z,
      *ℤ-+ℤ n ((r.x *ℤ d.x) +ℤ (r.y *ℤ d.y)) (r.z *ℤ d.z),
      *ℤ-+ℤ n (r.x *ℤ d.x) (r.y *ℤ d.y),
    )

-- and along any direction
along : (r a b c d : Vec3) →
    ((dot_of r a *ℤ dot_of d (cross_of b c)) +ℤ (dot_of r b *ℤ dot_of d (cross_of c a))) +ℤ
    (dot_of r c *ℤ dot_of d (cross_of a b)) ≡ dot_of a (cross_of b c) *ℤ dot_of r d
along r a b c d =
    let n = dot_of a (cross_of b c) in
    let v = vec3 (dot_of d (cross_of b c)) (dot_of d (cross_of c a)) (dot_of d (cross_of a b)) in
    let h = cramer a b c d in
    sym (dot_of-columns r a b c v) ∙ ((λ i. dot_of r (vec3 (h.x i) (h.y i) (h.z i))) ∙ pulled r n d)

-- the three directions of the axes
unit_x : (v : Vec3) → dot_of (vec3 (pos 1) (pos 0) (pos 0)) v ≡ v.x
unit_x v = omega (arith, ints)

unit_y : (v : Vec3) → dot_of (vec3 (pos 0) (pos 1) (pos 0)) v ≡ v.y
unit_y v = omega (arith, ints)

unit_z : (v : Vec3) → dot_of (vec3 (pos 0) (pos 0) (pos 1)) v ≡ v.z
unit_z v = omega (arith, ints)

swapped : (x y z a b c : ℤ) →
    dot_of (vec3 x y z) (vec3 a b c) ≡ ((a *ℤ x) +ℤ (b *ℤ y)) +ℤ (c *ℤ z)
swapped x y z a b c = omega (arith, ints, *ℤ_comm x a, *ℤ_comm y b, *ℤ_comm z c)

-- M p
abbrev pub mapped : MatrixValue → Vec3 → Vec3
mapped m p = vec3 (dot_of m.a p) (dot_of m.b p) (dot_of m.c p)

-- adj(M) M p = det p, on an axis with the direction e
back_along : (m : MatrixValue) (p e row : Vec3) (coordinate : ℤ) →
    dot_of e (cross_of m.b m.c) ≡ row.x → dot_of e (cross_of m.c m.a) ≡ row.y → dot_of e (cross_of m.a m.b) ≡ row.z →
    dot_of p e ≡ coordinate → dot_of row (mapped m p) ≡ det_of m *ℤ coordinate
back_along m p e row coordinate first second third at =
    swapped row.x row.y row.z (dot_of m.a p) (dot_of m.b p) (dot_of m.c p) ∙
    ((λ i. ((dot_of-comm m.a p i *ℤ sym first i) +ℤ (dot_of-comm m.b p i *ℤ sym second i)) +ℤ (dot_of-comm m.c p i *ℤ sym third i)) ∙
    (along p m.a m.b m.c e ∙ ap (λ z. det_of m *ℤ z) at))

pub back_x : (m : MatrixValue) (p : Vec3) → dot_of (adjugate_of m).a (mapped m p) ≡ det_of m *ℤ p.x
back_x m p =
    let e = vec3 (pos 1) (pos 0) (pos 0) in
    back_along m p e (adjugate_of m).a p.x (unit_x (cross_of m.b m.c)) (unit_x (cross_of m.c m.a)) (unit_x (cross_of m.a m.b))
    (dot_of-comm p e ∙ unit_x p)

pub back_y : (m : MatrixValue) (p : Vec3) → dot_of (adjugate_of m).b (mapped m p) ≡ det_of m *ℤ p.y
back_y m p =
    let e = vec3 (pos 0) (pos 1) (pos 0) in
    back_along m p e (adjugate_of m).b p.y (unit_y (cross_of m.b m.c)) (unit_y (cross_of m.c m.a)) (unit_y (cross_of m.a m.b))
    (dot_of-comm p e ∙ unit_y p)

pub back_z : (m : MatrixValue) (p : Vec3) → dot_of (adjugate_of m).c (mapped m p) ≡ det_of m *ℤ p.z
back_z m p =
    let e = vec3 (pos 0) (pos 0) (pos 1) in
    back_along m p e (adjugate_of m).c p.z (unit_z (cross_of m.b m.c)) (unit_z (cross_of m.c m.a)) (unit_z (cross_of m.a m.b))
    (dot_of-comm p e ∙ unit_z p)

-- a scalar product with a difference
pub dot_of-minus : (r u v w : Vec3) → u.x ≡ v.x -ℤ w.x → u.y ≡ v.y -ℤ w.y → u.z ≡ v.z -ℤ w.z →
    dot_of r u ≡ dot_of r v -ℤ dot_of r w
dot_of-minus r u v w p q s =
    rw (p, q, s, *ℤ--ℤ r.x v.x w.x, *ℤ--ℤ r.y v.y w.y, *ℤ--ℤ r.z v.z w.z) (omega (arith, ints))

regrouped : (a t o : ℤ) → (a +ℤ t) -ℤ o ≡ a -ℤ (o -ℤ t)
regrouped a t o = omega (arith, ints)

-- a vertex of the world triangle, as seen from the ray's origin, taken back
seen_back : (m : MatrixValue) (ray : RayValue) (p r : Vec3) (coordinate : ℤ) →
    dot_of r (mapped m p) ≡ det_of m *ℤ coordinate →
    dot_of r (seen ray (image_of m p)) ≡ (det_of m *ℤ coordinate) -ℤ dot_of r (minus_of ray.origin m.t)
seen_back m ray p r coordinate back =
    dot_of-minus r (seen ray (image_of m p)) (mapped m p) (minus_of ray.origin m.t)
    (regrouped (dot_of m.a p) m.t.x ray.origin.x) (regrouped (dot_of m.b p) m.t.y ray.origin.y)
    (regrouped (dot_of m.c p) m.t.z ray.origin.z) ∙
    ap (λ z. z -ℤ dot_of r (minus_of ray.origin m.t)) back

-- three weighed differences
gathered : (q0 q1 q2 o u v w whole : ℤ) →
    (((q0 -ℤ o) *ℤ u) +ℤ ((q1 -ℤ o) *ℤ v)) +ℤ ((q2 -ℤ o) *ℤ w) ≡ whole →
    ((u *ℤ q0) +ℤ (v *ℤ q1)) +ℤ (w *ℤ q2) ≡ (((u +ℤ v) +ℤ w) *ℤ o) +ℤ whole
gathered q0 q1 q2 o u v w whole h =
    omega (
      arith,
      ints,
      sub_ℤ-*ℤ q0 o u,
      sub_ℤ-*ℤ q1 o v,
      sub_ℤ-*ℤ q2 o w,
      *ℤ_comm q0 u,
      *ℤ_comm q1 v,
      *ℤ_comm q2 w,
      *ℤ_comm o u,
      *ℤ_comm o v,
      *ℤ_comm o w,
      +ℤ-*ℤ (u +ℤ v) w o,
      +ℤ-*ℤ u v o,
    )

-- on one axis of the object's space: the weights of the vertices give den o' + num d'
pub axis_point : (m : MatrixValue) (ray : RayValue) (tri : TriValue) (r : Vec3) (at : Vec3 → ℤ) →
    ((p : Vec3) → dot_of r (mapped m p) ≡ det_of m *ℤ at p) →
    ((first_volume ray (world_tri m tri) *ℤ (det_of m *ℤ at tri.v0)) +ℤ
    (second_volume ray (world_tri m tri) *ℤ (det_of m *ℤ at tri.v1))) +ℤ
    (third_volume ray (world_tri m tri) *ℤ (det_of m *ℤ at tri.v2)) ≡
    (den_of ray (world_tri m tri) *ℤ dot_of r (minus_of ray.origin m.t)) +ℤ (num_of ray (world_tri m tri) *ℤ dot_of r ray.dir)
axis_point m ray tri r at back =
    let w = world_tri m tri in
    let a = seen ray w.v0 in
    let b = seen ray w.v1 in
    let c = seen ray w.v2 in
    let o = dot_of r (minus_of ray.origin m.t) in
    let first : dot_of r a ≡ (det_of m *ℤ at tri.v0) -ℤ o = seen_back m ray tri.v0 r (at tri.v0) (back tri.v0) in
    let second : dot_of r b ≡ (det_of m *ℤ at tri.v1) -ℤ o = seen_back m ray tri.v1 r (at tri.v1) (back tri.v1) in
    let third : dot_of r c ≡ (det_of m *ℤ at tri.v2) -ℤ o = seen_back m ray tri.v2 r (at tri.v2) (back tri.v2) in
    gathered (det_of m *ℤ at tri.v0) (det_of m *ℤ at tri.v1) (det_of m *ℤ at tri.v2) o
    (first_volume ray w) (second_volume ray w) (third_volume ray w) (num_of ray w *ℤ dot_of r ray.dir)
    ((λ i. ((sym first i *ℤ first_volume ray w) +ℤ (sym second i *ℤ second_volume ray w)) +ℤ (sym third i *ℤ third_volume ray w)) ∙
    (along r a b c ray.dir ∙ ap (λ n. n *ℤ dot_of r ray.dir) (sym (num_of-triple ray w.v0 w.v1 w.v2))))
