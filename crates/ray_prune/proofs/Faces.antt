-- The determinant of a world triangle is the product of the object ray's direction with the triangle's normal, so
-- the facing is that of the object's space.
use Rattle.std.proofs.Common.{ℕ, zero, suc, ◌≡◌, ◌≢◌, ◌<◌, Bool, true, false, sym, ap, ◌∙◌, refl, arith}
use Rattle.std.specs.Prelude.{ℤ, pos, negsuc, neg_ℤ, ◌+ℤ◌, ◌-ℤ◌, ◌*ℤ◌, ◌<ℤ◌, ◌↔◌, IsTrue}
use Rattle.std.proofs.lemmas.Int.{ints}
use Rattle.std.proofs.Math.IntN.{*ℤ_comm}
use Rattle.ray_geom.specs.declared.vec3.Vec3.{Vec3}
use Rattle.ray_geom.specs.declared.tri_hit.TriHit.{TriHit}
use Rattle.ray_geom.specs.Vector.{vec3, sign_of, minus_of, cross_of, dot_of}
use Rattle.ray_geom.specs.Scene.{RayValue, TriValue}
use Rattle.ray_geom.specs.Transform.{MatrixValue, det_of, adjugate_of, adjugate_times, image_of, world_tri}
use Rattle.ray_geom.specs.ObjectRay.{MapsTo, object_of}
use Rattle.ray_geom.specs.TriangleHit.{den_of, IsHit, Tells}
use Rattle.ray_prune.specs.Facing.{normal_of_tri, IsFront, is_front}
use Rattle.ray_geom.proofs.Ring.{*ℤ-+ℤ, *ℤ--ℤ, +ℤ-*ℤ, sub_ℤ-*ℤ, *ℤ-neg_ℤ, *ℤ_assoc}
use Rattle.ray_geom.proofs.Triple.{swap_product}
use Rattle.ray_geom.proofs.Determinant.{den_of-dot_of}
use Rattle.ray_geom.proofs.Weights.{sign_of-weight}
use Rattle.ray_geom.proofs.ObjectRays.{dot_of-columns}
use Rattle.ray_prune.proofs.Scaling.{negsuc-*ℤ}
use Rattle.ray_prune.proofs.Cramer.{dot_of-comm, dot_of-minus, pulled, mapped, back_x, back_y, back_z}

-- a product of four, with the middle two exchanged
mix : (a b c d : ℤ) → (a *ℤ b) *ℤ (c *ℤ d) ≡ (a *ℤ c) *ℤ (b *ℤ d)
mix a b c d = sym (*ℤ_assoc a b (c *ℤ d)) ∙ (ap (λ x. a *ℤ x) (swap_product b c d) ∙ *ℤ_assoc a c (b *ℤ d))

mix_turned : (a b c d : ℤ) → (a *ℤ b) *ℤ (c *ℤ d) ≡ (c *ℤ a) *ℤ (b *ℤ d)
mix_turned a b c d = mix a b c d ∙ ap (λ x. x *ℤ (b *ℤ d)) (*ℤ_comm a c)

three : (d a b c : ℤ) → d *ℤ ((a +ℤ b) +ℤ c) ≡ ((d *ℤ a) +ℤ (d *ℤ b)) +ℤ (d *ℤ c)
three d a b c = simp *ℤ-+ℤ

nine : (x y z a b c : ℤ) →
    ((x +ℤ y) +ℤ z) *ℤ ((a +ℤ b) +ℤ c) ≡
    ((((x *ℤ a) +ℤ (x *ℤ b)) +ℤ (x *ℤ c)) +ℤ (((y *ℤ a) +ℤ (y *ℤ b)) +ℤ (y *ℤ c))) +ℤ (((z *ℤ a) +ℤ (z *ℤ b)) +ℤ (z *ℤ c))
nine x y z a b c =
    let whole = (a +ℤ b) +ℤ c in
    omega (arith, ints, +ℤ-*ℤ (x +ℤ y) z whole, +ℤ-*ℤ x y whole, three x a b c, three y a b c, three z a b c)

four : (p q r s : ℤ) → (p -ℤ q) *ℤ (r -ℤ s) ≡ ((p *ℤ r) -ℤ (p *ℤ s)) -ℤ ((q *ℤ r) -ℤ (q *ℤ s))
four p q r s = omega (arith, ints, sub_ℤ-*ℤ p q (r -ℤ s), *ℤ--ℤ p r s, *ℤ--ℤ q r s)

-- what is left of two sums of nine
left_over : (t11 t12 t13 t21 t22 t23 t31 t32 t33 s12 s13 s21 s23 s31 s32 x y z : ℤ) →
    x ≡ (t23 -ℤ s32) -ℤ (s23 -ℤ t32) → y ≡ (t31 -ℤ s13) -ℤ (s31 -ℤ t13) → z ≡ (t12 -ℤ s21) -ℤ (s12 -ℤ t21) →
    ((((t11 +ℤ t12) +ℤ t13) +ℤ ((t21 +ℤ t22) +ℤ t23)) +ℤ ((t31 +ℤ t32) +ℤ t33)) -ℤ
    ((((t11 +ℤ s12) +ℤ s13) +ℤ ((s21 +ℤ t22) +ℤ s23)) +ℤ ((s31 +ℤ s32) +ℤ t33)) ≡ (x +ℤ y) +ℤ z
left_over t11 t12 t13 t21 t22 t23 t31 t32 t33 s12 s13 s21 s23 s31 s32 x y z p q r = omega (arith, ints)

-- Lagrange's identity
lagrange : (b c e f : Vec3) →
    (dot_of b e *ℤ dot_of c f) -ℤ (dot_of c e *ℤ dot_of b f) ≡ dot_of (cross_of b c) (cross_of e f)
lagrange b c e f =
    let first : dot_of b e *ℤ dot_of c f ≡
    (((((b.x *ℤ c.x) *ℤ (e.x *ℤ f.x)) +ℤ ((b.x *ℤ c.y) *ℤ (e.x *ℤ f.y))) +ℤ ((b.x *ℤ c.z) *ℤ (e.x *ℤ f.z))) +ℤ
    ((((b.y *ℤ c.x) *ℤ (e.y *ℤ f.x)) +ℤ ((b.y *ℤ c.y) *ℤ (e.y *ℤ f.y))) +ℤ ((b.y *ℤ c.z) *ℤ (e.y *ℤ f.z)))) +ℤ
    ((((b.z *ℤ c.x) *ℤ (e.z *ℤ f.x)) +ℤ ((b.z *ℤ c.y) *ℤ (e.z *ℤ f.y))) +ℤ ((b.z *ℤ c.z) *ℤ (e.z *ℤ f.z))) =
    nine (b.x *ℤ e.x) (b.y *ℤ e.y) (b.z *ℤ e.z) (c.x *ℤ f.x) (c.y *ℤ f.y) (c.z *ℤ f.z) ∙
    (λ i. (((mix b.x e.x c.x f.x i +ℤ mix b.x e.x c.y f.y i) +ℤ mix b.x e.x c.z f.z i) +ℤ
    ((mix b.y e.y c.x f.x i +ℤ mix b.y e.y c.y f.y i) +ℤ mix b.y e.y c.z f.z i)) +ℤ
    ((mix b.z e.z c.x f.x i +ℤ mix b.z e.z c.y f.y i) +ℤ mix b.z e.z c.z f.z i)) in
    let second : dot_of c e *ℤ dot_of b f ≡
    (((((b.x *ℤ c.x) *ℤ (e.x *ℤ f.x)) +ℤ ((b.y *ℤ c.x) *ℤ (e.x *ℤ f.y))) +ℤ ((b.z *ℤ c.x) *ℤ (e.x *ℤ f.z))) +ℤ
    ((((b.x *ℤ c.y) *ℤ (e.y *ℤ f.x)) +ℤ ((b.y *ℤ c.y) *ℤ (e.y *ℤ f.y))) +ℤ ((b.z *ℤ c.y) *ℤ (e.y *ℤ f.z)))) +ℤ
    ((((b.x *ℤ c.z) *ℤ (e.z *ℤ f.x)) +ℤ ((b.y *ℤ c.z) *ℤ (e.z *ℤ f.y))) +ℤ ((b.z *ℤ c.z) *ℤ (e.z *ℤ f.z))) =
    nine (c.x *ℤ e.x) (c.y *ℤ e.y) (c.z *ℤ e.z) (b.x *ℤ f.x) (b.y *ℤ f.y) (b.z *ℤ f.z) ∙
    (λ i. (((mix_turned c.x e.x b.x f.x i +ℤ mix_turned c.x e.x b.y f.y i) +ℤ mix_turned c.x e.x b.z f.z i) +ℤ
    ((mix_turned c.y e.y b.x f.x i +ℤ mix_turned c.y e.y b.y f.y i) +ℤ mix_turned c.y e.y b.z f.z i)) +ℤ
    ((mix_turned c.z e.z b.x f.x i +ℤ mix_turned c.z e.z b.y f.y i) +ℤ mix_turned c.z e.z b.z f.z i)) in
    (λ i. first i -ℤ second i) ∙
    left_over
    ((b.x *ℤ c.x) *ℤ (e.x *ℤ f.x)) ((b.x *ℤ c.y) *ℤ (e.x *ℤ f.y)) ((b.x *ℤ c.z) *ℤ (e.x *ℤ f.z))
    ((b.y *ℤ c.x) *ℤ (e.y *ℤ f.x)) ((b.y *ℤ c.y) *ℤ (e.y *ℤ f.y)) ((b.y *ℤ c.z) *ℤ (e.y *ℤ f.z))
    ((b.z *ℤ c.x) *ℤ (e.z *ℤ f.x)) ((b.z *ℤ c.y) *ℤ (e.z *ℤ f.y)) ((b.z *ℤ c.z) *ℤ (e.z *ℤ f.z))
    ((b.y *ℤ c.x) *ℤ (e.x *ℤ f.y)) ((b.z *ℤ c.x) *ℤ (e.x *ℤ f.z)) ((b.x *ℤ c.y) *ℤ (e.y *ℤ f.x))
    ((b.z *ℤ c.y) *ℤ (e.y *ℤ f.z)) ((b.x *ℤ c.z) *ℤ (e.z *ℤ f.x)) ((b.y *ℤ c.z) *ℤ (e.z *ℤ f.y))
    ((cross_of b c).x *ℤ (cross_of e f).x) ((cross_of b c).y *ℤ (cross_of e f).y) ((cross_of b c).z *ℤ (cross_of e f).z)
    (four (b.y *ℤ c.z) (b.z *ℤ c.y) (e.y *ℤ f.z) (e.z *ℤ f.y)) (four (b.z *ℤ c.x) (b.x *ℤ c.z) (e.z *ℤ f.x) (e.x *ℤ f.z))
    (four (b.x *ℤ c.y) (b.y *ℤ c.x) (e.x *ℤ f.y) (e.y *ℤ f.x))

-- an edge of the world triangle is M times the edge
cancelled : (a b t : ℤ) → (a +ℤ t) -ℤ (b +ℤ t) ≡ a -ℤ b
cancelled a b t = omega (arith, ints)

edge_row : (r p q : Vec3) (t : ℤ) → (dot_of r p +ℤ t) -ℤ (dot_of r q +ℤ t) ≡ dot_of r (minus_of p q)
edge_row r p q t = cancelled (dot_of r p) (dot_of r q) t ∙ sym (dot_of-minus r (minus_of p q) p q refl refl refl)

edge_of-image : (m : MatrixValue) (p q : Vec3) → minus_of (image_of m p) (image_of m q) ≡ mapped m (minus_of p q)
edge_of-image m p q = λ i. vec3 (edge_row m.a p q m.t.x i) (edge_row m.b p q m.t.y i) (edge_row m.c p q m.t.z i)

-- the normal of two edges of the world
cross_of-mapped : (m : MatrixValue) (e f : Vec3) →
    cross_of (mapped m e) (mapped m f) ≡
    vec3 (dot_of (cross_of m.b m.c) (cross_of e f)) (dot_of (cross_of m.c m.a) (cross_of e f)) (dot_of (cross_of m.a m.b) (cross_of e f))
cross_of-mapped m e f = λ i. vec3 (lagrange m.b m.c e f i) (lagrange m.c m.a e f i) (lagrange m.a m.b e f i)

swapped : (x y z a b c : ℤ) → dot_of (vec3 x y z) (vec3 a b c) ≡ ((a *ℤ x) +ℤ (b *ℤ y)) +ℤ (c *ℤ z)
swapped x y z a b c = omega (arith, ints, *ℤ_comm x a, *ℤ_comm y b, *ℤ_comm z c)

-- den of the world triangle is the object ray's direction times the normal
pub den_of-world : (ray : RayValue) (m : MatrixValue) (tri : TriValue) →
    den_of ray (world_tri m tri) ≡ dot_of (object_of ray m).dir (normal_of_tri tri)
den_of-world ray m tri =
    let w = world_tri m tri in
    let d = ray.dir in
    let n = normal_of_tri tri in
    let e = minus_of tri.v1 tri.v0 in
    let f = minus_of tri.v2 tri.v0 in
    let p = cross_of m.b m.c in
    let q = cross_of m.c m.a in
    let s = cross_of m.a m.b in
    sym (den_of-dot_of ray w) ∙
    ((λ i. dot_of d (cross_of (edge_of-image m tri.v1 tri.v0 i) (edge_of-image m tri.v2 tri.v0 i))) ∙
    (ap (λ v. dot_of d v) (cross_of-mapped m e f) ∙
    (swapped d.x d.y d.z (dot_of p n) (dot_of q n) (dot_of s n) ∙
    ((λ i. ((dot_of-comm p n i *ℤ d.x) +ℤ (dot_of-comm q n i *ℤ d.y)) +ℤ (dot_of-comm s n i *ℤ d.z)) ∙
    (sym (dot_of-columns n p q s d) ∙ dot_of-comm n (adjugate_times m d))))))

-- for a direction w that M takes to k d: det (w . n) = k den
row_back : (row v d : Vec3) (k whole : ℤ) → v.x ≡ k *ℤ d.x → v.y ≡ k *ℤ d.y → v.z ≡ k *ℤ d.z → dot_of row v ≡ whole →
    whole ≡ k *ℤ dot_of row d
row_back row v d k whole p q r h = sym h ∙ ((λ i. dot_of row (vec3 (p i) (q i) (r i))) ∙ pulled row k d)

along_normal : (ray : RayValue) (m : MatrixValue) (tri : TriValue) (w : Vec3) (k : ℤ) → MapsTo m w k ray.dir →
    det_of m *ℤ dot_of w (normal_of_tri tri) ≡ k *ℤ den_of ray (world_tri m tri)
along_normal ray m tri w k maps =
    let n = normal_of_tri tri in
    let d = ray.dir in
    let det = det_of m in
    let object = (object_of ray m).dir in
    let x : det *ℤ w.x ≡ k *ℤ object.x = row_back (adjugate_of m).a (mapped m w) d k (det *ℤ w.x) maps.x maps.y maps.z (back_x m w) in
    let y : det *ℤ w.y ≡ k *ℤ object.y = row_back (adjugate_of m).b (mapped m w) d k (det *ℤ w.y) maps.x maps.y maps.z (back_y m w) in
    let z : det *ℤ w.z ≡ k *ℤ object.z = row_back (adjugate_of m).c (mapped m w) d k (det *ℤ w.z) maps.x maps.y maps.z (back_z m w) in
    ap (λ v. det *ℤ v) (dot_of-comm w n) ∙
    (sym (pulled n det w) ∙
    ((λ i. dot_of n (vec3 (x i) (y i) (z i))) ∙
    (pulled n k object ∙ ap (λ v. k *ℤ v) (dot_of-comm n object ∙ sym (den_of-world ray m tri)))))

-- the signs
sign_of-square : (det y : ℤ) → det ≢ pos 0 → sign_of (det *ℤ (det *ℤ y)) ≡ sign_of y
sign_of-square (pos zero) y h = absurd (h refl)
sign_of-square (pos (suc a)) y h = sign_of-weight a (pos (suc a) *ℤ y) ∙ sign_of-weight a y
sign_of-square (negsuc a) y h =
    ap sign_of (negsuc-*ℤ a (negsuc a *ℤ y) ∙ (ap (λ x. neg_ℤ (pos (suc a) *ℤ x)) (negsuc-*ℤ a y) ∙
    (ap neg_ℤ (*ℤ-neg_ℤ (pos (suc a)) (pos (suc a) *ℤ y)) ∙ twice_negated (pos (suc a) *ℤ (pos (suc a) *ℤ y))))) ∙
    (sign_of-weight a (pos (suc a) *ℤ y) ∙ sign_of-weight a y)
  where
    twice_negated : (z : ℤ) → neg_ℤ (neg_ℤ z) ≡ z
    twice_negated z = omega (arith, ints)

same_sign : (det y den : ℤ) (k : ℕ) → det ≢ pos 0 → det *ℤ y ≡ pos (suc k) *ℤ den → sign_of y ≡ sign_of (den *ℤ det)
same_sign det y den k crosses h =
    sym (sign_of-square det y crosses) ∙
    (ap (λ x. sign_of (det *ℤ x)) h ∙
    (ap sign_of (swap_product det (pos (suc k)) den ∙ ap (λ x. pos (suc k) *ℤ x) (*ℤ_comm det den)) ∙ sign_of-weight k (den *ℤ det)))

below_by_sign : (y z : ℤ) → sign_of y ≡ sign_of z → z <ℤ pos 0 → y <ℤ pos 0
below_by_sign y z same h = grind (arith, ints)

-- the law of facing
pub IsFront-against : (ray : RayValue) (m : MatrixValue) (tri : TriValue) → det_of m ≢ pos 0 → (w : Vec3) (k : ℕ) → 0 < k →
    MapsTo m w (pos k) ray.dir → IsFront ray m tri ↔ (dot_of w (normal_of_tri tri) <ℤ pos 0)
IsFront-against ray m tri crosses w zero positive maps = absurd (omega arith)
IsFront-against ray m tri crosses w (suc k) positive maps =
    let y = dot_of w (normal_of_tri tri) in
    let z = den_of ray (world_tri m tri) *ℤ det_of m in
    let same : sign_of y ≡ sign_of z = same_sign (det_of m) y (den_of ray (world_tri m tri)) k crosses (along_normal ray m tri w (pos (suc k)) maps) in (
      λ h. below_by_sign y z same h.opposite,
      λ h. record { opposite = below_by_sign z y (sym same) h },
    )

-- the truth value of a hit is the facing
front_test : (b : Bool) (den det : ℤ) → den ≢ pos 0 → det ≢ pos 0 → IsTrue b ↔ (den <ℤ pos 0) →
    IsTrue (is_front b det) ↔ ((den *ℤ det) <ℤ pos 0)
front_test b (pos zero) det p q h = absurd (p refl)
front_test b den (pos zero) p q h = absurd (q refl)
front_test true (pos (suc n)) det p q h = absurd (let below : pos (suc n) <ℤ pos 0 = h.0 refl in omega (arith, ints))
front_test false (negsuc n) det p q h = absurd (let never : IsTrue false = h.1 (omega (arith, ints)) in cc)
front_test true (negsuc n) (pos (suc k)) p q h = (λ _. grind (arith, ints), λ _. refl)
front_test true (negsuc n) (negsuc k) p q h = (λ never. absurd (cc), λ below. absurd (grind (arith, ints)))
front_test false (pos (suc n)) (pos (suc k)) p q h = (λ never. absurd (cc), λ below. absurd (grind (arith, ints)))
front_test false (pos (suc n)) (negsuc k) p q h = (λ _. grind (arith, ints), λ _. refl)

pub is_front-tells : (m : MatrixValue) (hit : TriHit) (r : Bool) → r ≡ is_front hit.den_negative (det_of m) → det_of m ≢ pos 0 →
    (ray : RayValue) (tri : TriValue) → IsHit ray (world_tri m tri) → Tells ray (world_tri m tri) hit → IsTrue r ↔ IsFront ray m tri
is_front-tells m hit r is crosses ray tri at tells =
    let test = front_test hit.den_negative (den_of ray (world_tri m tri)) (det_of m) at.crosses crosses tells.negative in (
      λ h. record { opposite = test.0 (sym is ∙ h) },
      λ h. is ∙ test.1 h.opposite,
    )
