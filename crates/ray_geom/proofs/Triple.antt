-- The triple product x . (y x z): it turns, it is negated where two places are exchanged, and it is
-- linear.
use Rattle.std.proofs.Common.{ℕ, ◌≡◌, sym, ap, ◌∙◌, refl, arith}
use Rattle.std.specs.Prelude.{ℤ, pos, neg_ℤ, ◌+ℤ◌, ◌-ℤ◌, ◌*ℤ◌}
use Rattle.std.proofs.lemmas.Int.{ints}
use Rattle.std.proofs.Math.IntN.{*ℤ_comm}
use Rattle.ray_geom.specs.declared.vec3.Vec3.{Vec3}
use Rattle.ray_geom.specs.Vector.{minor_of, cross_of, dot_of}
use Rattle.ray_geom.specs.Crossing.{Mixes}
use Rattle.ray_geom.proofs.Ring.{*ℤ-+ℤ, *ℤ--ℤ, +ℤ-*ℤ, *ℤ-neg_ℤ, *ℤ_assoc}

-- a minor is negated where its rows are exchanged
pub minor_of-swap : (a b c d : ℤ) → minor_of c d a b ≡ neg_ℤ (minor_of a b c d)
minor_of-swap a b c d = omega (arith, ints, *ℤ_comm c b, *ℤ_comm d a)

-- a scalar product with a negated vector
pub dot_of-neg : (d m n : Vec3) →
    m.x ≡ neg_ℤ n.x → m.y ≡ neg_ℤ n.y → m.z ≡ neg_ℤ n.z →
    dot_of d m ≡ neg_ℤ (dot_of d n)
dot_of-neg d m n p q r =
    rw (p, q, r, *ℤ-neg_ℤ d.x n.x, *ℤ-neg_ℤ d.y n.y, *ℤ-neg_ℤ d.z n.z) (omega (arith, ints))

-- a product of three, turned
pub turn_product : (a b c : ℤ) → a *ℤ (b *ℤ c) ≡ b *ℤ (c *ℤ a)
turn_product a b c = *ℤ_comm a (b *ℤ c) ∙ sym (*ℤ_assoc b c a)

-- a product of three, with the first two exchanged
pub swap_product : (a b c : ℤ) → a *ℤ (b *ℤ c) ≡ b *ℤ (a *ℤ c)
swap_product a b c = turn_product a b c ∙ ap (λ x. b *ℤ x) (*ℤ_comm c a)

-- the triple product as six products of three
pub six : (x y z : Vec3) →
    dot_of x (cross_of y z) ≡
    (((x.x *ℤ (y.y *ℤ z.z)) -ℤ (x.x *ℤ (y.z *ℤ z.y))) +ℤ ((x.y *ℤ (y.z *ℤ z.x)) -ℤ (x.y *ℤ (y.x *ℤ z.z)))) +ℤ
    ((x.z *ℤ (y.x *ℤ z.y)) -ℤ (x.z *ℤ (y.y *ℤ z.x)))
six x y z =
    rw (*ℤ--ℤ x.x (y.y *ℤ z.z) (y.z *ℤ z.y), *ℤ--ℤ x.y (y.z *ℤ z.x) (y.x *ℤ z.z), *ℤ--ℤ x.z (y.x *ℤ z.y) (y.y *ℤ z.x))
    refl

turned : (a b c d e f a' b' c' d' e' f' : ℤ) →
    a ≡ c' → b ≡ f' → c ≡ e' → d ≡ b' → e ≡ a' → f ≡ d' →
    ((a -ℤ b) +ℤ (c -ℤ d)) +ℤ (e -ℤ f) ≡ ((a' -ℤ b') +ℤ (c' -ℤ d')) +ℤ (e' -ℤ f')
turned a b c d e f a' b' c' d' e' f' p q r s t u = omega (arith, ints)

-- it turns
pub turn : (x y z : Vec3) → dot_of x (cross_of y z) ≡ dot_of y (cross_of z x)
turn x y z =
    six x y z ∙
    (turned
    (x.x *ℤ (y.y *ℤ z.z)) (x.x *ℤ (y.z *ℤ z.y)) (x.y *ℤ (y.z *ℤ z.x))
    (x.y *ℤ (y.x *ℤ z.z)) (x.z *ℤ (y.x *ℤ z.y)) (x.z *ℤ (y.y *ℤ z.x))
    (y.x *ℤ (z.y *ℤ x.z)) (y.x *ℤ (z.z *ℤ x.y)) (y.y *ℤ (z.z *ℤ x.x))
    (y.y *ℤ (z.x *ℤ x.z)) (y.z *ℤ (z.x *ℤ x.y)) (y.z *ℤ (z.y *ℤ x.x))
    (turn_product x.x y.y z.z) (turn_product x.x y.z z.y) (turn_product x.y y.z z.x)
    (turn_product x.y y.x z.z) (turn_product x.z y.x z.y) (turn_product x.z y.y z.x) ∙
    sym (six y z x))

cancels : (a b c d e f : ℤ) → a ≡ d → b ≡ e → c ≡ f → ((a -ℤ b) +ℤ (c -ℤ d)) +ℤ (e -ℤ f) ≡ pos 0
cancels a b c d e f p q r = omega (arith, ints)

-- it is 0 where a vector stands twice
pub twice : (x z : Vec3) → dot_of x (cross_of x z) ≡ pos 0
twice x z =
    six x x z ∙
    cancels
    (x.x *ℤ (x.y *ℤ z.z)) (x.x *ℤ (x.z *ℤ z.y)) (x.y *ℤ (x.z *ℤ z.x))
    (x.y *ℤ (x.x *ℤ z.z)) (x.z *ℤ (x.x *ℤ z.y)) (x.z *ℤ (x.y *ℤ z.x))
    (swap_product x.x x.y z.z) (swap_product x.x x.z z.y) (swap_product x.y x.z z.x)

pub same_ends : (x z : Vec3) → dot_of x (cross_of z x) ≡ pos 0
same_ends x z = turn x z x ∙ (turn z x x ∙ twice x z)

-- exchanging the last two negates it
pub flip : (x y z : Vec3) → dot_of x (cross_of z y) ≡ neg_ℤ (dot_of x (cross_of y z))
flip x y z =
    dot_of-neg x (cross_of z y) (cross_of y z) (minor_of-swap y.y y.z z.y z.z) (minor_of-swap y.z y.x z.z z.x)
    (minor_of-swap y.x y.y z.x z.y)

-- a multiple of a scalar product
pub scaled : (k : ℤ) (d n : Vec3) →
    k *ℤ dot_of d n ≡ (((k *ℤ d.x) *ℤ n.x) +ℤ ((k *ℤ d.y) *ℤ n.y)) +ℤ ((k *ℤ d.z) *ℤ n.z)
scaled k d n =
    rw (*ℤ-+ℤ k ((d.x *ℤ n.x) +ℤ (d.y *ℤ n.y)) (d.z *ℤ n.z), *ℤ-+ℤ k (d.x *ℤ n.x) (d.y *ℤ n.y), *ℤ_assoc k d.x n.x, *ℤ_assoc k d.y n.y, *ℤ_assoc k d.z n.z)
    refl

gather : (ax ay az bx by bz : ℤ) →
    ((ax +ℤ bx) +ℤ (ay +ℤ by)) +ℤ (az +ℤ bz) ≡ ((ax +ℤ ay) +ℤ az) +ℤ ((bx +ℤ by) +ℤ bz)
gather ax ay az bx by bz = omega (arith, ints)

-- the scalar product with a mixture is the mixture of the scalar products
pub dot_of-Mixes : (k m j : ℕ) (d a b n : Vec3) → Mixes k m j d a b →
    pos k *ℤ dot_of d n ≡ (pos m *ℤ dot_of a n) +ℤ (pos j *ℤ dot_of b n)
dot_of-Mixes k m j d a b n mix =
    scaled (pos k) d n ∙
    (ap (λ t. (((t *ℤ n.x) +ℤ ((pos k *ℤ d.y) *ℤ n.y)) +ℤ ((pos k *ℤ d.z) *ℤ n.z))) mix.x ∙
    (ap (λ t. (((((pos m *ℤ a.x) +ℤ (pos j *ℤ b.x)) *ℤ n.x) +ℤ (t *ℤ n.y)) +ℤ ((pos k *ℤ d.z) *ℤ n.z))) mix.y ∙
    (ap (λ t. (((((pos m *ℤ a.x) +ℤ (pos j *ℤ b.x)) *ℤ n.x) +ℤ (((pos m *ℤ a.y) +ℤ (pos j *ℤ b.y)) *ℤ n.y)) +ℤ (t *ℤ n.z))) mix.z ∙
    rw (+ℤ-*ℤ (pos m *ℤ a.x) (pos j *ℤ b.x) n.x, +ℤ-*ℤ (pos m *ℤ a.y) (pos j *ℤ b.y) n.y, +ℤ-*ℤ (pos m *ℤ a.z) (pos j *ℤ b.z) n.z)
    (gather ((pos m *ℤ a.x) *ℤ n.x) ((pos m *ℤ a.y) *ℤ n.y) ((pos m *ℤ a.z) *ℤ n.z)
    ((pos j *ℤ b.x) *ℤ n.x) ((pos j *ℤ b.y) *ℤ n.y) ((pos j *ℤ b.z) *ℤ n.z) ∙
    rw (scaled (pos m) a n, scaled (pos j) b n) refl))))
