-- Of two triangles that share an edge exactly one is hit: the edge law at any of their vertices.
use Rattle.std.proofs.Common.{ℕ, zero, suc, ◌≡◌, ◌≢◌, ◌+◌, ◌<◌, sym, ap, subst, ◌∙◌, refl, inl, inr, arith}
use Rattle.std.specs.Prelude.{ℤ, pos, neg_ℤ, ◌+ℤ◌, ◌<ℤ◌, ◌⊎◌, ◌↔◌}
use Rattle.std.specs.Ordering.{int_cmp, ordering_then, ordering_reverse}
use Rattle.std.specs.declared.cmp.Ordering.{Ordering}
use Rattle.std.specs.declared.cmp.Ordering.TheVariants.{Less, Equal, Greater}
use Rattle.std.proofs.lemmas.Int.{ints}
use Rattle.ray_geom.specs.declared.vec3.Vec3.{Vec3}
use Rattle.ray_geom.specs.Vector.{sign_of, point_cmp, vec3}
use Rattle.ray_geom.specs.Scene.{RayValue, TriValue, tri_value}
use Rattle.ray_geom.specs.EdgeVolume.{normal_of, volume_of}
use Rattle.ray_geom.specs.EdgeSide.{side_of}
use Rattle.ray_geom.specs.TriangleHit.{num_of, den_of, IsFrom, IsTo, IsHit}
use Rattle.ray_geom.specs.Crossing.{vertex_of, Crossing, IsFacedAlike}
use Rattle.ray_geom.proofs.Triple.{turn, twice, flip}
use Rattle.ray_geom.proofs.Sides.{side_of-swap}
use Rattle.ray_geom.proofs.EdgeLaw.{seen, num_of-triple, IsHit-side, Crossing-back}

-- the last of several signs, where the first that isn't zero is none
last_equal : (o p q r s : Ordering) →
    ordering_then o (ordering_then p (ordering_then q (ordering_then r s))) ≡ Equal → s ≡ Equal
last_equal Less p q r s h = absurd (cc)
last_equal Greater p q r s h = absurd (cc)
last_equal Equal Less q r s h = absurd (cc)
last_equal Equal Greater q r s h = absurd (cc)
last_equal Equal Equal Less r s h = absurd (cc)
last_equal Equal Equal Greater r s h = absurd (cc)
last_equal Equal Equal Equal Less s h = absurd (cc)
last_equal Equal Equal Equal Greater s h = absurd (cc)
last_equal Equal Equal Equal Equal s h = h

three_equal : (p q r : Ordering) → ordering_then p (ordering_then q r) ≡ Equal → (p ≡ Equal) × (q ≡ Equal) × (r ≡ Equal)
three_equal Less q r h = absurd (cc)
three_equal Greater q r h = absurd (cc)
three_equal Equal Less r h = absurd (cc)
three_equal Equal Greater r h = absurd (cc)
three_equal Equal Equal r h = (refl, refl, h)

same_by_cmp : (a b : ℤ) → int_cmp a b ≡ Equal → a ≡ b
same_by_cmp a b h = grind (arith, ints)

-- points that tie in lexicographic order are the same
same_by_point_cmp : (a b : Vec3) → point_cmp a b ≡ Equal → a ≡ b
same_by_point_cmp a b h =
    let each = three_equal (int_cmp a.x b.x) (int_cmp a.y b.y) (int_cmp a.z b.z) h in
    λ i. vec3 (same_by_cmp a.x b.x each.0 i) (same_by_cmp a.y b.y each.1 i) (same_by_cmp a.z b.z each.2 i)

none_left : (u v w : ℤ) → v ≡ neg_ℤ u → w ≡ pos 0 → (u +ℤ v) +ℤ w ≡ pos 0
none_left u v w p q = omega (arith, ints)

-- a triangle with a vertex twice has determinant 0
den_of-double : (ray : RayValue) (a c : Vec3) → den_of ray (tri_value a a c) ≡ pos 0
den_of-double ray a c =
    none_left (volume_of ray a c) (volume_of ray c a) (volume_of ray a a) (flip ray.dir (seen ray a) (seen ray c))
    (turn ray.dir (seen ray a) (seen ray a) ∙ twice (seen ray a) ray.dir)

-- no side of a triangle whose determinant isn't 0 is a tie
side_of-some : (ray : RayValue) (a b c : Vec3) → den_of ray (tri_value a b c) ≢ pos 0 → side_of ray a b ≢ Equal
side_of-some ray a b c crosses tie =
    let n = normal_of ray a b in
    let same : b ≡ a =
    same_by_point_cmp b a
    (last_equal (sign_of (volume_of ray a b)) (sign_of n.x) (sign_of n.y) (sign_of n.z) (point_cmp b a) tie) in
    crosses (subst (λ p. den_of ray (tri_value a p c) ≡ pos 0) (sym same) (den_of-double ray a c))

-- exactly one of two triangles is hit
abbrev pub OneHit : RayValue → TriValue → TriValue → Type 0
OneHit ray first second =
    (IsHit ray first × (IsHit ray second → ⊥)) ⊎ ((IsHit ray first → ⊥) × IsHit ray second)

-- of a side and its opposite one is the sign
abbrev OneIs : Ordering → Ordering → Type 0
OneIs side sign = ((side ≡ sign) × (ordering_reverse side ≢ sign)) ⊎ ((side ≢ sign) × (ordering_reverse side ≡ sign))

one_is : (side sign : Ordering) → side ≢ Equal → sign ≢ Equal → OneIs side sign
one_is Equal sign p q = absurd (p refl)
one_is Less Equal p q = absurd (q refl)
one_is Greater Equal p q = absurd (q refl)
one_is Less Less p q = inl (refl, λ h. cc)
one_is Less Greater p q = inr (λ h. cc, refl)
one_is Greater Less p q = inr (λ h. cc, refl)
one_is Greater Greater p q = inl (refl, λ h. cc)

sign_not_equal : (z : ℤ) → z ≢ pos 0 → sign_of z ≢ Equal
sign_not_equal z h same = grind (arith, ints)

-- the law for triangles (a, b, c) and (b, a, e)
one_hit : (ray : RayValue) (a b c e : Vec3) → Crossing ray a b →
    den_of ray (tri_value a b c) ≢ pos 0 → den_of ray (tri_value b a e) ≢ pos 0 →
    sign_of (den_of ray (tri_value a b c)) ≡ sign_of (den_of ray (tri_value b a e)) →
    OneHit ray (tri_value a b c) (tri_value b a e)
one_hit ray a b c e x p q alike =
    elim (one_is (side_of ray a b) (sign_of (den_of ray (tri_value a b c))) (side_of-some ray a b c p)
    (sign_not_equal (den_of ray (tri_value a b c)) p)) [
      | inl this ↦ inl (IsHit-side ray a b c x p this.0, λ hit. this.1 (sym (side_of-swap ray a b) ∙ (hit.third ∙ sym alike)))
      | inr that ↦ inr (λ hit. that.0 hit.third, IsHit-side ray b a e (Crossing-back ray a b x) q (side_of-swap ray a b ∙ (that.1 ∙ alike)))
    ]

rotate : (u v w : ℤ) → (v +ℤ w) +ℤ u ≡ (u +ℤ v) +ℤ w
rotate u v w = omega (arith, ints)

den_of-turn : (ray : RayValue) (a b c : Vec3) → den_of ray (tri_value b c a) ≡ den_of ray (tri_value a b c)
den_of-turn ray a b c = rotate (volume_of ray b c) (volume_of ray c a) (volume_of ray a b)

num_of-turn : (ray : RayValue) (a b c : Vec3) → num_of ray (tri_value b c a) ≡ num_of ray (tri_value a b c)
num_of-turn ray a b c =
    num_of-triple ray b c a ∙ (sym (turn (seen ray a) (seen ray b) (seen ray c)) ∙ sym (num_of-triple ray a b c))

-- a hit doesn't depend on which vertex is named first
IsHit-turn : (ray : RayValue) (a b c : Vec3) → IsHit ray (tri_value a b c) → IsHit ray (tri_value b c a)
IsHit-turn ray a b c hit =
    let den = sym (den_of-turn ray a b c) in
    let num = sym (num_of-turn ray a b c) in
    record {
      crosses = subst (λ z. z ≢ pos 0) den hit.crosses;
      first = subst (λ z. side_of ray c a ≡ sign_of z) den hit.second;
      second = subst (λ z. side_of ray a b ≡ sign_of z) den hit.third;
      third = subst (λ z. side_of ray b c ≡ sign_of z) den hit.first;
      from = subst (λ z. IsFrom ray.tmin z (den_of ray (tri_value b c a))) num
          (subst (λ z. IsFrom ray.tmin (num_of ray (tri_value a b c)) z) den hit.from);
      to = subst (λ z. IsTo ray.tmax z (den_of ray (tri_value b c a))) num
          (subst (λ z. IsTo ray.tmax (num_of ray (tri_value a b c)) z) den hit.to);
    }

-- the triangle with vertex i named first
abbrev pub begun_at : TriValue → ℕ → TriValue
begun_at tri i = tri_value (vertex_of tri i) (vertex_of tri (i + 1)) (vertex_of tri (i + 2))

pub IsHit-begun : (ray : RayValue) (tri : TriValue) (i : ℕ) → i < 3 → IsHit ray tri ↔ IsHit ray (begun_at tri i)
IsHit-begun ray tri zero below = (λ h. h, λ h. h)
IsHit-begun ray tri (suc zero) below = (
  IsHit-turn ray tri.v0 tri.v1 tri.v2,
  λ h. IsHit-turn ray tri.v2 tri.v0 tri.v1 (IsHit-turn ray tri.v1 tri.v2 tri.v0 h),
)
IsHit-begun ray tri (suc (suc zero)) below = (
  λ h. IsHit-turn ray tri.v1 tri.v2 tri.v0 (IsHit-turn ray tri.v0 tri.v1 tri.v2 h),
  IsHit-turn ray tri.v2 tri.v0 tri.v1,
)
IsHit-begun ray tri (suc (suc (suc i))) below = absurd (omega arith)

pub den_of-begun : (ray : RayValue) (tri : TriValue) (i : ℕ) → i < 3 → den_of ray (begun_at tri i) ≡ den_of ray tri
den_of-begun ray tri zero below = refl
den_of-begun ray tri (suc zero) below = den_of-turn ray tri.v0 tri.v1 tri.v2
den_of-begun ray tri (suc (suc zero)) below =
    den_of-turn ray tri.v1 tri.v2 tri.v0 ∙ den_of-turn ray tri.v0 tri.v1 tri.v2
den_of-begun ray tri (suc (suc (suc i))) below = absurd (omega arith)

pub record AreAlike (u v : ℤ) : Type 0 where
  pub left : u ≢ pos 0
  pub right : v ≢ pos 0
  pub sign : sign_of u ≡ sign_of v

alike_above : (u v : ℤ) → pos 0 <ℤ u → pos 0 <ℤ v → AreAlike u v
alike_above u v p q = record {
  left = λ h. grind (arith, ints);
  right = λ h. grind (arith, ints);
  sign = grind (arith, ints);
}

alike_below : (u v : ℤ) → u <ℤ pos 0 → v <ℤ pos 0 → AreAlike u v
alike_below u v p q = record {
  left = λ h. grind (arith, ints);
  right = λ h. grind (arith, ints);
  sign = grind (arith, ints);
}

AreAlike-faced : (ray : RayValue) (first second : TriValue) →
    IsFacedAlike ray first second → AreAlike (den_of ray first) (den_of ray second)
AreAlike-faced ray first second (inl above) = alike_above (den_of ray first) (den_of ray second) above.0 above.1
AreAlike-faced ray first second (inr below) = alike_below (den_of ray first) (den_of ray second) below.0 below.1

-- hits that say the same
carry : {P Q R S : Type 0} → P ↔ R → Q ↔ S → (R × (S → ⊥)) ⊎ ((R → ⊥) × S) → (P × (Q → ⊥)) ⊎ ((P → ⊥) × Q)
carry p q (inl h) = inl (p.1 h.0, λ x. h.1 (q.0 x))
carry p q (inr h) = inr (λ x. h.0 (p.0 x), q.1 h.1)

-- the edge law
pub one_hit_at : (ray : RayValue) (first second : TriValue) (i j : ℕ) → i < 3 → j < 3 →
    vertex_of first i ≡ vertex_of second (j + 1) → vertex_of first (i + 1) ≡ vertex_of second j →
    Crossing ray (vertex_of first i) (vertex_of first (i + 1)) → IsFacedAlike ray first second →
    OneHit ray first second
one_hit_at ray first second i j i_below j_below starts ends x faced =
    let a = vertex_of first i in
    let b = vertex_of first (i + 1) in
    let c = vertex_of first (i + 2) in
    let e = vertex_of second (j + 2) in
    let alike : AreAlike (den_of ray first) (den_of ray second) = AreAlike-faced ray first second faced in
    let back : begun_at second j ≡ tri_value b a e =
    λ k. tri_value (sym ends k) (sym starts k) e in
    let den : den_of ray (tri_value a b c) ≡ den_of ray first = den_of-begun ray first i i_below in
    let other : den_of ray (tri_value b a e) ≡ den_of ray second =
    ap (λ t. den_of ray t) (sym back) ∙ den_of-begun ray second j j_below in
    let hits : IsHit ray second ↔ IsHit ray (tri_value b a e) =
    subst (λ t. IsHit ray second ↔ IsHit ray t) back (IsHit-begun ray second j j_below) in
    carry (IsHit-begun ray first i i_below) hits
    (one_hit ray a b c e x (λ h. alike.left (sym den ∙ h)) (λ h. alike.right (sym other ∙ h))
    (ap sign_of den ∙ (alike.sign ∙ ap sign_of (sym other))))
