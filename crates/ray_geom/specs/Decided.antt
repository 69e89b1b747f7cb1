-- The value where a fact holds (`where_so`); and, which a reader of the public contracts needs not, that rays,
-- triangles, boxes, transforms and hits are decided: each either is so, or isn't. (Own.)
use Rattle.std.specs.Prelude.{ℕ, ℤ, pos, neg_ℤ, ◌≡◌, ◌≤◌, ◌^◌, ◌≤ℤ◌, Option, Some, None, refl}
use Rattle.std.specs.Ordering.{int_eq}
use Rattle.std.specs.declared.cmp.Ordering.{Ordering}
use Rattle.std.specs.declared.cmp.Ordering.TheVariants.{Less, Equal, Greater}
use Rattle.std.proofs.Common.{arith, ap, inl, inr}
use Rattle.std.proofs.lemmas.Int.{ints, by_lt_z}
use Rattle.std.proofs.lemmas.Bool.{cases_Bool, cases_lt}
use Rattle.std.proofs.lemmas.Bool.Decides.{Decides-int_eq, not_from_Decides}
use Rattle.ray_geom.specs.declared.vec3.Vec3.{Vec3}
use Rattle.ray_geom.specs.Vector.{IsWithin, IsShort, vec3, sign_of}
use Rattle.ray_geom.specs.Scene.{RayValue, TriValue, IsRay}
use Rattle.ray_geom.specs.EdgeSide.{side_of}
use Rattle.ray_geom.specs.Transform.{MatrixValue, IsMatrix, det_of}
use Rattle.ray_geom.specs.TriangleHit.{num_of, den_of, IsFrom, IsTo, IsHit}

-- the value where a fact holds
abbrev pub where_so : {P X : Type 0} → Dec P → X → Option X
where_so (yes p) x = Some x
where_so (no n) x = None

-- two facts together
pub both : {P Q : Type 0} → Dec P → Dec Q → Dec (P × Q)
both (yes p) (yes q) = yes (p, q)
both (yes p) (no n) = no (λ h. n h.1)
both (no n) d = no (λ h. n h.0)

-- a fact that says the same
pub same_as : {P Q : Type 0} → (P → Q) → (Q → P) → Dec P → Dec Q
same_as f g (yes p) = yes (f p)
same_as f g (no n) = no (λ q. n (g q))

-- not
pub not_so : {P : Type 0} → Dec P → Dec (P → ⊥)
not_so (yes p) = no (λ n. n p)
not_so (no n) = yes n

pub at_most : (m n : ℕ) → Dec (m ≤ n)
at_most m n = elim (cases_lt n m) [ inl below ↦ no (λ h. omega arith) | inr above ↦ yes above ]

pub at_most_int : (a b : ℤ) → Dec (a ≤ℤ b)
at_most_int a b = by_lt_z b a (λ below. no (λ h. omega (arith, ints))) (λ above. yes above)

pub same_int : (a b : ℤ) → Dec (a ≡ b)
same_int a b =
    elim (cases_Bool (int_eq a b)) [
      | inl same ↦ yes ((Decides-int_eq a b).0 same)
      | inr differs ↦ no (not_from_Decides (int_eq a b) (Decides-int_eq a b) differs)
    ]

pub same_ordering : (a b : Ordering) → Dec (a ≡ b)
same_ordering Less Less = yes refl
same_ordering Less Equal = no (λ h. cc)
same_ordering Less Greater = no (λ h. cc)
same_ordering Equal Less = no (λ h. cc)
same_ordering Equal Equal = yes refl
same_ordering Equal Greater = no (λ h. cc)
same_ordering Greater Less = no (λ h. cc)
same_ordering Greater Equal = no (λ h. cc)
same_ordering Greater Greater = yes refl

pub within_decided : (m : ℕ) (z : ℤ) → Dec (IsWithin m z)
within_decided m z = same_as (λ h. record { above = h.0; below = h.1 }) (λ h. (h.above, h.below)) (both (at_most_int (neg_ℤ (pos m)) z) (at_most_int z (pos m)))

pub short_decided : (m : ℕ) (v : Vec3) → Dec (IsShort m v)
short_decided m v = same_as (λ h. record { x_within = h.0; y_within = h.1.0; z_within = h.1.1 }) (λ h. (h.x_within, (h.y_within, h.z_within)))
    (both (within_decided m v.x) (both (within_decided m v.y) (within_decided m v.z)))

pub same_point : (a b : Vec3) → Dec (a ≡ b)
same_point a b = same_as (λ h i. record { x = h.0 i; y = h.1.0 i; z = h.1.1 i }) (λ e. (ap (λ v. v.x) e, (ap (λ v. v.y) e, ap (λ v. v.z) e)))
    (both (same_int a.x b.x) (both (same_int a.y b.y) (same_int a.z b.z)))

pub ray_decided : (ray : RayValue) → Dec (IsRay ray)
ray_decided ray = same_as
    (λ h. record { origin_short = h.0; dir_short = h.1.0; dir_not_zero = h.1.1.0; ordered = h.1.1.1.0; tmax_limit = h.1.1.1.1 })
    (λ h. (h.origin_short, (h.dir_short, (h.dir_not_zero, (h.ordered, h.tmax_limit)))))
    (both (short_decided (2 ^ 19) ray.origin) (both (short_decided (2 ^ 20) ray.dir) (both (not_so (same_point ray.dir (vec3 (pos 0) (pos 0) (pos 0)))) (both (at_most ray.tmin ray.tmax) (at_most ray.tmax (2 ^ 40))))))

from_decided : (least : ℕ) (num den : ℤ) → Dec (IsFrom least num den)
from_decided least num den = same_as (λ h. record { at_least = h }) (λ h. h.at_least) (at_most_int _ _)

to_decided : (most : ℕ) (num den : ℤ) → Dec (IsTo most num den)
to_decided most num den = same_as (λ h. record { at_most = h }) (λ h. h.at_most) (at_most_int _ _)

pub hit_decided : (ray : RayValue) (tri : TriValue) → Dec (IsHit ray tri)
hit_decided ray tri = same_as
    (λ h. record { crosses = h.0; first = h.1.0; second = h.1.1.0; third = h.1.1.1.0; from = h.1.1.1.1.0; to = h.1.1.1.1.1 })
    (λ h. (h.crosses, (h.first, (h.second, (h.third, (h.from, h.to))))))
    (both (not_so (same_int (den_of ray tri) (pos 0)))
    (both (same_ordering (side_of ray tri.v1 tri.v2) (sign_of (den_of ray tri)))
    (both (same_ordering (side_of ray tri.v2 tri.v0) (sign_of (den_of ray tri)))
    (both (same_ordering (side_of ray tri.v0 tri.v1) (sign_of (den_of ray tri)))
    (both (from_decided ray.tmin (num_of ray tri) (den_of ray tri)) (to_decided ray.tmax (num_of ray tri) (den_of ray tri)))))))

pub matrix_decided : (m : MatrixValue) → Dec (IsMatrix m)
matrix_decided m = same_as
    (λ h. record { a_short = h.0; b_short = h.1.0; c_short = h.1.1.0; t_short = h.1.1.1.0; det_not_zero = h.1.1.1.1 })
    (λ h. (h.a_short, (h.b_short, (h.c_short, (h.t_short, h.det_not_zero)))))
    (both (short_decided (2 ^ 12) m.a) (both (short_decided (2 ^ 12) m.b) (both (short_decided (2 ^ 12) m.c)
    (both (short_decided (2 ^ 20) m.t) (not_so (same_int (det_of m) (pos 0)))))))
