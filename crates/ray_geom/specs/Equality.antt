-- Equality of points, rays, triangles, boxes and transforms as a test, and that it says that they are
-- identical. These words and lemmas stand in specs/, since the `impl`s cite them. (Own.)
use Rattle.std.specs.Prelude.{◌≡◌, ◌==◌, ◌&&◌, ◌↔◌, Bool, IsTrue}
use Rattle.std.specs.Bool.{Decides}
use Rattle.std.specs.Cmp.{IsEquivalence, IsPartialEquivalence, decided, partial_equiv_from_equiv}
use Rattle.std.specs.Ordering.{int_eq}
use Rattle.std.proofs.Common.{ap}
use Rattle.std.proofs.lemmas.Bool.Decides.{Decides-int_eq, Decides-eqb, Decides-and}
use Rattle.ray_geom.specs.declared.vec3.Vec3.{Vec3}
use Rattle.ray_geom.specs.Vector.{vec3}
use Rattle.ray_geom.specs.Scene.{RayValue, TriValue, ray_value, tri_value}
use Rattle.ray_geom.specs.Boxes.{BoxValue, box_value}
use Rattle.ray_geom.specs.Transform.{MatrixValue, matrix_value}

-- two points are the same
abbrev pub point_eq : Vec3 → Vec3 → Bool
point_eq a b = int_eq a.x b.x && (int_eq a.y b.y && int_eq a.z b.z)

-- two rays
abbrev pub ray_eq : RayValue → RayValue → Bool
ray_eq a b = ((point_eq a.origin b.origin && point_eq a.dir b.dir) && (a.tmin == b.tmin)) && (a.tmax == b.tmax)

-- two triangles, vertex by vertex
abbrev pub tri_eq : TriValue → TriValue → Bool
tri_eq a b = point_eq a.v0 b.v0 && (point_eq a.v1 b.v1 && point_eq a.v2 b.v2)

-- two boxes
abbrev pub box_eq : BoxValue → BoxValue → Bool
box_eq a b = point_eq a.lo b.lo && point_eq a.hi b.hi

-- two transforms
abbrev pub matrix_eq : MatrixValue → MatrixValue → Bool
matrix_eq m n = ((point_eq m.a n.a && point_eq m.b n.b) && point_eq m.c n.c) && point_eq m.t n.t

-- a test that holds exactly where another fact does
same_fact : {P Q : Type 0} (r : Bool) → (P → Q) → (Q → P) → Decides r P → Decides r Q
same_fact r f g d = (λ h. f (d.0 h), λ q. d.1 (g q))

pub point_eq-Decides : (a b : Vec3) → Decides (point_eq a b) (a ≡ b)
point_eq-Decides a b =
    same_fact (point_eq a b) (λ h i. vec3 (h.0 i) (h.1.0 i) (h.1.1 i))
    (λ e. (ap (λ v. v.x) e, (ap (λ v. v.y) e, ap (λ v. v.z) e)))
    (Decides-and _ _ (Decides-int_eq a.x b.x) (Decides-and _ _ (Decides-int_eq a.y b.y) (Decides-int_eq a.z b.z)))

pub ray_eq-Decides : (a b : RayValue) → Decides (ray_eq a b) (a ≡ b)
ray_eq-Decides a b =
    same_fact (ray_eq a b) (λ h i. ray_value (h.0.0.0 i) (h.0.0.1 i) (h.0.1 i) (h.1 i))
    (λ e. (((ap (λ r. r.origin) e, ap (λ r. r.dir) e), ap (λ r. r.tmin) e), ap (λ r. r.tmax) e))
    (Decides-and _ _
    (Decides-and _ _ (Decides-and _ _ (point_eq-Decides a.origin b.origin) (point_eq-Decides a.dir b.dir)) (Decides-eqb a.tmin b.tmin))
    (Decides-eqb a.tmax b.tmax))

pub tri_eq-Decides : (a b : TriValue) → Decides (tri_eq a b) (a ≡ b)
tri_eq-Decides a b =
    same_fact (tri_eq a b) (λ h i. tri_value (h.0 i) (h.1.0 i) (h.1.1 i))
    (λ e. (ap (λ t. t.v0) e, (ap (λ t. t.v1) e, ap (λ t. t.v2) e)))
    (Decides-and _ _ (point_eq-Decides a.v0 b.v0) (Decides-and _ _ (point_eq-Decides a.v1 b.v1) (point_eq-Decides a.v2 b.v2)))

pub box_eq-Decides : (a b : BoxValue) → Decides (box_eq a b) (a ≡ b)
box_eq-Decides a b =
    same_fact (box_eq a b) (λ h i. box_value (h.0 i) (h.1 i)) (λ e. (ap (λ x. x.lo) e, ap (λ x. x.hi) e))
    (Decides-and _ _ (point_eq-Decides a.lo b.lo) (point_eq-Decides a.hi b.hi))

pub matrix_eq-Decides : (m n : MatrixValue) → Decides (matrix_eq m n) (m ≡ n)
matrix_eq-Decides m n =
    same_fact (matrix_eq m n) (λ h i. matrix_value (h.0.0.0 i) (h.0.0.1 i) (h.0.1 i) (h.1 i))
    (λ e. (((ap (λ x. x.a) e, ap (λ x. x.b) e), ap (λ x. x.c) e), ap (λ x. x.t) e))
    (Decides-and _ _
    (Decides-and _ _ (Decides-and _ _ (point_eq-Decides m.a n.a) (point_eq-Decides m.b n.b)) (point_eq-Decides m.c n.c))
    (point_eq-Decides m.t n.t))

-- the laws of `Eq`, and of `PartialEq`
pub ray_eq-equivalence : IsEquivalence ray_eq
ray_eq-equivalence = decided ray_eq ray_eq-Decides

pub ray_eq-laws : IsPartialEquivalence ray_eq
ray_eq-laws = partial_equiv_from_equiv ray_eq-equivalence

pub tri_eq-equivalence : IsEquivalence tri_eq
tri_eq-equivalence = decided tri_eq tri_eq-Decides

pub tri_eq-laws : IsPartialEquivalence tri_eq
tri_eq-laws = partial_equiv_from_equiv tri_eq-equivalence

pub box_eq-equivalence : IsEquivalence box_eq
box_eq-equivalence = decided box_eq box_eq-Decides

pub box_eq-laws : IsPartialEquivalence box_eq
box_eq-laws = partial_equiv_from_equiv box_eq-equivalence

pub matrix_eq-equivalence : IsEquivalence matrix_eq
matrix_eq-equivalence = decided matrix_eq matrix_eq-Decides

pub matrix_eq-laws : IsPartialEquivalence matrix_eq
matrix_eq-laws = partial_equiv_from_equiv matrix_eq-equivalence

-- two values that `==` holds of are identical, for callers: `using(ray_geom::specs::Equality::identical)`
pub ray_eq-identical : (a b : RayValue) → IsTrue (ray_eq a b) ↔ (a ≡ b)
ray_eq-identical a b = ray_eq-Decides a b

pub tri_eq-identical : (a b : TriValue) → IsTrue (tri_eq a b) ↔ (a ≡ b)
tri_eq-identical a b = tri_eq-Decides a b

pub box_eq-identical : (a b : BoxValue) → IsTrue (box_eq a b) ↔ (a ≡ b)
box_eq-identical a b = box_eq-Decides a b

pub matrix_eq-identical : (m n : MatrixValue) → IsTrue (matrix_eq m n) ↔ (m ≡ n)
matrix_eq-identical m n = matrix_eq-Decides m n

pub ruleset identical = (ray_eq-identical, tri_eq-identical, box_eq-identical, matrix_eq-identical)
