-- Exchanging the end points of an edge negates its side.
use Rattle.std.proofs.Common.{◌≡◌, sym, refl, arith}
use Rattle.std.specs.Prelude.{ℤ, neg_ℤ, ◌-ℤ◌}
use Rattle.std.specs.Ordering.{int_cmp, ordering_then, ordering_reverse}
use Rattle.std.specs.declared.cmp.Ordering.{Ordering}
use Rattle.std.specs.declared.cmp.Ordering.TheVariants.{Less, Equal, Greater}
use Rattle.std.proofs.lemmas.Cmp.{int_cmp_total}
use Rattle.std.proofs.lemmas.Int.{ints}
use Rattle.ray_geom.specs.declared.vec3.Vec3.{Vec3}
use Rattle.ray_geom.specs.Vector.{sign_of, point_cmp}
use Rattle.ray_geom.specs.Scene.{RayValue}
use Rattle.ray_geom.specs.EdgeVolume.{normal_of, volume_of}
use Rattle.ray_geom.specs.EdgeSide.{side_of}
use Rattle.ray_geom.proofs.Triple.{minor_of-swap, dot_of-neg}

-- the first of several signs that isn't zero, turned, is the first of the turned signs
reverse-then : (q r : Ordering) →
    ordering_reverse (ordering_then q r) ≡ ordering_then (ordering_reverse q) (ordering_reverse r)
reverse-then Less r = refl
reverse-then Equal r = refl
reverse-then Greater r = refl

reverse-then_three : (p q r : Ordering) →
    ordering_reverse (ordering_then p (ordering_then q r)) ≡
    ordering_then (ordering_reverse p) (ordering_then (ordering_reverse q) (ordering_reverse r))
reverse-then_three Less q r = refl
reverse-then_three Equal q r = reverse-then q r
reverse-then_three Greater q r = refl

reverse-then_five : (n o p q r : Ordering) →
    ordering_reverse (ordering_then n (ordering_then o (ordering_then p (ordering_then q r)))) ≡
    ordering_then (ordering_reverse n) (ordering_then (ordering_reverse o)
    (ordering_then (ordering_reverse p) (ordering_then (ordering_reverse q) (ordering_reverse r))))
reverse-then_five Less o p q r = refl
reverse-then_five Greater o p q r = refl
reverse-then_five Equal Less p q r = refl
reverse-then_five Equal Greater p q r = refl
reverse-then_five Equal Equal p q r = reverse-then_three p q r

pub sign_of-neg_ℤ : (z : ℤ) → sign_of (neg_ℤ z) ≡ ordering_reverse (sign_of z)
sign_of-neg_ℤ z = grind (arith, ints)

-- exchanging the two points turns the lexicographic order
pub point_cmp-swap : (a b : Vec3) → point_cmp b a ≡ ordering_reverse (point_cmp a b)
point_cmp-swap a b =
    rw (int_cmp_total.antisymm b.x a.x, int_cmp_total.antisymm b.y a.y, int_cmp_total.antisymm b.z a.z)
    (sym (reverse-then_three (int_cmp a.x b.x) (int_cmp a.y b.y) (int_cmp a.z b.z)))

-- the first of five signs that isn't zero, where each is negated
signs-swap : (v x y z v' x' y' z' : ℤ) (a b : Vec3) →
    v' ≡ neg_ℤ v → x' ≡ neg_ℤ x → y' ≡ neg_ℤ y → z' ≡ neg_ℤ z →
    ordering_then (sign_of v') (ordering_then (sign_of x')
    (ordering_then (sign_of y') (ordering_then (sign_of z') (point_cmp a b)))) ≡
    ordering_reverse (ordering_then (sign_of v) (ordering_then (sign_of x)
    (ordering_then (sign_of y) (ordering_then (sign_of z) (point_cmp b a)))))
signs-swap v x y z v' x' y' z' a b p q r s =
    rw (p, q, r, s, sign_of-neg_ℤ v, sign_of-neg_ℤ x, sign_of-neg_ℤ y, sign_of-neg_ℤ z, point_cmp-swap b a)
    (sym (reverse-then_five (sign_of v) (sign_of x) (sign_of y) (sign_of z) (point_cmp b a)))

-- the side of an edge from b to a is the opposite of that from a to b
pub side_of-swap : (ray : RayValue) (a b : Vec3) → side_of ray b a ≡ ordering_reverse (side_of ray a b)
side_of-swap ray a b =
    let o = ray.origin in
    let x : (normal_of ray b a).x ≡ neg_ℤ (normal_of ray a b).x =
    minor_of-swap (a.y -ℤ o.y) (a.z -ℤ o.z) (b.y -ℤ o.y) (b.z -ℤ o.z) in
    let y : (normal_of ray b a).y ≡ neg_ℤ (normal_of ray a b).y =
    minor_of-swap (a.z -ℤ o.z) (a.x -ℤ o.x) (b.z -ℤ o.z) (b.x -ℤ o.x) in
    let z : (normal_of ray b a).z ≡ neg_ℤ (normal_of ray a b).z =
    minor_of-swap (a.x -ℤ o.x) (a.y -ℤ o.y) (b.x -ℤ o.x) (b.y -ℤ o.y) in
    signs-swap (volume_of ray a b) (normal_of ray a b).x (normal_of ray a b).y (normal_of ray a b).z
    (volume_of ray b a) (normal_of ray b a).x (normal_of ray b a).y (normal_of ray b a).z a b
    (dot_of-neg ray.dir (normal_of ray b a) (normal_of ray a b) x y z) x y z
