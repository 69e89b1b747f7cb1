-- The transform that maps each point to itself.
use Rattle.std.proofs.Common.{rules, ◌≡◌, ◌∙◌, ap, arith}
use Rattle.std.specs.Prelude.{ℤ, pos, ◌+ℤ◌, ◌-ℤ◌, ◌*ℤ◌, ◌↔◌, Bool, IsTrue}
use Rattle.std.proofs.lemmas.Int.{ints}
use Rattle.ray_geom.specs.declared.vec3.Vec3.{Vec3}
use Rattle.ray_geom.specs.Vector.{vec3, minus_of}
use Rattle.ray_geom.specs.Scene.{RayValue}
use Rattle.ray_geom.specs.ObjectRay.{object_of, object_value}
use Rattle.ray_geom.specs.Transform.{MatrixValue, identity_value, image_of, adjugate_times}
use Rattle.ray_geom.specs.Equality.{matrix_eq, matrix_eq-identical}

-- a test that equals that of equality says that a transform is it
pub is_told : (m : MatrixValue) (r : Bool) → r ≡ matrix_eq m identity_value → IsTrue r ↔ (m ≡ identity_value)
is_told m r e =
    let own = matrix_eq-identical m identity_value in
    (λ h. own.0 (search (rules, e, h)), λ same. search (rules, e, own.1 same))

first : (a b c : ℤ) → (((pos 1 *ℤ a) +ℤ (pos 0 *ℤ b)) +ℤ (pos 0 *ℤ c)) +ℤ pos 0 ≡ a
first a b c = omega (arith, ints)

second : (a b c : ℤ) → (((pos 0 *ℤ a) +ℤ (pos 1 *ℤ b)) +ℤ (pos 0 *ℤ c)) +ℤ pos 0 ≡ b
second a b c = omega (arith, ints)

third : (a b c : ℤ) → (((pos 0 *ℤ a) +ℤ (pos 0 *ℤ b)) +ℤ (pos 1 *ℤ c)) +ℤ pos 0 ≡ c
third a b c = omega (arith, ints)

-- it maps each point to itself
identity_stays : (v : Vec3) → image_of identity_value v ≡ v
identity_stays v i = vec3 (first v.x v.y v.z i) (second v.x v.y v.z i) (third v.x v.y v.z i)

pub stays_where : (m : MatrixValue) → m ≡ identity_value → (v : Vec3) → image_of m v ≡ v
stays_where m e v = search (rules, e, identity_stays v)

-- and leaves rays as they are
x_row : (a b c : ℤ) → ((pos 1 *ℤ a) +ℤ (pos 0 *ℤ b)) +ℤ (pos 0 *ℤ c) ≡ a
x_row a b c = omega (arith, ints)

y_row : (a b c : ℤ) → ((pos 0 *ℤ a) +ℤ (pos 1 *ℤ b)) +ℤ (pos 0 *ℤ c) ≡ b
y_row a b c = omega (arith, ints)

z_row : (a b c : ℤ) → ((pos 0 *ℤ a) +ℤ (pos 0 *ℤ b)) +ℤ (pos 1 *ℤ c) ≡ c
z_row a b c = omega (arith, ints)

along : (v : Vec3) → adjugate_times identity_value v ≡ v
along v i = vec3 (x_row v.x v.y v.z i) (y_row v.x v.y v.z i) (z_row v.x v.y v.z i)

less_none : (a : ℤ) → a -ℤ pos 0 ≡ a
less_none a = omega (arith, ints)

begins_there : (v : Vec3) → minus_of v (vec3 (pos 0) (pos 0) (pos 0)) ≡ v
begins_there v i = vec3 (less_none v.x i) (less_none v.y i) (less_none v.z i)

pub ray_stays : (ray : RayValue) → object_of ray identity_value ≡ object_value ray.origin ray.dir (pos 1) ray.tmin ray.tmax
ray_stays ray i =
    object_value ((ap (adjugate_times identity_value) (begins_there ray.origin) ∙ along ray.origin) i) (along ray.dir i) (pos 1) ray.tmin ray.tmax
