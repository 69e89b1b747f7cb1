-- Points and directions with whole coordinates, and what is computed of them.
use Rattle.std.specs.Prelude.{ℕ, ℤ, pos, neg_ℤ, ◌+ℤ◌, ◌-ℤ◌, ◌*ℤ◌, ◌≤ℤ◌, List, slice_index_or}
use Rattle.std.specs.Ordering.{int_cmp, ordering_then}
use Rattle.std.specs.declared.cmp.Ordering.{Ordering}
use Rattle.ray_geom.specs.declared.vec3.Vec3.{Vec3}

-- a whole number is at most m in absolute value (own)
pub record IsWithin (m : ℕ) (z : ℤ) : Type 0 where
  pub above : neg_ℤ (pos m) ≤ℤ z
  pub below : z ≤ℤ pos m

-- each coordinate is at most m in absolute value (own)
pub record IsShort (m : ℕ) (v : Vec3) : Type 0 where
  pub x_within : IsWithin m v.x
  pub y_within : IsWithin m v.y
  pub z_within : IsWithin m v.z

-- the point with these coordinates
abbrev pub vec3 : ℤ → ℤ → ℤ → Vec3
vec3 x y z = record { x = x; y = y; z = z }

-- the point of three numbers in a row, as those of a record (own)
abbrev pub point_of : List ℤ → Vec3
point_of words =
    vec3 (slice_index_or words 0 (pos 0)) (slice_index_or words 1 (pos 0)) (slice_index_or words 2 (pos 0))

-- the way from b to a
abbrev pub minus_of : Vec3 → Vec3 → Vec3
minus_of a b = vec3 (a.x -ℤ b.x) (a.y -ℤ b.y) (a.z -ℤ b.z)

-- the determinant of the rows (a, b) and (c, d)
abbrev pub minor_of : ℤ → ℤ → ℤ → ℤ → ℤ
minor_of a b c d = (a *ℤ d) -ℤ (b *ℤ c)

-- the cross product
abbrev pub cross_of : Vec3 → Vec3 → Vec3
cross_of a b = vec3 (minor_of a.y a.z b.y b.z) (minor_of a.z a.x b.z b.x) (minor_of a.x a.y b.x b.y)

-- the scalar product
abbrev pub dot_of : Vec3 → Vec3 → ℤ
dot_of a b = ((a.x *ℤ b.x) +ℤ (a.y *ℤ b.y)) +ℤ (a.z *ℤ b.z)

-- the sign of a whole number: + is Greater, - is Less, 0 is Equal
abbrev pub sign_of : ℤ → Ordering
sign_of z = int_cmp z (pos 0)

-- the lexicographic order of points: by x, where these are equal by y, and then by z
abbrev pub point_cmp : Vec3 → Vec3 → Ordering
point_cmp a b = ordering_then (int_cmp a.x b.x) (ordering_then (int_cmp a.y b.y) (int_cmp a.z b.z))
