-- The primitives of bottom structures. (Vulkan, "Acceleration Structures": active and inactive primitives; own: what
-- marks a primitive as inactive.)
use Rattle.std.specs.Prelude.{ℕ, ◌≡◌, ◌==◌, nat_le, Bool, true, if◌then◌else◌, Option, Some, None, option_map, IfSome}
use Rattle.ray_geom.specs.declared.vec3.Vec3.{Vec3}
use Rattle.ray_geom.specs.Scene.{TriValue, IsTri, tri_value}
use Rattle.ray_geom.specs.Boxes.{BoxValue, IsBox, box_value}
use Rattle.ray_geom.specs.LeastBoxes.{box_of_tri}
use Rattle.ray_bytes.specs.InactiveMark.{is_inactive_mark}
use Rattle.ray_primitives.specs.declared.index_values.IndexValues.{IndexValues}

-- a triangle: its vertices after the geometry's transform, which an inactive one hasn't, and its three index values
pub record TriangleValue : Type 0 where
  pub tri : Option TriValue
  pub indices : IndexValues

-- an active triangle, and an inactive one, which keeps its index values alone
abbrev pub active_triangle : Vec3 → Vec3 → Vec3 → IndexValues → TriangleValue
active_triangle a b c indices = record { tri = Some (tri_value a b c); indices = indices }

abbrev pub inactive_triangle : IndexValues → TriangleValue
inactive_triangle indices = record { tri = None; indices = indices }

-- the limits of a triangle that is active
pub record IsTriangle (t : TriangleValue) : Type 0 where
  pub limits : IfSome t.tri IsTri

-- whether an index value fits an index size in bytes: without indices, which is size 0, it is 0, with indices of 16 bits it is
-- at most 65,535, and else it has 32 bits (VkIndexType)
unfoldable pub index_fits : ℕ → ℕ → Bool
index_fits size index = if size == 0 then index == 0 else if size == 2 then nat_le index 65535 else nat_le index 4294967295

-- a triangle of a geometry with this index size: it is within the limits, and its index values fit
pub record IsTriangleOf (size : ℕ) (t : TriangleValue) : Type 0 where
  pub limits : IsTriangle t
  pub first : index_fits size t.indices.first ≡ true
  pub second : index_fits size t.indices.second ≡ true
  pub third : index_fits size t.indices.third ≡ true

-- a box: its corners, which an inactive one hasn't; its limits, where it is active
pub record IsAabb (box : Option BoxValue) : Type 0 where
  pub limits : IfSome box IsBox

-- the least box of a triangle that is active
abbrev pub box_of_triangle : TriangleValue → Option BoxValue
box_of_triangle t = option_map box_of_tri t.tri

-- the triangle of three points: the mark as x of the first makes it inactive
unfoldable pub kept_triangle : Vec3 → Vec3 → Vec3 → IndexValues → TriangleValue
kept_triangle a b c indices = if is_inactive_mark a.x then inactive_triangle indices else active_triangle a b c indices

-- the box of two points: the mark as x of the least makes it inactive
unfoldable pub kept_box : Vec3 → Vec3 → Option BoxValue
kept_box lo hi = if is_inactive_mark lo.x then None else Some (box_value lo hi)
