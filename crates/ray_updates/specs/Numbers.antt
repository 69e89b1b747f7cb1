-- What of a geometry an update may not change, as numbers. (Own.)
use Rattle.std.specs.Prelude.{ℕ, Option, Bool, true, false}
use Rattle.std.specs.Option.{is_some, option_map_or}
use Rattle.ray_bytes.specs.declared.format.Format.{Format}
use Rattle.ray_bytes.specs.declared.format.Format.TheVariants as formats
use Rattle.ray_cmd.specs.declared.geometry.Geometry.{Geometry}
use Rattle.ray_cmd.specs.declared.geometry.Geometry.TheVariants as geometries
use Rattle.ray_cmd.specs.declared.index.Index.{Index}
use Rattle.ray_updates.specs.declared.change.Matter.{Matter}
use Rattle.ray_updates.specs.declared.change.Matter.TheVariants as matters

-- a truth value
abbrev pub bool_number : Bool → ℕ
bool_number false = 0
bool_number true = 1

-- a format
abbrev pub format_number : Format → ℕ
format_number formats.S32x3 = 1
format_number formats.S32x2 = 2
format_number formats.S16x3 = 3

-- the type of indices, where there are any: the size of one; 0 is none
abbrev pub index_number : Option Index → ℕ
index_number index = option_map_or (λ (x : Index). x.index_size) index 0

-- of triangles
abbrev pub triangles_number : Matter → Bool → Format → ℕ → Option Index → Bool → ℕ → ℕ
triangles_number matters.Kind opaque format max_vertex index has_transform count = 1
triangles_number matters.Opaque opaque format max_vertex index has_transform count = bool_number opaque
triangles_number matters.Format opaque format max_vertex index has_transform count = format_number format
triangles_number matters.Index opaque format max_vertex index has_transform count = index_number index
triangles_number matters.MaxVertex opaque format max_vertex index has_transform count = max_vertex
triangles_number matters.Count opaque format max_vertex index has_transform count = count
triangles_number matters.Transform opaque format max_vertex index has_transform count = bool_number has_transform

-- of boxes
abbrev pub boxes_number : Matter → Bool → ℕ → ℕ
boxes_number matters.Kind opaque count = 2
boxes_number matters.Opaque opaque count = bool_number opaque
boxes_number matters.Count opaque count = count
boxes_number _ opaque count = 0

-- of instances
abbrev pub instances_number : Matter → ℕ → ℕ
instances_number matters.Kind count = 3
instances_number matters.Count count = count
instances_number _ count = 0

-- of a geometry
abbrev pub number_of : Matter → Geometry → ℕ
number_of matter (geometries.Triangles opaque format vertex stride max_vertex index transform count primitive_offset first_vertex transform_offset) =
    triangles_number matter opaque format max_vertex index (is_some transform) count
number_of matter (geometries.Boxes opaque content stride count primitive_offset) = boxes_number matter opaque count
number_of matter (geometries.Instances content count primitive_offset) = instances_number matter count
