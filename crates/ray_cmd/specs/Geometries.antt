-- The geometries of a build. (Vulkan: VkAccelerationStructureGeometryKHR; own: the JSON.)
use Rattle.std.specs.Prelude.{[], ◌∷◌, Option, Some, codes}
use Rattle.serde_json.specs.Data.{Data}
use Rattle.ray_json.specs.Fields.{◌>>=◌, only, at, optional_at, u32_of, bool_of}
use Rattle.ray_cmd.specs.Words.{format_of, geometry_kind_of}
use Rattle.ray_cmd.specs.Places.{spot_of, index_of}
use Rattle.ray_cmd.specs.declared.geometry.Geometry.{Geometry}
use Rattle.ray_cmd.specs.declared.geometry.Geometry.TheVariants as geometries
use Rattle.ray_cmd.specs.declared.geometry_kind.GeometryKind.{GeometryKind}
use Rattle.ray_cmd.specs.declared.geometry_kind.GeometryKind.TheVariants as kinds

-- triangles
unfoldable pub triangles_of : Data → Option Geometry
triangles_of d = do
  _ ← only (
      codes "kind" ∷ codes "opaque" ∷ codes "format" ∷ codes "vertex" ∷ codes "stride" ∷ codes "max_vertex"
      ∷ codes "index" ∷ codes "transform" ∷ codes "count" ∷ codes "primitive_offset" ∷ codes "first_vertex"
      ∷ codes "transform_offset" ∷ []) d
  opaque ← at bool_of (codes "opaque") d
  format ← at format_of (codes "format") d
  vertex ← at spot_of (codes "vertex") d
  stride ← at u32_of (codes "stride") d
  max_vertex ← at u32_of (codes "max_vertex") d
  index ← optional_at index_of (codes "index") d
  transform ← optional_at spot_of (codes "transform") d
  count ← at u32_of (codes "count") d
  primitive_offset ← at u32_of (codes "primitive_offset") d
  first_vertex ← at u32_of (codes "first_vertex") d
  transform_offset ← at u32_of (codes "transform_offset") d
  Some (geometries.Triangles opaque format vertex stride max_vertex index transform count primitive_offset first_vertex transform_offset)

-- boxes
unfoldable pub boxes_of : Data → Option Geometry
boxes_of d = do
  _ ← only (codes "kind" ∷ codes "opaque" ∷ codes "data" ∷ codes "stride" ∷ codes "count" ∷ codes "primitive_offset" ∷ []) d
  opaque ← at bool_of (codes "opaque") d
  content ← at spot_of (codes "data") d
  stride ← at u32_of (codes "stride") d
  count ← at u32_of (codes "count") d
  primitive_offset ← at u32_of (codes "primitive_offset") d
  Some (geometries.Boxes opaque content stride count primitive_offset)

-- instances
unfoldable pub instances_of : Data → Option Geometry
instances_of d = do
  _ ← only (codes "kind" ∷ codes "data" ∷ codes "count" ∷ codes "primitive_offset" ∷ []) d
  content ← at spot_of (codes "data") d
  count ← at u32_of (codes "count") d
  primitive_offset ← at u32_of (codes "primitive_offset") d
  Some (geometries.Instances content count primitive_offset)

-- a geometry of this kind
abbrev pub geometry_by : GeometryKind → Data → Option Geometry
geometry_by kinds.Triangles d = triangles_of d
geometry_by kinds.Boxes d = boxes_of d
geometry_by kinds.Instances d = instances_of d

-- a geometry
abbrev pub geometry_of : Data → Option Geometry
geometry_of d = at geometry_kind_of (codes "kind") d >>= λ kind. geometry_by kind d
