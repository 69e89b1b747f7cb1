-- The numbers of a command that have to be multiples, as V5 asks them. (Own.)
use Rattle.std.specs.Prelude.{ℕ, Option, Some, None, option_map}
use Rattle.std.specs.Option.{option_and_then}
use Rattle.ray_bytes.specs.Formats.{component_size}
use Rattle.ray_bytes.specs.declared.format.Format.{Format}
use Rattle.ray_cmd.specs.declared.command.Command.{Command}
use Rattle.ray_cmd.specs.declared.command.Command.TheVariants as commands
use Rattle.ray_cmd.specs.declared.geometry.Geometry.{Geometry}
use Rattle.ray_cmd.specs.declared.geometry.Geometry.TheVariants as geometries
use Rattle.ray_cmd.specs.declared.index.Index.{Index}
use Rattle.ray_cmd.specs.declared.info.Info.{Info}
use Rattle.ray_cmd.specs.declared.spot.Spot.{Spot}
use Rattle.ray_causes.specs.declared.cause.Multiple.{Multiple}
use Rattle.ray_causes.specs.declared.member.Member.{Member}
use Rattle.ray_causes.specs.declared.member.Member.TheVariants as members
use Rattle.ray_causes.specs.declared.member.Name.{Name}
use Rattle.ray_causes.specs.declared.member.Name.TheVariants as names
use Rattle.ray_causes.specs.Geometries.{geometry_at, info_at}
use Rattle.ray_causes.specs.Naming.{at_dst, at_rays_or_hits, at_src}

-- a number, and of what it has to be a multiple
abbrev pub multiple : ℕ → ℕ → Multiple
multiple number size = record { number = number; of = size }

-- the offset of a place of the command itself
unfoldable pub own_multiple : Command → Name → Option Multiple
own_multiple (commands.Serialize src dst form) name = at_dst name (multiple dst.offset 256)
own_multiple (commands.Deserialize src dst uses) name = at_src name (multiple src.offset 256)
own_multiple (commands.Property what structures dst) name = at_dst name (multiple dst.offset 8)
own_multiple (commands.Trace top rays count hits flags mask script) name =
    at_rays_or_hits name (multiple rays.offset 8) (multiple hits.offset 8)
own_multiple _ name = None

-- of what `primitive_offset` of triangles has to be a multiple: of the size of an index, or of a component
abbrev pub offset_size : Option Index → Format → ℕ
offset_size None format = component_size format
offset_size (Some index) format = index.index_size

-- the numbers of triangles
abbrev pub triangles_multiple : Name → Format → Spot → ℕ → Option Index → Option Spot → ℕ → ℕ → Option Multiple
triangles_multiple names.Vertex format vertex stride index transform primitive_offset transform_offset =
    Some (multiple vertex.offset (component_size format))
triangles_multiple names.Stride format vertex stride index transform primitive_offset transform_offset =
    Some (multiple stride (component_size format))
triangles_multiple names.Index format vertex stride index transform primitive_offset transform_offset =
    option_map (λ (x : Index). multiple x.offset x.index_size) index
triangles_multiple names.Transform format vertex stride index transform primitive_offset transform_offset =
    option_map (λ (s : Spot). multiple s.offset 16) transform
triangles_multiple names.PrimitiveOffset format vertex stride index transform primitive_offset transform_offset =
    Some (multiple primitive_offset (offset_size index format))
triangles_multiple names.TransformOffset format vertex stride index transform primitive_offset transform_offset =
    option_map (λ (s : Spot). multiple transform_offset 16) transform
triangles_multiple _ format vertex stride index transform primitive_offset transform_offset = None

-- the numbers of boxes
abbrev pub boxes_multiple : Name → Spot → ℕ → ℕ → Option Multiple
boxes_multiple names.Data content stride primitive_offset = Some (multiple content.offset 8)
boxes_multiple names.Stride content stride primitive_offset = Some (multiple stride 8)
boxes_multiple names.PrimitiveOffset content stride primitive_offset = Some (multiple primitive_offset 8)
boxes_multiple _ content stride primitive_offset = None

-- the numbers of instances
abbrev pub instances_multiple : Name → Spot → ℕ → Option Multiple
instances_multiple names.Data content primitive_offset = Some (multiple content.offset 16)
instances_multiple names.PrimitiveOffset content primitive_offset = Some (multiple primitive_offset 16)
instances_multiple _ content primitive_offset = None

-- the numbers of a geometry
abbrev pub input_multiple : Name → Geometry → Option Multiple
input_multiple name (geometries.Triangles opaque format vertex stride max_vertex index transform count primitive_offset first_vertex transform_offset) =
    triangles_multiple name format vertex stride index transform primitive_offset transform_offset
input_multiple name (geometries.Boxes opaque content stride count primitive_offset) =
    boxes_multiple name content stride primitive_offset
input_multiple name (geometries.Instances content count primitive_offset) =
    instances_multiple name content primitive_offset

-- where the scratch memory of info number k begins
abbrev pub info_multiple : Command → ℕ → Name → Option Multiple
info_multiple c k names.Scratch = option_map (λ (info : Info). multiple info.scratch.offset 256) (info_at c k)
info_multiple c k _ = None

-- what a member has to be a multiple of
unfoldable pub multiple_at : Command → Member → Option Multiple
multiple_at c (members.Own name) = own_multiple c name
multiple_at c (members.Info k name) = info_multiple c k name
multiple_at c (members.Geometry k g name) = option_and_then (input_multiple name) (geometry_at c k g)
multiple_at c _ = None
