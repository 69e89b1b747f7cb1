-- The bytes that a member of a command needs to be whole within a buffer, as V4 and V12 ask them. (Own.)
use Rattle.std.specs.Prelude.{ℕ, ◌*◌, List, [], ◌∷◌, Option, Some, None, length, option_map, slice_get}
use Rattle.std.specs.Option.{option_and_then}
use Rattle.ray_cmd.specs.declared.command.Command.{Command}
use Rattle.ray_cmd.specs.declared.command.Command.TheVariants as commands
use Rattle.ray_cmd.specs.declared.geometry.Geometry.{Geometry}
use Rattle.ray_cmd.specs.declared.region.Region.{Region}
use Rattle.ray_rules.specs.declared.byte_range.ByteRange.{ByteRange}
use Rattle.ray_rules.specs.Ranges.{range, inputs_needed, scratch_range}
use Rattle.ray_causes.specs.declared.member.Member.{Member}
use Rattle.ray_causes.specs.declared.member.Member.TheVariants as members
use Rattle.ray_causes.specs.declared.member.Name.{Name}
use Rattle.ray_causes.specs.declared.member.Name.TheVariants as names
use Rattle.ray_causes.specs.Geometries.{geometry_at, info_at}
use Rattle.ray_causes.specs.Naming.{at_data, at_dst, at_rays_or_hits, at_size, at_src}

-- what a member of the command itself needs
unfoldable pub own_range : Command → Name → Option ByteRange
own_range (commands.Read buffer offset size form) name = at_size name (range buffer offset size)
own_range (commands.Update buffer offset content) name = at_data name (range buffer offset (length content))
own_range (commands.Fill buffer offset size value) name = at_size name (range buffer offset size)
own_range (commands.Serialize src dst form) name = at_dst name (range dst.buffer dst.offset dst.size)
own_range (commands.Deserialize src dst uses) name = at_src name (range src.buffer src.offset src.size)
own_range (commands.Property what structures dst) name =
    at_dst name (range dst.buffer dst.offset (8 * length structures))
own_range (commands.Trace top rays count hits flags mask script) name =
    at_rays_or_hits name (range rays.buffer rays.offset (40 * count)) (range hits.buffer hits.offset (80 * count))
own_range _ name = None

-- one side of a region
abbrev pub side_of : ℕ → ℕ → Name → Region → Option ByteRange
side_of src dst names.SrcOffset region = Some (range src region.src_offset region.size)
side_of src dst names.DstOffset region = Some (range dst region.dst_offset region.size)
side_of src dst _ region = None

-- what a member of region number k needs
abbrev pub region_range : Command → ℕ → Name → Option ByteRange
region_range (commands.Copy src dst regions) k name = option_and_then (side_of src dst name) (slice_get regions k)
region_range _ k name = None

-- what a member of info number k needs: the scratch memory
abbrev pub info_range : Command → ℕ → Name → Option ByteRange
info_range c k names.Scratch = option_map scratch_range (info_at c k)
info_range c k _ = None

-- the first, the second and the third of the inputs of a geometry
abbrev pub first_input : List (Option ByteRange) → Option ByteRange
first_input (first ∷ rest) = first
first_input [] = None

abbrev pub second_input : List (Option ByteRange) → Option ByteRange
second_input (first ∷ rest) = first_input rest
second_input [] = None

abbrev pub third_input : List (Option ByteRange) → Option ByteRange
third_input (first ∷ rest) = second_input rest
third_input [] = None

-- the input of a geometry at a name: vertices, or the data of boxes and instances; indices; the transform
abbrev pub input_at : Name → Geometry → Option ByteRange
input_at names.Vertex geometry = first_input (inputs_needed geometry)
input_at names.Data geometry = first_input (inputs_needed geometry)
input_at names.Index geometry = second_input (inputs_needed geometry)
input_at names.Transform geometry = third_input (inputs_needed geometry)
input_at _ geometry = None

-- what a member of a command needs
unfoldable pub range_needed : Command → Member → Option ByteRange
range_needed c (members.Own name) = own_range c name
range_needed c (members.Region k name) = region_range c k name
range_needed c (members.Info k name) = info_range c k name
range_needed c (members.Geometry k g name) = option_and_then (input_at name) (geometry_at c k g)
range_needed c _ = None
