-- The ids that the members of a command name, and for which uses, as V1 and V3 ask them. (Own.)
use Rattle.std.specs.Prelude.{ℕ, List, Option, Some, None, slice_get, option_map}
use Rattle.std.specs.Option.{option_and_then}
use Rattle.ray_cmd.specs.declared.command.Command.{Command}
use Rattle.ray_cmd.specs.declared.command.Command.TheVariants as commands
use Rattle.ray_cmd.specs.declared.geometry.Geometry.{Geometry}
use Rattle.ray_cmd.specs.declared.geometry.Geometry.TheVariants as geometries
use Rattle.ray_cmd.specs.declared.index.Index.{Index}
use Rattle.ray_cmd.specs.declared.info.Info.{Info}
use Rattle.ray_cmd.specs.declared.spot.Spot.{Spot}
use Rattle.ray_cmd.specs.declared.thing.Thing.{Thing}
use Rattle.ray_cmd.specs.declared.thing.Thing.TheVariants as things
use Rattle.ray_flags.specs.Flags.{UsageFlag}
use Rattle.ray_flags.specs.Flags as flags
use Rattle.ray_causes.specs.declared.cause.BufferUse.{BufferUse}
use Rattle.ray_causes.specs.declared.cause.BufferUse.TheVariants as wanted
use Rattle.ray_causes.specs.declared.member.Member.{Member}
use Rattle.ray_causes.specs.declared.member.Member.TheVariants as members
use Rattle.ray_causes.specs.declared.member.Name.{Name}
use Rattle.ray_causes.specs.declared.member.Name.TheVariants as names
use Rattle.ray_causes.specs.Geometries.{geometry_at, info_at}
use Rattle.ray_causes.specs.Naming.{at_buffer, at_buffers, at_data, at_dst, at_id, at_rays_or_hits, at_src, at_src_or_dst, at_structures, at_top, at_uses}

-- the id of what is destroyed, where it is a buffer, or a structure
abbrev pub destroyed_buffer : Thing → Name → ℕ → Option ℕ
destroyed_buffer things.Buffer name id = at_id name id
destroyed_buffer things.Structure name id = None

abbrev pub destroyed_structure : Thing → Name → ℕ → Option ℕ
destroyed_structure things.Buffer name id = None
destroyed_structure things.Structure name id = at_id name id

-- the buffer that a member of the command itself names
unfoldable pub own_buffer : Command → Name → Option ℕ
own_buffer (commands.Structure id kind buffer offset size) name = at_buffer name buffer
own_buffer (commands.Destroy what id) name = destroyed_buffer what name id
own_buffer (commands.Read buffer offset size form) name = at_buffer name buffer
own_buffer (commands.Update buffer offset content) name = at_buffer name buffer
own_buffer (commands.Fill buffer offset size value) name = at_buffer name buffer
own_buffer (commands.Copy src dst regions) name = at_src_or_dst name src dst
own_buffer (commands.Serialize src dst form) name = at_dst name dst.buffer
own_buffer (commands.Deserialize src dst uses) name = at_src name src.buffer
own_buffer (commands.Property what structures dst) name = at_dst name dst.buffer
own_buffer (commands.Trace top rays count hits flags mask script) name = at_rays_or_hits name rays.buffer hits.buffer
own_buffer _ name = None

-- the buffers of triangles
abbrev pub triangles_buffer : Name → Spot → Option Index → Option Spot → Option ℕ
triangles_buffer names.Vertex vertex index transform = Some vertex.buffer
triangles_buffer names.Index vertex index transform = option_map (λ (x : Index). x.buffer) index
triangles_buffer names.Transform vertex index transform = option_map (λ (s : Spot). s.buffer) transform
triangles_buffer _ vertex index transform = None

-- the buffer of a geometry at a name
abbrev pub input_buffer : Name → Geometry → Option ℕ
input_buffer name (geometries.Triangles opaque format vertex stride max_vertex index transform count primitive_offset first_vertex transform_offset) =
    triangles_buffer name vertex index transform
input_buffer name (geometries.Boxes opaque content stride count primitive_offset) = at_data name content.buffer
input_buffer name (geometries.Instances content count primitive_offset) = at_data name content.buffer

-- item number n of the buffers to which a barrier is limited
abbrev pub limit_at : Command → Name → ℕ → Option ℕ
limit_at (commands.Barrier src_stages src_access dst_stages dst_access buffers) name n =
    option_and_then (λ (x : ℕ). at_buffers name x) (option_and_then (λ (ids : List ℕ). slice_get ids n) buffers)
limit_at _ name n = None

-- the scratch buffer of info number k
abbrev pub info_buffer : Command → ℕ → Name → Option ℕ
info_buffer c k names.Scratch = option_map (λ (info : Info). info.scratch.buffer) (info_at c k)
info_buffer c k _ = None

-- the buffer that a member names
unfoldable pub buffer_named : Command → Member → Option ℕ
buffer_named c (members.Own name) = own_buffer c name
buffer_named c (members.Item name n) = limit_at c name n
buffer_named c (members.Info k name) = info_buffer c k name
buffer_named c (members.Geometry k g name) = option_and_then (input_buffer name) (geometry_at c k g)
buffer_named c _ = None

-- the structure that a member of the command itself names
unfoldable pub own_structure : Command → Name → Option ℕ
own_structure (commands.Destroy what id) name = destroyed_structure what name id
own_structure (commands.CopyStructure mode src dst) name = at_src_or_dst name src dst
own_structure (commands.Serialize src dst form) name = at_src name src
own_structure (commands.Deserialize src dst uses) name = at_dst name dst
own_structure (commands.Trace top rays count hits flags mask script) name = at_top name top
own_structure _ name = None

-- an item of a list of structures of the command itself
abbrev pub structure_item : Command → Name → ℕ → Option ℕ
structure_item (commands.Deserialize src dst uses) name n = option_and_then (λ (x : ℕ). at_uses name x) (slice_get uses n)
structure_item (commands.Property what structures dst) name n =
    option_and_then (λ (x : ℕ). at_structures name x) (slice_get structures n)
structure_item _ name n = None

-- the destination and the source of an info
abbrev pub info_structure : Name → Info → Option ℕ
info_structure names.Dst info = Some info.dst
info_structure names.Src info = info.src
info_structure _ info = None

-- an entry of `uses` of an info
abbrev pub use_at : Name → ℕ → Info → Option ℕ
use_at name n info = option_and_then (λ (x : ℕ). at_uses name x) (slice_get info.uses n)

-- the structure that a member names
unfoldable pub structure_named : Command → Member → Option ℕ
structure_named c (members.Own name) = own_structure c name
structure_named c (members.Item name n) = structure_item c name n
structure_named c (members.Info k name) = option_and_then (info_structure name) (info_at c k)
structure_named c (members.InfoItem k name n) = option_and_then (use_at name n) (info_at c k)
structure_named c _ = None

-- the id of the buffer, or of the structure, that a command makes
abbrev pub buffer_made : Command → Name → Option ℕ
buffer_made (commands.Buffer id size usage content) name = at_id name id
buffer_made _ name = None

abbrev pub structure_made : Command → Name → Option ℕ
structure_made (commands.Structure id kind buffer offset size) name = at_id name id
structure_made _ name = None

-- ---- uses

-- a use as a flag of a usage
abbrev pub flag_of : BufferUse → UsageFlag
flag_of wanted.Input = flags.Input
flag_of wanted.Storage = flags.Storage
flag_of wanted.TransferSrc = flags.TransferSrc
flag_of wanted.TransferDst = flags.TransferDst
flag_of wanted.Scratch = flags.Scratch
flag_of wanted.Structure = flags.Structure

-- what a command needs of the buffer that a member of its own names
unfoldable pub own_use : Command → Name → Option BufferUse
own_use (commands.Structure id kind buffer offset size) name = Some wanted.Structure
own_use (commands.Update buffer offset content) name = Some wanted.TransferDst
own_use (commands.Fill buffer offset size value) name = Some wanted.TransferDst
own_use (commands.Copy src dst regions) name = at_src_or_dst name wanted.TransferSrc wanted.TransferDst
own_use (commands.Serialize src dst form) name = Some wanted.TransferDst
own_use (commands.Deserialize src dst uses) name = Some wanted.TransferSrc
own_use (commands.Property what structures dst) name = Some wanted.TransferDst
own_use (commands.Trace top rays count hits flags mask script) name = Some wanted.Storage
own_use _ name = None

-- what a command needs of the buffer that a member names
unfoldable pub use_needed : Command → Member → Option BufferUse
use_needed c (members.Own name) = own_use c name
use_needed c (members.Info k name) = Some wanted.Scratch
use_needed c (members.Geometry k g name) = Some wanted.Input
use_needed c _ = None
