-- Rules on buffers: their sizes, what they may be used for, and when they may be destroyed.
-- (Vulkan: VkBufferCreateInfo and the valid usage of the commands that name a buffer; own: the
-- words of a usage and the limits.)
use Rattle.std.specs.Prelude.{ℕ, ◌+◌, List, Option, None, Bool, false, ◌&&◌, ◌||◌, ◌==◌, not, nat_lt, length}
use Rattle.std.specs.List.{list_any}
use Rattle.std.specs.Map.{values_of}
use Rattle.std.specs.Option.{is_some, option_map_or}
use Rattle.ray_cmd.specs.declared.command.Command.{Command}
use Rattle.ray_cmd.specs.declared.command.Command.TheVariants as commands
use Rattle.ray_cmd.specs.declared.geometry.Geometry.{Geometry}
use Rattle.ray_cmd.specs.declared.geometry.Geometry.TheVariants as geometries
use Rattle.ray_cmd.specs.declared.index.Index.{Index}
use Rattle.ray_cmd.specs.declared.info.Info.{Info}
use Rattle.ray_cmd.specs.declared.place.Place.{Place}
use Rattle.ray_cmd.specs.declared.spot.Spot.{Spot}
use Rattle.ray_cmd.specs.declared.thing.Thing.{Thing}
use Rattle.ray_cmd.specs.declared.thing.Thing.TheVariants as things
use Rattle.ray_flags.specs.Flags.{UsageFlag, usage_bits, usage_has, Input, Scratch, Storage, Structure, TransferDst, TransferSrc}
use Rattle.ray_flags.specs.declared.usage.Usage.{Usage}
use Rattle.ray_rules.specs.declared.live_buffer.LiveBuffer.{LiveBuffer}
use Rattle.ray_rules.specs.declared.live_structure.LiveStructure.{LiveStructure}
use Rattle.ray_rules.specs.Ids.{look}
use Rattle.ray_rules.specs.Places.{whole, first_part}
use Rattle.ray_rules.specs.Status.{Status, live_bytes}

-- whether content is longer than a size
abbrev pub is_longer : Option (List ℕ) → ℕ → Bool
is_longer content size = option_map_or (λ bytes. nat_lt size (length bytes)) content false

-- V2: `buffer`: size 0, data longer than size, or live sizes together above 2^28;
-- `structure`: size 0
unfoldable pub v2 : Status → Command → Option Place
v2 z (commands.Buffer id size usage content) =
    whole (size == 0 || (is_longer content size || nat_lt 268435456 (live_bytes z + size)))
v2 z (commands.Structure id kind buffer offset size) = whole (size == 0)
v2 z _ = None

-- whether a usage is for scratch memory, or for structures
abbrev pub is_private : Usage → Bool
is_private usage = usage_has usage Scratch || usage_has usage Structure

-- whether a usage is for scratch memory alone, or for structures alone
abbrev pub is_alone : Usage → Bool
is_alone usage = usage.0 == usage_bits Scratch || usage.0 == usage_bits Structure

-- whether a buffer can't be made for a usage: it is none, or is private and has another one or
-- content beside it
abbrev pub is_no_usage : Usage → Option (List ℕ) → Bool
is_no_usage usage content =
    usage.0 == 0 || (is_private usage && (not (is_alone usage) || is_some content))

-- whether the buffer of an id lacks a usage. One that isn't live lacks none
abbrev pub lacks_usage : Status → UsageFlag → ℕ → Bool
lacks_usage z flag id = option_map_or (λ (b : LiveBuffer). not (usage_has b.usage flag)) (look z.buffers id) false

-- whether a usage of the buffer of an id is private
abbrev pub is_private_at : Status → ℕ → Bool
is_private_at z id = option_map_or (λ (b : LiveBuffer). is_private b.usage) (look z.buffers id) false

-- whether the buffer of indices or of a transform, where there are any, isn't for input
abbrev pub lacks_index_usage : Status → Option Index → Bool
lacks_index_usage z index = option_map_or (λ (x : Index). lacks_usage z Input x.buffer) index false

abbrev pub lacks_transform_usage : Status → Option Spot → Bool
lacks_transform_usage z transform = option_map_or (λ (s : Spot). lacks_usage z Input s.buffer) transform false

-- whether a buffer that a geometry names isn't for input
abbrev pub lacks_input_usage : Status → Geometry → Bool
lacks_input_usage z (geometries.Triangles opaque format vertex stride max_vertex index transform count primitive_offset first_vertex transform_offset) =
    lacks_usage z Input vertex.buffer || (lacks_index_usage z index || lacks_transform_usage z transform)
lacks_input_usage z (geometries.Boxes opaque content stride count primitive_offset) = lacks_usage z Input content.buffer
lacks_input_usage z (geometries.Instances content count primitive_offset) = lacks_usage z Input content.buffer

-- whether a buffer that an info names lacks the usage that it needs
abbrev pub lacks_info_usage : Status → Info → Bool
lacks_info_usage z info =
    lacks_usage z Scratch info.scratch.buffer || list_any (lacks_input_usage z) info.geometries

-- V3: `buffer`: no usage, or `scratch` or `structure` with another usage or with data; a buffer
-- lacks the usage that the command needs; `read` of a scratch or structure buffer
unfoldable pub v3 : Status → Command → Option Place
v3 z (commands.Buffer id size usage content) = whole (is_no_usage usage content)
v3 z (commands.Structure id kind buffer offset size) = whole (lacks_usage z Structure buffer)
v3 z (commands.Destroy what id) = None
v3 z (commands.Sizes kind counts) = None
v3 z commands.Begin = None
v3 z commands.End = None
v3 z commands.Submit = None
v3 z commands.Wait = None
v3 z (commands.Read buffer offset size form) = whole (is_private_at z buffer)
v3 z (commands.Update buffer offset content) = whole (lacks_usage z TransferDst buffer)
v3 z (commands.Fill buffer offset size value) = whole (lacks_usage z TransferDst buffer)
v3 z (commands.Copy src dst regions) =
    whole (lacks_usage z TransferSrc src || lacks_usage z TransferDst dst)
v3 z (commands.Build infos) = first_part (lacks_info_usage z) infos
v3 z (commands.CopyStructure mode src dst) = None
v3 z (commands.Serialize src dst form) = whole (lacks_usage z TransferDst dst.buffer)
v3 z (commands.Deserialize src dst uses) = whole (lacks_usage z TransferSrc src.buffer)
v3 z (commands.Property what structures dst) = whole (lacks_usage z TransferDst dst.buffer)
v3 z (commands.Barrier src_stages src_access dst_stages dst_access buffers) = None
v3 z (commands.Trace top rays count hits flags mask script) =
    whole (lacks_usage z Storage rays.buffer || lacks_usage z Storage hits.buffer)

-- whether a structure stands in the buffer of an id
abbrev pub stands_in : ℕ → LiveStructure → Bool
stands_in buffer structure = structure.buffer == buffer

-- whether a buffer holds a live structure
abbrev pub holds_structure : Status → ℕ → Bool
holds_structure z buffer = list_any (stands_in buffer) (values_of z.structures)

-- whether a buffer that is destroyed holds a live structure
abbrev pub is_held : Status → Thing → ℕ → Bool
is_held z things.Buffer id = holds_structure z id
is_held z things.Structure id = false

-- V30: `destroy` with a `submit` after the last `wait`, or of a buffer that holds a live structure
unfoldable pub v30 : Status → Command → Option Place
v30 z (commands.Destroy what id) = whole (z.pending || is_held z what id)
v30 z _ = None
