-- Rules on places in buffers: ranges, alignments, scratch memory, and what transfers take.
-- (Vulkan: the valid usage of builds, copies, updates and fills; own: the limits and the records'
-- sizes.)
use Rattle.std.specs.Prelude.{ℕ, ◌*◌, ◌%◌, Option, Some, None, Bool, false, ◌||◌, ◌==◌, not, nat_lt, length}
use Rattle.std.specs.List.{list_any}
use Rattle.ray_bytes.specs.Formats.{component_size}
use Rattle.ray_bytes.specs.declared.format.Format.{Format}
use Rattle.ray_cmd.specs.declared.command.Command.{Command}
use Rattle.ray_cmd.specs.declared.command.Command.TheVariants as commands
use Rattle.ray_cmd.specs.declared.geometry.Geometry.{Geometry}
use Rattle.ray_cmd.specs.declared.geometry.Geometry.TheVariants as geometries
use Rattle.ray_cmd.specs.declared.index.Index.{Index}
use Rattle.ray_cmd.specs.declared.info.Info.{Info}
use Rattle.ray_cmd.specs.declared.place.Place.{Place}
use Rattle.ray_cmd.specs.declared.read_form.ReadForm.{ReadForm}
use Rattle.ray_cmd.specs.declared.read_form.ReadForm.TheVariants as forms
use Rattle.ray_cmd.specs.declared.region.Region.{Region}
use Rattle.ray_cmd.specs.declared.spot.Spot.{Spot}
use Rattle.ray_rules.specs.Places.{whole, first_part}
use Rattle.ray_rules.specs.Ranges.{range, is_outside, is_outside_if, inputs_needed, scratch_range}
use Rattle.ray_rules.specs.Status.{Status}

-- whether bytes of a buffer aren't whole within it
abbrev pub reaches_out : Status → ℕ → ℕ → ℕ → Bool
reaches_out z buffer from size = is_outside z.buffers (range buffer from size)

-- whether what a geometry needs isn't whole within its buffers
abbrev pub input_reaches_out : Status → Geometry → Bool
input_reaches_out z geometry = list_any (is_outside_if z.buffers) (inputs_needed geometry)

-- whether what the geometries of an info need isn't whole within its buffers
abbrev pub info_reaches_out : Status → Info → Bool
info_reaches_out z info = list_any (input_reaches_out z) info.geometries

-- whether the source or the destination of a region isn't whole within its buffer
abbrev pub region_reaches_out : Status → ℕ → ℕ → Region → Bool
region_reaches_out z src dst region =
    reaches_out z src region.src_offset region.size || reaches_out z dst region.dst_offset region.size

-- V4: a byte range isn't whole within its buffer
unfoldable pub v4 : Status → Command → Option Place
v4 z (commands.Buffer id size usage content) = None
v4 z (commands.Structure id kind buffer offset size) = None
v4 z (commands.Destroy what id) = None
v4 z (commands.Sizes kind counts) = None
v4 z commands.Begin = None
v4 z commands.End = None
v4 z commands.Submit = None
v4 z commands.Wait = None
v4 z (commands.Read buffer offset size form) = whole (reaches_out z buffer offset size)
v4 z (commands.Update buffer offset content) = whole (reaches_out z buffer offset (length content))
v4 z (commands.Fill buffer offset size value) = whole (reaches_out z buffer offset size)
v4 z (commands.Copy src dst regions) = first_part (region_reaches_out z src dst) regions
v4 z (commands.Build infos) = first_part (info_reaches_out z) infos
v4 z (commands.CopyStructure mode src dst) = None
v4 z (commands.Serialize src dst form) = whole (reaches_out z dst.buffer dst.offset dst.size)
v4 z (commands.Deserialize src dst uses) = whole (reaches_out z src.buffer src.offset src.size)
v4 z (commands.Property what structures dst) = whole (reaches_out z dst.buffer dst.offset (8 * length structures))
v4 z (commands.Barrier src_stages src_access dst_stages dst_access buffers) = None
v4 z (commands.Trace top rays count hits flags mask script) =
    whole (reaches_out z rays.buffer rays.offset (40 * count) || reaches_out z hits.buffer hits.offset (80 * count))

-- whether a number is no multiple of another
abbrev pub misses : ℕ → ℕ → Bool
misses size n = not (n % size == 0)

-- whether indices, or without indices vertices, miss the alignment of what the offset is added to
abbrev pub offset_misses : Option Index → Format → ℕ → Bool
offset_misses None format primitive_offset = misses (component_size format) primitive_offset
offset_misses (Some index) format primitive_offset =
    misses index.index_size primitive_offset || misses index.index_size index.offset

-- whether a transform, where there is one, misses its alignment
abbrev pub transform_misses : Option Spot → ℕ → Bool
transform_misses None transform_offset = false
transform_misses (Some spot) transform_offset = misses 16 spot.offset || misses 16 transform_offset

-- whether a place of a geometry misses its alignment
abbrev pub input_misses : Geometry → Bool
input_misses (geometries.Triangles opaque format vertex stride max_vertex index transform count primitive_offset first_vertex transform_offset) =
    misses (component_size format) vertex.offset
    || (misses (component_size format) stride
    || (offset_misses index format primitive_offset || transform_misses transform transform_offset))
input_misses (geometries.Boxes opaque content stride count primitive_offset) =
    misses 8 content.offset || (misses 8 primitive_offset || misses 8 stride)
input_misses (geometries.Instances content count primitive_offset) =
    misses 16 content.offset || misses 16 primitive_offset

-- whether a place of an info misses its alignment
abbrev pub info_misses : Info → Bool
info_misses info = misses 256 info.scratch.offset || list_any input_misses info.geometries

-- V5: an alignment is missed
unfoldable pub v5 : Command → Option Place
v5 (commands.Build infos) = first_part info_misses infos
v5 (commands.Serialize src dst form) = whole (misses 256 dst.offset)
v5 (commands.Deserialize src dst uses) = whole (misses 256 src.offset)
v5 (commands.Property what structures dst) = whole (misses 8 dst.offset)
v5 (commands.Trace top rays count hits flags mask script) = whole (misses 8 rays.offset || misses 8 hits.offset)
v5 _ = None

-- whether the scratch memory of an info isn't whole within its buffer
abbrev pub scratch_reaches_out : Status → Info → Bool
scratch_reaches_out z info = is_outside z.buffers (scratch_range info)

-- V12: the scratch range isn't within its buffer
unfoldable pub v12 : Status → Command → Option Place
v12 z (commands.Build infos) = first_part (scratch_reaches_out z) infos
v12 z _ = None

-- whether an update writes no words of four bytes, or more than 65,536 bytes
abbrev pub is_no_update : ℕ → ℕ → Bool
is_no_update offset size = misses 4 offset || (misses 4 size || (size == 0 || nat_lt 65536 size))

-- whether a fill writes no words of four bytes
abbrev pub is_no_fill : ℕ → ℕ → Bool
is_no_fill offset size = misses 4 offset || (misses 4 size || size == 0)

-- the size of a record of a form
abbrev pub record_size : ReadForm → ℕ
record_size forms.Hex = 1
record_size forms.U64 = 8
record_size forms.Hits = 80

-- whether a region has no bytes
abbrev pub is_empty : Region → Bool
is_empty region = region.size == 0

-- V31: `update`, `fill`: offset or size not a multiple of 4, or size 0; `update` above 65,536
-- bytes; a region or a `read` of size 0; `read` as `u64` with a size not a multiple of 8, as `hits`
-- not of 80
unfoldable pub v31 : Command → Option Place
v31 (commands.Read buffer offset size form) = whole (size == 0 || misses (record_size form) size)
v31 (commands.Update buffer offset content) = whole (is_no_update offset (length content))
v31 (commands.Fill buffer offset size value) = whole (is_no_fill offset size)
v31 (commands.Copy src dst regions) = first_part is_empty regions
v31 _ = None
