-- The store of a piece's output, as its command alone tells it. (Own.)
use Rattle.std.specs.Prelude.{ℕ, ◌*◌, List, length, slice_get, Option, Some, None, if◌then◌else◌}
use Rattle.ray_cmd.specs.declared.command.Command.{Command}
use Rattle.ray_cmd.specs.declared.command.Command.TheVariants as commands
use Rattle.ray_cmd.specs.declared.info.Info.{Info}
use Rattle.ray_cmd.specs.declared.region.Region.{Region}
use Rattle.ray_cmd.specs.declared.spot.Spot.{Spot}
use Rattle.ray_rules.specs.declared.byte_range.ByteRange.{ByteRange}
use Rattle.ray_rules.specs.Ranges.{range}
use Rattle.ray_action.specs.Memory.{Memory, StructureAt, kind_of}
use Rattle.ray_action.specs.Areas.{is_in_range, is_contents_of}
use Rattle.ray_action.specs.Action.{Action, MakeBuffer, MakeStructure, DestroyBuffer, DestroyStructure, ShowSizes, ShowBytes, UpdateBytes, FillBytes, CopyBytes, BuildBottom, UpdateBottom, BuildTop, UpdateTop, CopyStructure, SerializeStructure, DeserializeStructure, TellProperty, TraceRays, Rest, Impossible}
use Rattle.ray_action.specs.Outcomes.{Output, Nothing, Bytes, Holds}
use Rattle.ray_action.specs.Pieces.{stretch_range, hits_range}
use Rattle.ray_action.specs.Readiness.{IsMade}
use Rattle.ray_action.specs.Storing.{stored, filled, bytes_left, contents_left}

-- ---- what a store needs

-- a structure can hold what is given: it is live, and of its kind
abbrev pub CanHold : ℕ → Output → Memory → Type 0
CanHold dst Nothing memory = Unit {0}
CanHold dst (Bytes bytes) memory = Unit {0}
CanHold dst (Holds contents) memory = IsMade (kind_of contents) (memory (StructureAt dst))

-- an action's output can be stored: it has a meaning, and a structure that it writes can hold it
abbrev pub IsStorable : Action → Output → Memory → Type 0
IsStorable (MakeBuffer id size content) output memory = Unit {0}
IsStorable (MakeStructure id form) output memory = Unit {0}
IsStorable (DestroyBuffer id) output memory = Unit {0}
IsStorable (DestroyStructure id) output memory = Unit {0}
IsStorable (ShowSizes kind counts) output memory = Unit {0}
IsStorable (ShowBytes from form) output memory = Unit {0}
IsStorable (UpdateBytes to content) output memory = Unit {0}
IsStorable (FillBytes to value) output memory = Unit {0}
IsStorable (CopyBytes from to) output memory = Unit {0}
IsStorable (BuildBottom build flags geometries) output memory = CanHold build.dst output memory
IsStorable (UpdateBottom build src geometries) output memory = CanHold build.dst output memory
IsStorable (BuildTop build flags uses instances) output memory = CanHold build.dst output memory
IsStorable (UpdateTop build src uses instances) output memory = CanHold build.dst output memory
IsStorable (CopyStructure mode src dst) output memory = CanHold dst output memory
IsStorable (SerializeStructure src to form) output memory = Unit {0}
IsStorable (DeserializeStructure from dst uses) output memory = CanHold dst output memory
IsStorable (TellProperty what structures to) output memory = Unit {0}
IsStorable (TraceRays trace) output memory = Unit {0}
IsStorable Rest output memory = Unit {0}
IsStorable Impossible output memory = ⊥

-- the same of part k of a command
abbrev pub CanHoldIn : Option Info → Output → Memory → Type 0
CanHoldIn None output memory = Unit {0}
CanHoldIn (Some info) output memory = CanHold info.dst output memory

abbrev pub CanStore : Command → ℕ → Output → Memory → Type 0
CanStore (commands.Build infos) k output memory = CanHoldIn (slice_get infos k) output memory
CanStore (commands.CopyStructure mode src dst) k output memory = CanHold dst output memory
CanStore (commands.Deserialize src dst uses) k output memory = CanHold dst output memory
CanStore _ k output memory = Unit {0}

-- ---- what it leaves

-- the memory with these bytes in a range, with a word again and again in it, with an output in it, and with
-- what a structure holds
abbrev pub put_content : ByteRange → List ℕ → Memory → Memory
put_content to content memory l = if is_in_range to l then stored to.from content l (memory l) else memory l

abbrev pub put_fill : ByteRange → ℕ → Memory → Memory
put_fill to value memory l = if is_in_range to l then filled to.from value l (memory l) else memory l

abbrev pub put_bytes : ByteRange → Output → Memory → Memory
put_bytes to output memory l = if is_in_range to l then bytes_left to.from output l (memory l) else memory l

abbrev pub put_contents : ℕ → Output → Memory → Memory
put_contents dst output memory l = if is_contents_of dst l then contents_left output l (memory l) else memory l

-- where a region is written, the numbers that are asked of structures, and the hits of piece k of a trace
abbrev pub region_range : ℕ → Region → ByteRange
region_range dst region = range dst region.dst_offset region.size

abbrev pub property_range : Spot → List ℕ → ByteRange
property_range dst structures = range dst.buffer dst.offset (8 * length structures)

-- the memory with what is given of a region, and of an info
abbrev pub put_region : ℕ → Option Region → Output → Memory → Memory
put_region dst None output memory l = memory l
put_region dst (Some region) output memory l = put_bytes (region_range dst region) output memory l

abbrev pub put_info : Option Info → Output → Memory → Memory
put_info None output memory l = memory l
put_info (Some info) output memory l = put_contents info.dst output memory l

-- the memory once part k of a device command is stored
unfoldable pub put_part : Command → ℕ → Output → Memory → Memory
put_part (commands.Update buffer offset content) k output memory l = put_content (range buffer offset (length content)) content memory l
put_part (commands.Fill buffer offset size value) k output memory l = put_fill (range buffer offset size) value memory l
put_part (commands.Copy src dst regions) k output memory l = put_region dst (slice_get regions k) output memory l
put_part (commands.Build infos) k output memory l = put_info (slice_get infos k) output memory l
put_part (commands.CopyStructure mode src dst) k output memory l = put_contents dst output memory l
put_part (commands.Serialize src dst form) k output memory l = put_bytes (stretch_range dst) output memory l
put_part (commands.Deserialize src dst uses) k output memory l = put_contents dst output memory l
put_part (commands.Property what structures dst) k output memory l = put_bytes (property_range dst structures) output memory l
put_part (commands.Trace top rays count hits flags mask script) k output memory l = put_bytes (hits_range hits count k) output memory l
put_part _ k output memory l = memory l
