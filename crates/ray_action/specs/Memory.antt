-- The device's memory: a function from locations to what they hold. (Own; after the bytes of VkBuffer
-- and the contents of VkAccelerationStructureKHR in Vulkan.)
use Rattle.std.specs.Prelude.{ℕ, zero, suc, ◌+◌, List, [], ◌∷◌, Option, Some, None}
use Rattle.std.specs.Option.{option_map}
use Rattle.ray_geom.specs.Boxes.{BoxValue}
use Rattle.ray_cmd.specs.declared.structure_kind.StructureKind.{StructureKind}
use Rattle.ray_cmd.specs.declared.structure_kind.StructureKind.TheVariants as kinds
use Rattle.ray_rules.specs.declared.byte_range.ByteRange.{ByteRange}
use Rattle.ray_geometries.specs.Contents as bottoms
use Rattle.ray_top.specs.Contents as tops
use Rattle.ray_action.specs.declared.form.Form.{Form}

-- what a built structure holds. What rules ask of it besides (which info built it, whether it came by
-- `deserialize`, its stamp) stands in the status of ray_rules alone
pub data Contents : Type 0 where
  Bottom : (bottom : bottoms.ContentsValue) → Contents
  Top : (top : tops.TopValue) → Contents

-- a place that an action may read or write: a byte of a buffer, whether a buffer is live, whether a
-- structure is live, and what it holds
pub data Location : Type 0 where
  ByteAt : (buffer at : ℕ) → Location
  BufferAt : (id : ℕ) → Location
  StructureAt : (id : ℕ) → Location
  ContentsAt : (id : ℕ) → Location

-- what a location holds: a byte of a live buffer, the size of a live buffer, what a live structure is,
-- the contents of a built one
abbrev pub Held : Location → Type 0
Held (ByteAt buffer at) = Option ℕ
Held (BufferAt id) = Option ℕ
Held (StructureAt id) = Option Form
Held (ContentsAt id) = Option Contents

-- a memory: what each location holds
abbrev pub Memory : Type 0
Memory = (l : Location) → Held l

-- the memory in which nothing is live
abbrev pub nothing_live : Memory
nothing_live (ByteAt buffer at) = None
nothing_live (BufferAt id) = None
nothing_live (StructureAt id) = None
nothing_live (ContentsAt id) = None

-- a number, and those that follow it: none where one is missing
abbrev pub number_before : Option ℕ → Option (List ℕ) → Option (List ℕ)
number_before None rest = None
number_before (Some number) rest = option_map (λ numbers. number ∷ numbers) rest

-- so many bytes of a buffer from a place on: none where one is missing
unfoldable pub bytes_from : Memory → ℕ → ℕ → ℕ → Option (List ℕ)
bytes_from memory buffer from zero = Some []
bytes_from memory buffer from (suc n) =
    number_before (memory (ByteAt buffer from)) (bytes_from memory buffer (from + 1) n)

-- the bytes of a range: none where one is missing
abbrev pub bytes_at : Memory → ByteRange → Option (List ℕ)
bytes_at memory r = bytes_from memory r.buffer r.from r.size

-- what the kind of contents is
abbrev pub kind_of : Contents → StructureKind
kind_of (Bottom bottom) = kinds.Bottom
kind_of (Top top) = kinds.Top

-- the bottom structure that contents are, and the top structure
abbrev pub as_bottom : Contents → Option bottoms.ContentsValue
as_bottom (Bottom bottom) = Some bottom
as_bottom (Top top) = None

abbrev pub as_top : Contents → Option tops.TopValue
as_top (Bottom bottom) = None
as_top (Top top) = Some top

-- the bounds of the active primitives of a bottom structure, if it has any
abbrev pub bounds_of : Contents → Option BoxValue
bounds_of (Bottom bottom) = bottoms.bounds_of bottom.geometries
bounds_of (Top top) = None
