-- What a trace reads of a memory. (SPV_KHR_ray_query: what a query is initialized with.)
use Rattle.std.specs.Prelude.{ℕ, ◌*◌, List, Option, Some, None, option_and_then, option_map}
use Rattle.ray_geom.specs.Scene.{RayValue}
use Rattle.ray_bytes.specs.Records.{ray_of}
use Rattle.ray_bytes.specs.Slices.{record_at}
use Rattle.ray_bytes.specs.Views.{Row}
use Rattle.ray_top.specs.Contents.{TopValue}
use Rattle.ray_top.specs.Trees.{without_tree}
use Rattle.ray_candidates.specs.Candidates.{Structures}
use Rattle.ray_candidates.specs.Standing.{structures_in}
use Rattle.ray_cmd.specs.declared.command.Command.{Command}
use Rattle.ray_cmd.specs.declared.command.Command.TheVariants as commands
use Rattle.ray_cmd.specs.declared.spot.Spot.{Spot}
use Rattle.ray_rules.specs.declared.byte_range.ByteRange.{ByteRange}
use Rattle.ray_rules.specs.Ranges.{range}
use Rattle.ray_action.specs.Memory.{Memory, ContentsAt, as_top, bytes_at}
use Rattle.ray_action.specs.Outcomes.{ray_within}
use Rattle.ray_action.specs.Traceable.{bottoms_of}
use Rattle.ray_memory.specs.declared.tracing.TraceInputs.{TraceInputs}

-- the top structure that a trace reads, the bottom structures by their ids, and the row of its rays, 40 bytes each
pub record TraceSeen : Type 0 where
  pub top : TopValue
  pub bottoms : Structures
  pub rays : Row

-- where all rays of a trace stand
abbrev pub all_rays : Spot → ℕ → ByteRange
all_rays rays count = range rays.buffer rays.offset (40 * count)

-- bytes as a row of rays from the first on
abbrev pub row_of : List ℕ → Row
row_of bytes = record { bytes = bytes; start = 0 }

-- what is read, where the top structure and the bytes of the rays are there
abbrev pub seen_from : Structures → Option TopValue → Option (List ℕ) → Option TraceSeen
seen_from bottoms None rays = None
seen_from bottoms (Some top) rays = option_map (λ bytes. record { top = top; bottoms = bottoms; rays = row_of bytes }) rays

-- what a command that is a trace reads of a memory
abbrev pub seen_of : Memory → Command → Option TraceSeen
seen_of memory (commands.Trace top rays count hits flags mask script) =
    seen_from (bottoms_of memory) (option_and_then as_top (memory (ContentsAt top))) (bytes_at memory (all_rays rays count))
seen_of memory _ = None

-- what the program lends for it
abbrev pub lent : TraceInputs → TraceSeen
lent t = record { top = without_tree t.top.now; bottoms = structures_in t.bottoms.now; rays = t.rays }

-- ray k of a row, where it is whole and within the limits of rays
abbrev pub ray_at : Row → ℕ → Option RayValue
ray_at row k = option_and_then ray_within (option_map ray_of (record_at row.bytes row.start 40 40 k))
