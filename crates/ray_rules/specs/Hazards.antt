-- Rules on what commands read and write without an order between them. (Vulkan, "Synchronization and
-- Cache Control": memory hazards; own: the ranges, and that every such pair is refused.)
use Rattle.std.specs.Prelude.{ℕ, zero, suc, List, [], Option, Some, None, Bool, false, ◌&&◌, not, slice_get, if◌then◌else◌, option_map}
use Rattle.std.specs.List.{list_any}
use Rattle.std.specs.Option.{option_map_or}
use Rattle.ray_cmd.specs.declared.command.Command.{Command}
use Rattle.ray_cmd.specs.declared.place.Place.{Place}
use Rattle.ray_cmd.specs.declared.place.Place.TheVariants.{Earlier}
use Rattle.ray_ranges.specs.declared.range.Range.{Range}
use Rattle.ray_ranges.specs.Meeting.{meets}
use Rattle.ray_ranges.specs.Places.{bytes_of}
use Rattle.ray_rules.specs.declared.byte_range.ByteRange.{ByteRange}
use Rattle.ray_rules.specs.declared.reach.Reach.{Reach}
use Rattle.ray_rules.specs.declared.reach.Reach.TheVariants.{Bytes, Structure, Scratch}
use Rattle.ray_rules.specs.declared.stage.Stage.{Stage}
use Rattle.ray_rules.specs.declared.stage.Stage.TheVariants.{Host}
use Rattle.ray_rules.specs.declared.touch.Touch.{Touch}
use Rattle.ray_rules.specs.Access.{Accesses, accesses_of, host_reads, no_access, stage_of}
use Rattle.ray_rules.specs.Makers.{buffer_of}
pub use Rattle.ray_rules.specs.Makers.{is_one, maker_of_buffer, maker_of_structure}
use Rattle.ray_rules.specs.Order.{Ordering}
use Rattle.ray_rules.specs.Ranges.{place_of}
use Rattle.ray_rules.specs.Status.{Status}
pub use Rattle.ray_rules.specs.Status.{after_if, status_at}

-- what command number i reads and writes
abbrev pub accesses_at : List Command → ℕ → Accesses
accesses_at rec i = option_map_or (accesses_of rec (status_at rec i)) (slice_get rec i) no_access

-- the stage of command number i
abbrev pub stage_at : List Command → ℕ → Option Stage
stage_at rec i = option_map_or stage_of (slice_get rec i) None

-- the bytes of a range, by their numbers in its buffer
abbrev pub bytes_in : ByteRange → Range
bytes_in r = bytes_of (place_of r)

-- whether what is reached where one status stands shares something with what is reached where another
-- does: bytes of one buffer, or one structure
abbrev pub shares : Status → Status → Reach → Reach → Bool
shares z w (Bytes r) (Bytes s) =
    is_one (maker_of_buffer z r.buffer) (maker_of_buffer w s.buffer) && meets (bytes_in r) (bytes_in s)
shares z w (Structure a) (Structure b) = is_one (maker_of_structure z a) (maker_of_structure w b)
shares z w (Scratch r) (Scratch s) =
    is_one (maker_of_buffer z r.buffer) (maker_of_buffer w s.buffer) && meets (bytes_in r) (bytes_in s)
shares z w _ _ = false

-- whether a touch by command number i shares something with one by command number j
abbrev pub touches_share : List Command → ℕ → ℕ → Touch → Touch → Bool
touches_share rec i j one other = shares (status_at rec i) (status_at rec j) one.reach other.reach

-- whether a write by command number i, of a stage, meets a touch at a stage by command number j, and
-- isn't covered to it
abbrev pub is_uncovered : Ordering → List Command → ℕ → Stage → ℕ → Stage → Touch → Touch → Bool
is_uncovered order rec i stage j to touch write =
    touches_share rec i j write touch
    && not (order.covered i stage write.access (buffer_of (status_at rec i) write.reach) j to touch.access)

-- whether command number i wrote what a touch at a stage by command number j meets, not covered
abbrev pub wrote_uncovered : Ordering → List Command → ℕ → Stage → Touch → ℕ → Bool
wrote_uncovered order rec j to touch i =
    option_map_or (λ stage. list_any (is_uncovered order rec i stage j to touch) (accesses_at rec i).writes)
    (stage_at rec i) false

-- whether command number i read what a write at a stage by command number j meets, not ordered
abbrev pub read_unordered : Ordering → List Command → ℕ → Stage → Touch → ℕ → Bool
read_unordered order rec j to touch i =
    option_map_or (λ stage. not (order.ordered i stage j to) && list_any (λ r. touches_share rec i j r touch) (accesses_at rec i).reads)
    (stage_at rec i) false

-- the greatest number below n that passes
abbrev pub greatest : (ℕ → Bool) → ℕ → Option ℕ
greatest test zero = None
greatest test (suc n) = if test n then Some n else greatest test n

-- the greatest earlier command that is at odds with one of these touches by command number j
abbrev pub greatest_with : (Touch → ℕ → Bool) → List Touch → ℕ → Option Place
greatest_with odds touches j = option_map Earlier (greatest (λ i. list_any (λ t. odds t i) touches) j)

-- V25: the command reads what an earlier one wrote, not covered
unfoldable pub v25 : Ordering → List Command → ℕ → Option Place
v25 order rec j = option_map_or (λ to. greatest_with (wrote_uncovered order rec j to) (accesses_at rec j).reads j) (stage_at rec j) None

-- V26: the command writes what an earlier one wrote, not covered
unfoldable pub v26 : Ordering → List Command → ℕ → Option Place
v26 order rec j = option_map_or (λ to. greatest_with (wrote_uncovered order rec j to) (accesses_at rec j).writes j) (stage_at rec j) None

-- V27: the command writes what an earlier one read, not ordered
unfoldable pub v27 : Ordering → List Command → ℕ → Option Place
v27 order rec j = option_map_or (λ to. greatest_with (read_unordered order rec j to) (accesses_at rec j).writes j) (stage_at rec j) None

-- V32: `read` of bytes that an earlier command wrote, not covered to (`host`, `host_read`)
unfoldable pub v32 : Ordering → List Command → ℕ → Option Place
v32 order rec j = greatest_with (wrote_uncovered order rec j Host) (option_map_or host_reads (slice_get rec j) []) j
