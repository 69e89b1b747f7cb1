-- How hazards are kept: for each way of writing the last command of each cell that wrote so, and for
-- each stage the last command that read each cell. (Own.)
use Rattle.std.specs.Prelude.{◌≡◌, ◌≤◌, ◌<◌, ◌⊎◌, ℕ, suc, nat_lt, List, Option, Some, None, length}
use Rattle.ray_marks.specs.Rising.{mark_of}
use Rattle.ray_rules.specs.declared.access_type.AccessType.{AccessType}
use Rattle.ray_rules.specs.declared.access_type.AccessType.TheVariants.{TransferWrite, StructureWrite, ShaderWrite}
use Rattle.ray_rules.specs.declared.stage.Stage.{Stage}
use Rattle.ray_rules.specs.declared.stage.Stage.TheVariants.{Transfer, Build, StructureCopy, Compute}
use Rattle.ray_hazards.specs.declared.lanes.Lanes.{Lanes}
use Rattle.ray_access.specs.declared.touched.Touched.{Touched}
use Rattle.ray_access.specs.declared.touches.Touches.{Touches}
use Rattle.ray_hazards.specs.Cells.{cell_of}
use Rattle.ray_hazards.specs.declared.limits.Accessed.{Accessed}
use Rattle.ray_hazards.specs.declared.limits.PerStage.{PerStage}
use Rattle.ray_hazards.specs.declared.limits.PerWay.{PerWay}
use Rattle.ray_hazards.specs.Counting.{Counted, stage_in}
use Rattle.ray_hazards.specs.Reaching.{ReachSame}
use Rattle.ray_hazards.specs.Lasts.{IsLast, ReadCell, UncoveredIn, UnorderedIn, WroteCell, reads_at, writes_at}

-- marks of cells are the last writes by commands of a stage with an access, below command number n
pub record AreWrites (counted : Counted) (starts : List ℕ) (stage : Stage) (access : AccessType) (n : ℕ) (marks : List ℕ) : Type 0 where
  pub cells : length marks ≡ length starts
  pub last : (c : ℕ) → IsLast (WroteCell counted starts stage access c) n (mark_of marks c)

-- and the last reads by commands of a stage
pub record AreReads (counted : Counted) (starts : List ℕ) (stage : Stage) (n : ℕ) (marks : List ℕ) : Type 0 where
  pub cells : length marks ≡ length starts
  pub last : (c : ℕ) → IsLast (ReadCell counted starts stage c) n (mark_of marks c)

-- those of all lanes where command number n stands: there are six ways of writing
pub record AreLanes (counted : Counted) (starts : List ℕ) (n : ℕ) (lanes : Lanes) : Type 0 where
  pub transfers : AreWrites counted starts Transfer TransferWrite n lanes.transfers
  pub builds : AreWrites counted starts Build StructureWrite n lanes.builds
  pub properties : AreWrites counted starts Build TransferWrite n lanes.properties
  pub copies : AreWrites counted starts StructureCopy StructureWrite n lanes.copies
  pub serialized : AreWrites counted starts StructureCopy TransferWrite n lanes.serialized
  pub traces : AreWrites counted starts Compute ShaderWrite n lanes.traces
  pub transfer_reads : AreReads counted starts Transfer n lanes.transfer_reads
  pub build_reads : AreReads counted starts Build n lanes.build_reads
  pub copy_reads : AreReads counted starts StructureCopy n lanes.copy_reads
  pub trace_reads : AreReads counted starts Compute n lanes.trace_reads

-- what some command wrote to a thing in a range of cells, in whatever way, not covered
abbrev pub AnyUncovered : Counted → List ℕ → Option ℕ → ℕ → Stage → AccessType → ℕ → ℕ → ℕ → Type 0
AnyUncovered counted starts thing n to x p q i =
    ((UncoveredIn counted starts Transfer TransferWrite thing n to x p q i
    ⊎ UncoveredIn counted starts Build StructureWrite thing n to x p q i)
    ⊎ (UncoveredIn counted starts Build TransferWrite thing n to x p q i
    ⊎ UncoveredIn counted starts StructureCopy StructureWrite thing n to x p q i))
    ⊎ (UncoveredIn counted starts StructureCopy TransferWrite thing n to x p q i
    ⊎ UncoveredIn counted starts Compute ShaderWrite thing n to x p q i)

-- what some command read there, not ordered
abbrev pub AnyUnordered : Counted → List ℕ → ℕ → Stage → ℕ → ℕ → ℕ → Type 0
AnyUnordered counted starts n to p q i =
    (UnorderedIn counted starts Transfer n to p q i ⊎ UnorderedIn counted starts Build n to p q i)
    ⊎ (UnorderedIn counted starts StructureCopy n to p q i ⊎ UnorderedIn counted starts Compute n to p q i)

-- a touch at a stage by command number n meets what command number i wrote, not covered; and what it read,
-- not ordered
abbrev pub MeetsUncovered : Counted → List ℕ → ℕ → Stage → Touched → ℕ → Type 0
MeetsUncovered counted starts n to t i =
    AnyUncovered counted starts t.buffer n to t.access (cell_of starts t.range.from) (cell_of starts t.range.end) i

abbrev pub MeetsUnordered : Counted → List ℕ → ℕ → Stage → Touched → ℕ → Type 0
MeetsUnordered counted starts n to t i =
    AnyUnordered counted starts n to (cell_of starts t.range.from) (cell_of starts t.range.end) i

-- lanes have this many cells at least
pub record AreEnough (cells : ℕ) (lanes : Lanes) : Type 0 where
  pub transfers : cells ≤ length lanes.transfers
  pub builds : cells ≤ length lanes.builds
  pub properties : cells ≤ length lanes.properties
  pub copies : cells ≤ length lanes.copies
  pub serialized : cells ≤ length lanes.serialized
  pub traces : cells ≤ length lanes.traces
  pub transfer_reads : cells ≤ length lanes.transfer_reads
  pub build_reads : cells ≤ length lanes.build_reads
  pub copy_reads : cells ≤ length lanes.copy_reads
  pub trace_reads : cells ≤ length lanes.trace_reads

-- what commands of a stage, below a number, wrote with an access is covered to an access where command
-- number n stands, and no more of it
abbrev pub IsCoveredBelow : Counted → ℕ → Accessed → Stage → AccessType → ℕ → Type 0
IsCoveredBelow counted n accessed stage access limit =
    (i : ℕ) → stage_in counted i ≡ Some stage
    → counted.order.covered i stage access accessed.thing n accessed.stage accessed.access ≡ nat_lt i limit

-- the same of each way of writing
pub record AreCoveredBelow (counted : Counted) (n : ℕ) (accessed : Accessed) (limits : PerWay) : Type 0 where
  pub transfers : IsCoveredBelow counted n accessed Transfer TransferWrite limits.transfers
  pub builds : IsCoveredBelow counted n accessed Build StructureWrite limits.builds
  pub properties : IsCoveredBelow counted n accessed Build TransferWrite limits.properties
  pub copies : IsCoveredBelow counted n accessed StructureCopy StructureWrite limits.copies
  pub serialized : IsCoveredBelow counted n accessed StructureCopy TransferWrite limits.serialized
  pub traces : IsCoveredBelow counted n accessed Compute ShaderWrite limits.traces

-- commands of a stage, below a number, are ordered before a stage where command number n stands
abbrev pub IsOrderedBelow : Counted → ℕ → Stage → Stage → ℕ → Type 0
IsOrderedBelow counted n to stage limit =
    (i : ℕ) → stage_in counted i ≡ Some stage → counted.order.ordered i stage n to ≡ nat_lt i limit

-- the same of each stage
pub record AreOrdered (counted : Counted) (n : ℕ) (to : Stage) (limits : PerStage) : Type 0 where
  pub transfers : IsOrderedBelow counted n to Transfer limits.transfer
  pub builds : IsOrderedBelow counted n to Build limits.build
  pub copies : IsOrderedBelow counted n to StructureCopy limits.structure_copy
  pub traces : IsOrderedBelow counted n to Compute limits.compute

-- marks are of so many cells, and at most a number
pub record AreBelow (cells value : ℕ) (marks : List ℕ) : Type 0 where
  pub many : length marks ≡ cells
  pub below : (c : ℕ) → mark_of marks c ≤ value

-- those of all lanes are
pub record LanesBelow (cells value : ℕ) (lanes : Lanes) : Type 0 where
  pub transfers : AreBelow cells value lanes.transfers
  pub builds : AreBelow cells value lanes.builds
  pub properties : AreBelow cells value lanes.properties
  pub copies : AreBelow cells value lanes.copies
  pub serialized : AreBelow cells value lanes.serialized
  pub traces : AreBelow cells value lanes.traces
  pub transfer_reads : AreBelow cells value lanes.transfer_reads
  pub build_reads : AreBelow cells value lanes.build_reads
  pub copy_reads : AreBelow cells value lanes.copy_reads
  pub trace_reads : AreBelow cells value lanes.trace_reads

-- what is marked once command number n, of a stage where it counts, is done
abbrev pub MarksNext : ℕ → Option Stage → Touches → List ℕ → Lanes → Lanes → Type 0
MarksNext n stage touches starts old new =
    (counted : Counted) → stage_in counted n ≡ stage → ReachSame starts (reads_at counted.commands n) touches.reads.items
    → touches.writes.items ≡ writes_at counted.commands n → AreLanes counted starts n old
    → AreLanes counted starts (suc n) new

-- no command below number n counts
abbrev pub NoneCounts : Counted → ℕ → Type 0
NoneCounts counted n = (i : ℕ) → i < n → stage_in counted i ≡ None
