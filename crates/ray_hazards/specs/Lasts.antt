-- The last command of which something is so, and how marks of cells keep it. (Own.)
use Rattle.std.specs.Prelude.{◌≡◌, [], ◌∷◌, ◌<◌, ◌≤◌, ◌⊎◌, ◌&&◌, ℕ, zero, suc, true, false, Bool, List, Option, Some, None, if◌then◌else◌, map, All, slice_get}
use Rattle.std.specs.List.{list_any}
use Rattle.std.specs.Option.{option_map_or}
use Rattle.ray_access.specs.declared.touched.Touched.{Touched}
use Rattle.ray_access.specs.Axis.{TouchFits, touched}
use Rattle.ray_cmd.specs.declared.command.Command.{Command}
use Rattle.ray_rules.specs.declared.access_type.AccessType.{AccessType}
use Rattle.ray_rules.specs.declared.access_type.AccessType.TheVariants.{TransferRead, TransferWrite, ShaderRead, ShaderWrite, StructureRead, StructureWrite, HostRead, HostWrite}
use Rattle.ray_rules.specs.declared.stage.Stage.{Stage}
use Rattle.ray_rules.specs.declared.touch.Touch.{Touch}
use Rattle.ray_rules.specs.Access.{host_reads}
use Rattle.ray_rules.specs.Hazards.{accesses_at, status_at}
use Rattle.ray_hazards.specs.Cells.{has_cell, is_start}
use Rattle.ray_hazards.specs.Counting.{Counted, stage_in}

-- r is one more than the last command below number n of which something is so, and 0 where there is none
pub record IsLast (P : ℕ → Type 0) (n r : ℕ) : Type 0 where
  pub most : (i : ℕ) → i < n → P i → i < r
  pub there : (r ≡ 0) ⊎ ((i : ℕ) × (i < n) × P i × (suc i ≡ r))

-- that command
abbrev pub last_number : ℕ → Option ℕ
last_number zero = None
last_number (suc i) = Some i

-- what command number i reads and writes, with its numbers on the axis; and what it reads on the host
abbrev pub reads_at : List Command → ℕ → List Touched
reads_at rec i = map (touched (status_at rec i)) (accesses_at rec i).reads

abbrev pub writes_at : List Command → ℕ → List Touched
writes_at rec i = map (touched (status_at rec i)) (accesses_at rec i).writes

abbrev pub host_reads_at : List Command → ℕ → List Touch
host_reads_at rec i = option_map_or host_reads (slice_get rec i) []

-- these touches have their numbers within their stretches, and begin at starts
pub record ArePlaced (rec : List Command) (starts : List ℕ) (i : ℕ) (ts : List Touch) : Type 0 where
  pub fit : All TouchFits ts
  pub start : All (λ (t : Touch). is_start starts (touched (status_at rec i) t).range.from ≡ true) ts

-- all touches of the commands below number n are so
pub record HaveStarts (rec : List Command) (starts : List ℕ) (n : ℕ) : Type 0 where
  pub reads : (i : ℕ) → i < n → ArePlaced rec starts i (accesses_at rec i).reads
  pub writes : (i : ℕ) → i < n → ArePlaced rec starts i (accesses_at rec i).writes
  pub host_reads : (i : ℕ) → i < n → ArePlaced rec starts i (host_reads_at rec i)

-- whether two accesses are one
abbrev pub same_access : AccessType → AccessType → Bool
same_access TransferRead TransferRead = true
same_access TransferWrite TransferWrite = true
same_access ShaderRead ShaderRead = true
same_access ShaderWrite ShaderWrite = true
same_access StructureRead StructureRead = true
same_access StructureWrite StructureWrite = true
same_access HostRead HostRead = true
same_access HostWrite HostWrite = true
same_access _ _ = false

-- whether a touch by an access has a cell
abbrev pub is_by : List ℕ → AccessType → ℕ → Touched → Bool
is_by starts access c t = same_access t.access access && has_cell starts t.range c

-- whether a touch has a cell
abbrev pub has_it : List ℕ → ℕ → Touched → Bool
has_it starts c t = has_cell starts t.range c

-- a value in a cell that a test finds, and else what is there
abbrev pub marked_if : (ℕ → Touched → Bool) → List Touched → ℕ → ℕ → ℕ → ℕ
marked_if test ts value old c = if list_any (test c) ts then value else old

-- command number i, of a stage, counts and wrote with an access to a cell; and read a cell
pub record WroteCell (counted : Counted) (starts : List ℕ) (stage : Stage) (access : AccessType) (c i : ℕ) : Type 0 where
  pub by : stage_in counted i ≡ Some stage
  pub touch : list_any (is_by starts access c) (writes_at counted.commands i) ≡ true

pub record ReadCell (counted : Counted) (starts : List ℕ) (stage : Stage) (c i : ℕ) : Type 0 where
  pub by : stage_in counted i ≡ Some stage
  pub touch : list_any (has_it starts c) (reads_at counted.commands i) ≡ true

-- what commands of a stage wrote with an access to a thing, and no covering has reached an access at a
-- stage where command number n stands, in cells from p on and below q
pub record UncoveredIn (counted : Counted) (starts : List ℕ) (stage : Stage) (access : AccessType) (thing : Option ℕ) (n : ℕ) (to : Stage) (x : AccessType) (p q i : ℕ) : Type 0 where
  pub cell : (c : ℕ) × (p ≤ c) × (c < q) × WroteCell counted starts stage access c i
  pub uncovered : counted.order.covered i stage access thing n to x ≡ false

-- what commands of a stage read, and what isn't ordered before a stage where command number n stands
pub record UnorderedIn (counted : Counted) (starts : List ℕ) (stage : Stage) (n : ℕ) (to : Stage) (p q i : ℕ) : Type 0 where
  pub cell : (c : ℕ) × (p ≤ c) × (c < q) × ReadCell counted starts stage c i
  pub unordered : counted.order.ordered i stage n to ≡ false

-- something is so of one of these touches
abbrev pub AnyOf : (Touched → Type 0) → List Touched → Type 0
AnyOf P [] = ⊥
AnyOf P (t ∷ ts) = P t ⊎ AnyOf P ts
