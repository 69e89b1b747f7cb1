-- The order that barriers and waits give: which stages a command is ordered before, and to which
-- accesses its writes are covered. Definitions look at one command and those after it, and at pairs.
-- (Vulkan: execution and memory dependencies and their chains, and buffer memory barriers; own: how
-- chains are formed, what an empty set of stages or accesses carries, and that a limit is to whole
-- buffers.)
use Rattle.std.specs.Prelude.{ℕ, zero, suc, ◌+◌, ◌≡◌, ◌≤◌, List, Option, Some, None, Bool, true, false, ◌&&◌, ◌||◌, nat_lt, slice_get, if◌then◌else◌}
use Rattle.std.specs.List.{list_any}
use Rattle.std.specs.Option.{option_map_or}
use Rattle.ray_cmd.specs.declared.command.Command.{Command}
use Rattle.ray_cmd.specs.declared.command.Command.TheVariants as commands
use Rattle.ray_flags.specs.declared.access.Access.{Access}
use Rattle.ray_flags.specs.declared.stages.Stages.{Stages}
use Rattle.ray_flags.specs.Flags.{access_has, stages_have}
use Rattle.ray_flags.specs.Flags as flags
use Rattle.ray_rules.specs.declared.access_type.AccessType.{AccessType}
use Rattle.ray_rules.specs.declared.access_type.AccessType.TheVariants.{TransferRead, TransferWrite, ShaderRead, ShaderWrite, StructureRead, StructureWrite, HostRead, HostWrite}
use Rattle.ray_rules.specs.declared.kind.Kind.{Kind}
use Rattle.ray_rules.specs.declared.kind.Kind.TheVariants.{Device, Barrier, HostCommand}
use Rattle.ray_rules.specs.declared.stage.Stage.{Stage}
use Rattle.ray_rules.specs.declared.stage.Stage.TheVariants.{Transfer, Build, StructureCopy, Compute, Host}
use Rattle.ray_rules.specs.Kinds.{kind_of}
use Rattle.ray_rules.specs.Makers.{is_one, maker_of_buffer}
use Rattle.ray_rules.specs.Status.{Status, status_at}

-- whether a set of stages of a barrier holds a stage. `all` holds the four of the device
abbrev pub holds_stage : Stages → Stage → Bool
holds_stage stages Transfer = stages_have stages flags.Transfer
holds_stage stages Build = stages_have stages flags.Build
holds_stage stages StructureCopy = stages_have stages flags.StructureCopy
holds_stage stages Compute = stages_have stages flags.Compute
holds_stage stages Host = stages_have stages flags.Host

-- whether a set of accesses of a barrier holds an access. `memory_read` holds every read, and
-- `memory_write` every write
abbrev pub holds_access : Access → AccessType → Bool
holds_access access TransferRead = access_has access flags.TransferRead || access_has access flags.MemoryRead
holds_access access TransferWrite = access_has access flags.TransferWrite || access_has access flags.MemoryWrite
holds_access access ShaderRead = access_has access flags.ShaderRead || access_has access flags.MemoryRead
holds_access access ShaderWrite = access_has access flags.ShaderWrite || access_has access flags.MemoryWrite
holds_access access StructureRead = access_has access flags.StructureRead || access_has access flags.MemoryRead
holds_access access StructureWrite = access_has access flags.StructureWrite || access_has access flags.MemoryWrite
holds_access access HostRead = access_has access flags.HostRead || access_has access flags.MemoryRead
holds_access access HostWrite = access_has access flags.HostWrite || access_has access flags.MemoryWrite

-- whether a stage is one of the device
abbrev pub is_device : Stage → Bool
is_device Transfer = true
is_device Build = true
is_device StructureCopy = true
is_device Compute = true
is_device Host = false

-- how far what a command did has been handed on: the stages, and the pairs of stage and access to
-- which what it wrote has been made visible
pub record Handed : Type 0 where
  pub stages : Stage → Bool
  pub pairs : Stage → AccessType → Bool

-- not at all
abbrev pub not_handed : Handed
not_handed = record { stages = λ s. false; pairs = λ s x. false }

-- whether some stage is both in a set of stages of a barrier and among those reached
abbrev pub meets_stages : Stages → (Stage → Bool) → Bool
meets_stages stages reached =
    (holds_stage stages Transfer && reached Transfer)
    || ((holds_stage stages Build && reached Build)
    || ((holds_stage stages StructureCopy && reached StructureCopy)
    || ((holds_stage stages Compute && reached Compute) || (holds_stage stages Host && reached Host))))

-- handed on once more to the destination of a barrier, where its source takes it up
abbrev pub handed_on : Bool → Stages → Access → Handed → Handed
handed_on taken dst_stages dst_access z = record {
  stages = λ s. z.stages s || (taken && holds_stage dst_stages s);
  pairs = λ s x. z.pairs s x || (taken && (holds_stage dst_stages s && holds_access dst_access x));
}

-- handed on to all that the device does later: a wait adds nothing for the host
abbrev pub handed_to_device : Handed → Handed
handed_to_device z = record { stages = λ s. z.stages s || is_device s; pairs = λ s x. z.pairs s x || is_device s }

-- how far it has been handed on after one more command. `takes` says of a barrier's source whether it
-- takes the command up directly; it also takes up what has reached one of its source stages
abbrev pub handed_after : (Stages → Access → Bool) → Command → Handed → Handed
handed_after takes (commands.Barrier src_stages src_access dst_stages dst_access buffers) z =
    handed_on (takes src_stages src_access || meets_stages src_stages z.stages) dst_stages dst_access z
handed_after takes commands.Wait z = handed_to_device z
handed_after takes _ z = z

-- the same where there is a command
abbrev pub handed_after_if : (Stages → Access → Bool) → Option Command → Handed → Handed
handed_after_if takes None z = z
handed_after_if takes (Some c) z = handed_after takes c z

-- how far command number i has been handed on where command number n stands, by the commands after it
-- that act
abbrev pub handed_at : (Stages → Access → Bool) → (ℕ → Bool) → List Command → ℕ → ℕ → Handed
handed_at takes acts rec i zero = not_handed
handed_at takes acts rec i (suc n) =
    if nat_lt i n then
    (if acts n then handed_after_if takes (slice_get rec n) (handed_at takes acts rec i n)
    else handed_at takes acts rec i n)
    else not_handed

-- whether a barrier that is limited to buffers where these are named reaches a thing where a status
-- stands. A thing is a buffer, told by the command that made it, or a structure, which is none
abbrev pub reaches : Status → Option (List ℕ) → Option ℕ → Bool
reaches z None thing = true
reaches z (Some ids) thing = list_any (λ id. is_one (maker_of_buffer z id) thing) ids

-- whether the memory part of a command acts on a thing: that of a barrier where it reaches the thing
abbrev pub acts_on : Option ℕ → Status → Command → Bool
acts_on thing z (commands.Barrier src_stages src_access dst_stages dst_access buffers) = reaches z buffers thing
acts_on thing z _ = true

-- the same of command number n
abbrev pub acts_at : List Command → Option ℕ → ℕ → Bool
acts_at rec thing n = option_map_or (acts_on thing (status_at rec n)) (slice_get rec n) true

-- the execution part of a barrier acts always
abbrev pub always : ℕ → Bool
always n = true

-- a barrier takes up what a command of a stage did, where its source holds the stage
abbrev pub takes_stage : Stage → Stages → Access → Bool
takes_stage stage src_stages src_access = holds_stage src_stages stage

-- a barrier takes up what a command of a stage wrote with an access, where its source holds both
abbrev pub takes_write : Stage → AccessType → Stages → Access → Bool
takes_write stage access src_stages src_access = holds_stage src_stages stage && holds_access src_access access

-- whether device command number i, of a stage, is ordered before what command number j does at a
-- stage
abbrev pub is_ordered_to : List Command → ℕ → Stage → ℕ → Stage → Bool
is_ordered_to rec i stage j to = (handed_at (takes_stage stage) always rec i j).stages to

-- whether what device command number i, of a stage, wrote to a thing with an access is covered to an
-- access at a stage where command number j stands
abbrev pub is_covered : List Command → ℕ → Stage → AccessType → Option ℕ → ℕ → Stage → AccessType → Bool
is_covered rec i stage access thing j to x =
    (handed_at (takes_write stage access) (acts_at rec thing) rec i j).pairs to x

-- an order of commands: which device commands, each of a stage, are ordered before what later ones do
-- at a stage, and which writes of theirs to a thing with an access are covered to an access there
pub record Ordering : Type 0 where
  pub ordered : ℕ → Stage → ℕ → Stage → Bool
  pub covered : ℕ → Stage → AccessType → Option ℕ → ℕ → Stage → AccessType → Bool

-- the order of the commands of a recording on one queue, by its barriers and waits
abbrev pub barriers : List Command → Ordering
barriers rec = record { ordered = is_ordered_to rec; covered = is_covered rec }

-- whether a command is a `wait`
abbrev pub is_wait : Option Command → Bool
is_wait (Some commands.Wait) = true
is_wait _ = false

-- the number of the last `wait` before command number n, 0 where there is none
abbrev pub last_wait : List Command → ℕ → ℕ
last_wait rec zero = 0
last_wait rec (suc n) = if is_wait (slice_get rec n) then n else last_wait rec n

-- the kind of command number i: that of a host command where there is none
abbrev pub kind_at : List Command → ℕ → Kind
kind_at rec i = option_map_or kind_of (slice_get rec i) HostCommand

-- whether an earlier device command or barrier is ordered before a command of a kind: before a device
-- command by what is handed on, before no barrier, before a host command by a wait between
abbrev pub device_before : List Command → ℕ → ℕ → Kind → (Stage → Bool) → Bool
device_before rec i j (Device stage) reached = reached stage
device_before rec i j Barrier reached = false
device_before rec i j HostCommand reached = nat_lt i (last_wait rec j)

-- whether earlier command number i of a kind is ordered before command number j of a kind. A barrier
-- comes before host commands as any device command, and has no stage by which it would come before
-- others; a host command comes before all
abbrev pub kind_before : Ordering → List Command → ℕ → ℕ → Kind → Kind → Bool
kind_before order rec i j (Device stage) kind = device_before rec i j kind (λ to. order.ordered i stage j to)
kind_before order rec i j Barrier kind = device_before rec i j kind (λ to. false)
kind_before order rec i j HostCommand kind = true

-- whether command number i is ordered before command number j
abbrev pub before : Ordering → List Command → ℕ → ℕ → Bool
before order rec i j = nat_lt i j && kind_before order rec i j (kind_at rec i) (kind_at rec j)

-- a chain of commands, each ordered before the next, of so many steps that ends at a command
pub data Chain (order : ℕ → ℕ → Bool) : ℕ → ℕ → Type 0 where
  alone : (i : ℕ) → Chain order i 0
  longer : (i j n : ℕ) → Chain order i n → order i j ≡ true → Chain order j (n + 1)

-- the longest chain that ends at a command has so many steps
pub record IsLongest (order : ℕ → ℕ → Bool) (i : ℕ) (wave : ℕ) : Type 0 where
  pub there : Chain order i wave
  pub most : (n : ℕ) → Chain order i n → n ≤ wave
