-- A barrier that mends what is missing between two commands, and that it does. (Own; the barrier is
-- vkCmdPipelineBarrier2 with one memory barrier.)
use Rattle.std.specs.Prelude.{ℕ, ◌≡◌, ◌<◌, ◌≤◌, ◌+◌, ◌++◌, ◌∷◌, List, Option, None, true, length, take, drop}
use Rattle.ray_cmd.specs.declared.command.Command.{Command}
use Rattle.ray_cmd.specs.declared.command.Command.TheVariants as commands
use Rattle.ray_flags.specs.declared.access.Access.{Access}
use Rattle.ray_flags.specs.declared.stages.Stages.{Stages}
use Rattle.ray_flags.specs.Flags.{access_bits, stage_bits}
use Rattle.ray_flags.specs.Flags as flags
use Rattle.ray_rules.specs.declared.access_type.AccessType.{AccessType}
use Rattle.ray_rules.specs.declared.access_type.AccessType.TheVariants.{TransferRead, TransferWrite, ShaderRead, ShaderWrite, StructureRead, StructureWrite, HostRead, HostWrite}
use Rattle.ray_rules.specs.declared.stage.Stage.{Stage}
use Rattle.ray_rules.specs.declared.stage.Stage.TheVariants.{Transfer, Build, StructureCopy, Compute, Host}
use Rattle.ray_rules.specs.Order.{is_covered, is_ordered_to}
use Rattle.ray_clash.specs.declared.clash.Side.{Side}

-- the set of one stage, and of one access
abbrev pub only_stage : Stage → Stages
only_stage Transfer = record { 0 = stage_bits flags.Transfer }
only_stage Build = record { 0 = stage_bits flags.Build }
only_stage StructureCopy = record { 0 = stage_bits flags.StructureCopy }
only_stage Compute = record { 0 = stage_bits flags.Compute }
only_stage Host = record { 0 = stage_bits flags.Host }

abbrev pub only_access : AccessType → Access
only_access TransferRead = record { 0 = access_bits flags.TransferRead }
only_access TransferWrite = record { 0 = access_bits flags.TransferWrite }
only_access ShaderRead = record { 0 = access_bits flags.ShaderRead }
only_access ShaderWrite = record { 0 = access_bits flags.ShaderWrite }
only_access StructureRead = record { 0 = access_bits flags.StructureRead }
only_access StructureWrite = record { 0 = access_bits flags.StructureWrite }
only_access HostRead = record { 0 = access_bits flags.HostRead }
only_access HostWrite = record { 0 = access_bits flags.HostWrite }

-- the barrier from one access to another, of all memory
abbrev pub barrier_between : Side → Side → Command
barrier_between from to =
    commands.Barrier (only_stage from.stage) (only_access from.access) (only_stage to.stage) (only_access to.access) None

-- a recording with a command put in right before command number p
abbrev pub with_command : List Command → ℕ → Command → List Command
with_command rec p c = take p rec ++ c ∷ drop p rec

-- the law: once the barrier from one access to another is put in behind command number i and not behind
-- command number j, which is number j + 1 then, what command number i wrote so is covered to the other
-- access there, whatever the thing, and it is ordered before its stage
abbrev pub BarrierMends : Type 0
BarrierMends =
    (rec : List Command) (i j p : ℕ) (from to : Side) (thing : Option ℕ) → i < p → p ≤ j → p ≤ length rec
    → (is_covered (with_command rec p (barrier_between from to)) i from.stage from.access thing (j + 1) to.stage to.access ≡ true)
    × (is_ordered_to (with_command rec p (barrier_between from to)) i from.stage (j + 1) to.stage ≡ true)
