-- How the order is kept, which the definitions know nothing of: of the commands of one stage, what has
-- reached a stage is what those below one number did. (Own.)
use Rattle.std.specs.Prelude.{◌≡◌, ◌≤◌, ℕ, Bool, ◌||◌, max, nat_lt, if◌then◌else◌, List}
use Rattle.ray_cmd.specs.declared.command.Command.{Command}
use Rattle.ray_cmd.specs.declared.command.Command.TheVariants as commands
use Rattle.ray_flags.specs.declared.stages.Stages.{Stages}
use Rattle.ray_flags.specs.Flags.{has_bits}
use Rattle.ray_rules.specs.declared.stage.Stage.{Stage}
use Rattle.ray_rules.specs.declared.stage.Stage.TheVariants.{Transfer, Build, StructureCopy, Compute, Host}
use Rattle.ray_rules.specs.Order.{always, holds_stage, handed_at, takes_stage}
use Rattle.ray_sync.specs.declared.front.Front.{Front}

-- whether a set of accesses has these bits, or those of every read, or of every write
abbrev pub has_or_all_reads : ℕ → ℕ → Bool
has_or_all_reads set bits = has_bits set bits || has_bits set 256

abbrev pub has_or_all_writes : ℕ → ℕ → Bool
has_or_all_writes set bits = has_bits set bits || has_bits set 512

-- nothing is handed on
abbrev pub no_front : Front
no_front = record { transfer = 0; build = 0; structure_copy = 0; compute = 0; host = 0 }

-- the number at a stage
abbrev pub front_at : Front → Stage → ℕ
front_at front Transfer = front.transfer
front_at front Build = front.build
front_at front StructureCopy = front.structure_copy
front_at front Compute = front.compute
front_at front Host = front.host

-- a number where the stages hold this one, and else 0
abbrev pub held : Stages → Stage → ℕ → ℕ
held stages stage number = if holds_stage stages stage then number else 0

-- the greatest number at one of these stages
abbrev pub met : Stages → Front → ℕ
met stages front =
    max (held stages Transfer front.transfer)
    (max (held stages Build front.build)
    (max (held stages StructureCopy front.structure_copy)
    (max (held stages Compute front.compute) (held stages Host front.host))))

-- what is below a number has reached these stages too
abbrev pub raised : Stages → ℕ → Front → Front
raised stages number front = record {
  transfer = max front.transfer (held stages Transfer number);
  build = max front.build (held stages Build number);
  structure_copy = max front.structure_copy (held stages StructureCopy number);
  compute = max front.compute (held stages Compute number);
  host = max front.host (held stages Host number);
}

-- after a `wait` all before it has reached the stages of the device
abbrev pub waited : ℕ → Front → Front
waited n front = record { transfer = n; build = n; structure_copy = n; compute = n; host = front.host }

-- below which number a barrier takes up what was done
abbrev pub taken_up : Bool → ℕ → Stages → Front → ℕ
taken_up direct n stages front = if direct then n else met stages front

-- after one more command, number n, for what was done at a stage
abbrev pub front_after : Stage → ℕ → Command → Front → Front
front_after stage n (commands.Barrier src_stages src_access dst_stages dst_access buffers) front =
    raised dst_stages (taken_up (holds_stage src_stages stage) n src_stages front) front
front_after stage n commands.Wait front = waited n front
front_after stage n _ front = front

-- where command number n stands, what has reached a stage is what the commands below its number did
pub record IsFront (stage : Stage) (rec : List Command) (n : ℕ) (front : Front) : Type 0 where
  pub exact :
      (i : ℕ) (to : Stage) → (handed_at (takes_stage stage) always rec i n).stages to ≡ nat_lt i (front_at front to)
  pub within : (to : Stage) → front_at front to ≤ n
