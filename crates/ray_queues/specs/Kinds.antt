-- Kinds of commands, and below which numbers the commands of each are ordered before another. (Own; the
-- kinds are those of the order, by queue.)
use Rattle.std.specs.Prelude.{◌≡◌, ◌≤◌, ◌&&◌, ◌==◌, ℕ, max, nat_lt, Bool, true, false, List, [], ◌∷◌, if◌then◌else◌}
use Rattle.ray_chains.specs.declared.stage.Stage.{Stage as ChainStage}
use Rattle.ray_chains.specs.declared.stage.Stage.TheVariants as chain_stages
use Rattle.ray_rules.specs.declared.kind.Kind.{Kind}
use Rattle.ray_rules.specs.declared.kind.Kind.TheVariants as rules
use Rattle.ray_rules.specs.declared.stage.Stage.{Stage}
use Rattle.ray_rules.specs.declared.stage.Stage.TheVariants as stages
use Rattle.ray_rules.specs.Order.{before, kind_at}
use Rattle.ray_submits.specs.Submits.{QueueCommands, queue_of}
use Rattle.ray_queues.specs.declared.limits.Limits.{Limits}
use Rattle.ray_queues.specs.declared.per_queue.PerQueue.{PerQueue}
use Rattle.ray_queues.specs.declared.per_queue.PerStage.{PerStage}
use Rattle.ray_queues.specs.declared.wave_kind.DeviceStage.{DeviceStage}
use Rattle.ray_queues.specs.declared.wave_kind.DeviceStage.TheVariants.{Transfer, Build, StructureCopy, Compute}
use Rattle.ray_queues.specs.declared.wave_kind.Queue.{Queue}
use Rattle.ray_queues.specs.declared.wave_kind.Queue.TheVariants.{Zero, One, Two, Three}
use Rattle.ray_queues.specs.declared.wave_kind.WaveKind.{WaveKind}
use Rattle.ray_queues.specs.declared.wave_kind.WaveKind.TheVariants.{Work, Barrier, Host}
use Rattle.ray_queues.specs.Numbers.{all_queues}
use Rattle.ray_queues.specs.QueueOrder.{queue_order}

-- ---- names

-- a queue by its number, from 0 to 3
abbrev pub queue_named : ℕ → Queue
queue_named queue = if queue == 0 then Zero else if queue == 1 then One else if queue == 2 then Two else Three

-- and its number
abbrev pub number_named : Queue → ℕ
number_named Zero = 0
number_named One = 1
number_named Two = 2
number_named Three = 3

-- the stage of a device command, which isn't the host
abbrev pub stage_named : Stage → DeviceStage
stage_named stages.Transfer = Transfer
stage_named stages.Build = Build
stage_named stages.StructureCopy = StructureCopy
stage_named stages.Compute = Compute
stage_named stages.Host = Compute

-- the same in the words of chains
abbrev pub chain_named : DeviceStage → ChainStage
chain_named Transfer = chain_stages.Transfer
chain_named Build = chain_stages.Build
chain_named StructureCopy = chain_stages.StructureCopy
chain_named Compute = chain_stages.Compute

-- the kind of a command of a queue
abbrev pub kind_named : Kind → ℕ → WaveKind
kind_named (rules.Device stage) queue = Work (queue_named queue) (stage_named stage)
kind_named rules.Barrier queue = Barrier
kind_named rules.HostCommand queue = Host

-- the kind of command number i
abbrev pub wave_kind : QueueCommands → ℕ → WaveKind
wave_kind q i = kind_named (kind_at q.commands i) (queue_of q i)

-- whether two kinds are one
abbrev pub same_queue : Queue → Queue → Bool
same_queue Zero Zero = true
same_queue One One = true
same_queue Two Two = true
same_queue Three Three = true
same_queue _ _ = false

abbrev pub same_stage : DeviceStage → DeviceStage → Bool
same_stage Transfer Transfer = true
same_stage Build Build = true
same_stage StructureCopy StructureCopy = true
same_stage Compute Compute = true
same_stage _ _ = false

abbrev pub same_kind : WaveKind → WaveKind → Bool
same_kind (Work queue stage) (Work other to) = same_queue queue other && same_stage stage to
same_kind Barrier Barrier = true
same_kind Host Host = true
same_kind _ _ = false

-- the kinds of a queue's commands before some others, and all kinds
abbrev pub kinds_of : Queue → List WaveKind → List WaveKind
kinds_of queue kinds =
    Work queue Transfer ∷ Work queue Build ∷ Work queue StructureCopy ∷ Work queue Compute ∷ kinds

abbrev pub all_kinds : List WaveKind
all_kinds = kinds_of Zero (kinds_of One (kinds_of Two (kinds_of Three (Barrier ∷ Host ∷ []))))

-- ---- numbers

-- 0 for each kind
abbrev pub no_limits : Limits
no_limits = record { queues = all_queues 0; barrier = 0; host = 0 }

abbrev pub at_stage : PerStage → DeviceStage → ℕ
at_stage numbers Transfer = numbers.transfer
at_stage numbers Build = numbers.build
at_stage numbers StructureCopy = numbers.structure_copy
at_stage numbers Compute = numbers.compute

abbrev pub at_queue : PerQueue → Queue → PerStage
at_queue numbers Zero = numbers.zero
at_queue numbers One = numbers.one
at_queue numbers Two = numbers.two
at_queue numbers Three = numbers.three

-- the number of a kind
abbrev pub number_of : Limits → WaveKind → ℕ
number_of limits (Work queue stage) = at_stage (at_queue limits.queues queue) stage
number_of limits Barrier = limits.barrier
number_of limits Host = limits.host

-- the numbers with that of a kind at least this one
abbrev pub raised_stage : PerStage → DeviceStage → ℕ → PerStage
raised_stage numbers Transfer number = record numbers { transfer = max numbers.transfer number }
raised_stage numbers Build number = record numbers { build = max numbers.build number }
raised_stage numbers StructureCopy number = record numbers { structure_copy = max numbers.structure_copy number }
raised_stage numbers Compute number = record numbers { compute = max numbers.compute number }

abbrev pub raised_queue : PerQueue → Queue → DeviceStage → ℕ → PerQueue
raised_queue numbers Zero stage number = record numbers { zero = raised_stage numbers.zero stage number }
raised_queue numbers One stage number = record numbers { one = raised_stage numbers.one stage number }
raised_queue numbers Two stage number = record numbers { two = raised_stage numbers.two stage number }
raised_queue numbers Three stage number = record numbers { three = raised_stage numbers.three stage number }

abbrev pub raised : Limits → WaveKind → ℕ → Limits
raised limits (Work queue stage) number = record limits { queues = raised_queue limits.queues queue stage number }
raised limits Barrier number = record limits { barrier = max limits.barrier number }
raised limits Host number = record limits { host = max limits.host number }

-- the numbers below which commands of each kind are ordered before command number n
pub record IsLimits (q : QueueCommands) (n : ℕ) (limits : Limits) : Type 0 where
  pub ordered :
      (a : ℕ) → before (queue_order q) q.commands a n ≡ nat_lt a (number_of limits (wave_kind q a))
  pub within : (kind : WaveKind) → number_of limits kind ≤ n
