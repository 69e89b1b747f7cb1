-- The kinds of commands, and below which numbers commands of each are ordered before another. (Own; the
-- kinds are those of the order.)
use Rattle.std.specs.Prelude.{◌≡◌, ◌≤◌, ℕ, max, List, slice_get}
use Rattle.std.specs.Option.{option_map_or}
use Rattle.ray_cmd.specs.declared.command.Command.{Command}
use Rattle.ray_cmd.specs.declared.command.Command.TheVariants as commands
use Rattle.ray_rules.specs.declared.kind.Kind.{Kind as RulesKind}
use Rattle.ray_rules.specs.declared.kind.Kind.TheVariants as rules
use Rattle.ray_rules.specs.declared.stage.Stage.{Stage}
use Rattle.ray_rules.specs.declared.stage.Stage.TheVariants as stages
use Rattle.ray_rules.specs.Kinds.{kind_of}
use Rattle.ray_rules.specs.Order.{last_wait}
use Rattle.ray_sync.specs.declared.fronts.Fronts.{Fronts}
use Rattle.ray_sync.specs.declared.kind.Kind.{Kind}
use Rattle.ray_sync.specs.declared.kind.Kind.TheVariants.{Transfer, Build, StructureCopy, Compute, Barrier, Host}
use Rattle.ray_hazards.specs.declared.limits.PerStage.{PerStage}
use Rattle.ray_sync.specs.declared.per_kind.PerKind.{PerKind}
use Rattle.ray_sync.specs.Fronts.{front_after, front_at, no_front, IsFront}

-- a kind as the rules have it
abbrev pub order_kind : Kind → RulesKind
order_kind Transfer = rules.Device stages.Transfer
order_kind Build = rules.Device stages.Build
order_kind StructureCopy = rules.Device stages.StructureCopy
order_kind Compute = rules.Device stages.Compute
order_kind Barrier = rules.Barrier
order_kind Host = rules.HostCommand

-- and one of the rules, where the device has no stage of the host
abbrev pub kind_for : RulesKind → Kind
kind_for (rules.Device stages.Transfer) = Transfer
kind_for (rules.Device stages.Build) = Build
kind_for (rules.Device stages.StructureCopy) = StructureCopy
kind_for (rules.Device stages.Compute) = Compute
kind_for (rules.Device stages.Host) = Host
kind_for rules.Barrier = Barrier
kind_for rules.HostCommand = Host

-- the kind of a command
abbrev pub kind_in : Command → Kind
kind_in c = kind_for (kind_of c)

-- the kind of command number i: that of a host command where there is none
abbrev pub kind_number : List Command → ℕ → Kind
kind_number rec i = option_map_or kind_in (slice_get rec i) Host

-- no number is above 0
abbrev pub no_numbers : PerKind
no_numbers = record { transfer = 0; build = 0; structure_copy = 0; compute = 0; barrier = 0; host = 0 }

-- the number of a kind
abbrev pub number_of : PerKind → Kind → ℕ
number_of numbers Transfer = numbers.transfer
number_of numbers Build = numbers.build
number_of numbers StructureCopy = numbers.structure_copy
number_of numbers Compute = numbers.compute
number_of numbers Barrier = numbers.barrier
number_of numbers Host = numbers.host

-- the numbers with that of a kind at least this one
abbrev pub raised_at : PerKind → Kind → ℕ → PerKind
raised_at numbers Transfer number = record numbers { transfer = max numbers.transfer number }
raised_at numbers Build number = record numbers { build = max numbers.build number }
raised_at numbers StructureCopy number = record numbers { structure_copy = max numbers.structure_copy number }
raised_at numbers Compute number = record numbers { compute = max numbers.compute number }
raised_at numbers Barrier number = record numbers { barrier = max numbers.barrier number }
raised_at numbers Host number = record numbers { host = max numbers.host number }

-- nothing is handed on, and there was no `wait`
abbrev pub no_fronts : Fronts
no_fronts = record { transfer = no_front; build = no_front; structure_copy = no_front; compute = no_front; waited = 0 }

-- the last `wait` once command number n is done
abbrev pub waited_after : ℕ → Command → ℕ → ℕ
waited_after n commands.Wait waited = n
waited_after n _ waited = waited

-- the fronts after one more command, number n
abbrev pub fronts_after : ℕ → Command → Fronts → Fronts
fronts_after n c fronts = record {
  transfer = front_after stages.Transfer n c fronts.transfer;
  build = front_after stages.Build n c fronts.build;
  structure_copy = front_after stages.StructureCopy n c fronts.structure_copy;
  compute = front_after stages.Compute n c fronts.compute;
  waited = waited_after n c fronts.waited;
}

-- the numbers below which commands are ordered before command number j, a device command of a stage
abbrev pub device_limits : Fronts → ℕ → Stage → PerKind
device_limits fronts j to = record {
  transfer = front_at fronts.transfer to;
  build = front_at fronts.build to;
  structure_copy = front_at fronts.structure_copy to;
  compute = front_at fronts.compute to;
  barrier = 0;
  host = j;
}

-- the numbers below which commands of each stage are ordered before a stage
abbrev pub stage_limits : Fronts → Stage → PerStage
stage_limits fronts to = record {
  transfer = front_at fronts.transfer to;
  build = front_at fronts.build to;
  structure_copy = front_at fronts.structure_copy to;
  compute = front_at fronts.compute to;
}

-- the numbers of a command of any kind
abbrev pub limits_of : Fronts → ℕ → Kind → PerKind
limits_of fronts j Transfer = device_limits fronts j stages.Transfer
limits_of fronts j Build = device_limits fronts j stages.Build
limits_of fronts j StructureCopy = device_limits fronts j stages.StructureCopy
limits_of fronts j Compute = device_limits fronts j stages.Compute
limits_of fronts j Barrier = record no_numbers { host = j }
limits_of fronts j Host = record {
  transfer = fronts.waited;
  build = fronts.waited;
  structure_copy = fronts.waited;
  compute = fronts.waited;
  barrier = fronts.waited;
  host = j;
}

-- the fronts are exact where command number n stands
pub record AreFronts (rec : List Command) (n : ℕ) (fronts : Fronts) : Type 0 where
  pub transfer : IsFront stages.Transfer rec n fronts.transfer
  pub build : IsFront stages.Build rec n fronts.build
  pub structure_copy : IsFront stages.StructureCopy rec n fronts.structure_copy
  pub compute : IsFront stages.Compute rec n fronts.compute
  pub waited : last_wait rec n ≡ fronts.waited
  pub within : fronts.waited ≤ n
