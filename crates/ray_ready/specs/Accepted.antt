-- The commands of a recording that may be run: they keep the static rules. (Own.)
use Rattle.std.specs.Prelude.{ℕ, ◌≡◌, ◌<◌, List, Option, Some, None, true, slice_get}
use Rattle.ray_cmd.specs.declared.command.Command.{Command}
use Rattle.ray_cmd.specs.declared.refusal.Refusal.{Refusal}
use Rattle.ray_cmd.specs.Sources.{have_their_sources}
use Rattle.ray_rules.specs.Hazards.{status_at}
use Rattle.ray_rules.specs.Refusals.{AreKept, static_table}
use Rattle.ray_rules.specs.Status.{Status}

-- a command keeps the static rules where this status stands before it
pub record MayRun (rec : List Command) (z : Status) (c : Command) : Type 0 where
  pub rules : AreKept (static_table rec z c)
  pub sources : have_their_sources c ≡ true

-- it is so with each command of a recording below number n
pub record IsAccepted (rec : List Command) (n : ℕ) : Type 0 where
  pub each : (i : ℕ) (c : Command) → i < n → slice_get rec i ≡ Some c → MayRun rec (status_at rec i) c

-- each command of a recording below number n keeps the static rules
pub record KeepStaticRules (rec : List Command) (n : ℕ) : Type 0 where
  pub each : (i : ℕ) (c : Command) → i < n → slice_get rec i ≡ Some c → AreKept (static_table rec (status_at rec i) c)

-- ---- what is refused, and what isn't

-- the number of the command that is refused, and the count of all where none is
abbrev pub refused_from : ℕ → Option Refusal → ℕ
refused_from count None = count
refused_from count (Some refusal) = refusal.command
