-- Of two refusals the one that comes sooner. (Own.)
use Rattle.std.specs.Prelude.{nat_lt, Option, Some, None, if◌then◌else◌}
use Rattle.ray_cmd.specs.declared.refusal.Refusal.{Refusal}

-- a refusal, unless another is of a lesser command
abbrev pub lesser : Refusal → Option Refusal → Refusal
lesser first None = first
lesser first (Some second) = if nat_lt second.command first.command then second else first

-- that of the lesser command, and at one command the first
abbrev pub sooner : Option Refusal → Option Refusal → Option Refusal
sooner None second = second
sooner (Some first) second = Some (lesser first second)
