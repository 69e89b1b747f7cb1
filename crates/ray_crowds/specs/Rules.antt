-- The rules of a trace's script, as V23 asks them. (Own.)
use Rattle.std.specs.Prelude.{ℕ, ◌≡◌, Option, Some, None, if◌then◌else◌, length, slice_get}
use Rattle.std.specs.Option.{option_and_then}
use Rattle.ray_cmd.specs.declared.command.Command.{Command}
use Rattle.ray_cmd.specs.declared.command.Command.TheVariants as commands
use Rattle.ray_crowds.specs.Counts.{count, too_many}
use Rattle.ray_crowds.specs.declared.crowd.Count.{Count}
use Rattle.ray_crowds.specs.declared.crowd.Distance.{Distance}
use Rattle.ray_crowds.specs.declared.crowd.OfScript.{OfScript}
use Rattle.ray_crowds.specs.declared.crowd.OfScript.TheVariants as wrongs
use Rattle.ray_script.specs.Scripts.{is_choice_in_range}
use Rattle.ray_script.specs.declared.raw_choice.RawChoice.{RawChoice}
use Rattle.ray_script.specs.declared.raw_choice.RawChoice.TheVariants.{At}
use Rattle.ray_script.specs.declared.raw_rule.RawRule.{RawRule}

-- how many there are, and how many there may be
abbrev pub rules_of : Command → Option Count
rules_of (commands.Trace top rays n hits flags mask script) = Some (count (length script) 4096)
rules_of _ = None

-- a distance that is out of range
abbrev pub wrong_by : ℕ → ℕ → Option Distance
wrong_by num den = if is_choice_in_range (At num den) then None else Some (record { num = num; den = den })

-- that of what is decided, where it has one
abbrev pub wrong_choice : RawChoice → Option Distance
wrong_choice (At num den) = wrong_by num den
wrong_choice _ = None

abbrev pub wrong_rule : RawRule → Option Distance
wrong_rule rule = wrong_choice rule.choice

-- that of rule number k
abbrev pub wrong_distance : Command → ℕ → Option Distance
wrong_distance (commands.Trace top rays n hits flags mask script) k = option_and_then wrong_rule (slice_get script k)
wrong_distance _ k = None

-- the script of a command has so many, and they are too many; or this distance, and it is out of range
abbrev pub IsOfScript : Command → OfScript → Type 0
IsOfScript c (wrongs.Rules n) = too_many (rules_of c) ≡ Some n
IsOfScript c (wrongs.Distance k d) = wrong_distance c k ≡ Some d
