-- What the rules ask of what the members of a command name, by the number of the rule. (Own.)
use Rattle.std.specs.Prelude.{ℕ, Bool, false, ◌==◌}
use Rattle.ray_cmd.specs.declared.command.Command.{Command}
use Rattle.ray_cmd.specs.declared.command.Command.TheVariants as commands
use Rattle.ray_cmd.specs.declared.rule.Rule.{Rule}
use Rattle.ray_cmd.specs.declared.rule.Rule.TheVariants.{V, X}
use Rattle.ray_causes.specs.declared.member.Member.{Member}
use Rattle.ray_causes.specs.declared.member.Member.TheVariants as members
use Rattle.ray_causes.specs.declared.member.Name.{Name}
use Rattle.ray_causes.specs.declared.member.Name.TheVariants as names

-- ---- that a structure is built

-- the number of the rule that asks that the structure which a member of the command itself names is
-- built, 0 for none
abbrev pub built_by_name : Name → ℕ
built_by_name names.Src = 17
built_by_name names.Top = 20
built_by_name _ = 0

-- the same of a member of an info: of the source of an update
abbrev pub source_rule : Name → ℕ
source_rule names.Src = 13
source_rule _ = 0

-- the same of any member
abbrev pub rule_of_built : Member → ℕ
rule_of_built (members.Own name) = built_by_name name
rule_of_built (members.Item name n) = 17
rule_of_built (members.Info k name) = source_rule name
rule_of_built (members.InfoItem k name n) = 17
rule_of_built _ = 0

-- whether a rule asks that the structure which a member names is built
abbrev pub asks_built : Rule → Member → Bool
asks_built (V number) member = rule_of_built member == number
asks_built (X rule) member = false

-- ---- that what was submitted is done

-- whether a rule asks of a command that all that was submitted is done
abbrev pub asks_wait : Rule → Command → Bool
asks_wait (V number) (commands.Read buffer offset size form) = number == 29
asks_wait (V number) (commands.Destroy what id) = number == 30
asks_wait (V number) _ = false
asks_wait (X rule) c = false
