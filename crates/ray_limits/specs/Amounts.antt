-- The numbers of a command that V2, V6 and V31 compare, and which of these rules compares them. (Own.)
use Rattle.std.specs.Prelude.{ℕ, List, Option, Some, None, Bool, false, ◌&&◌, ◌==◌, if◌then◌else◌, length, nat_lt, option_map, slice_get}
use Rattle.std.specs.Option.{option_and_then, option_map_or}
use Rattle.ray_cmd.specs.declared.command.Command.{Command}
use Rattle.ray_cmd.specs.declared.command.Command.TheVariants as commands
use Rattle.ray_cmd.specs.declared.region.Region.{Region}
use Rattle.ray_cmd.specs.declared.rule.Rule.{Rule}
use Rattle.ray_cmd.specs.declared.rule.Rule.TheVariants.{V, X}
use Rattle.ray_causes.specs.declared.cause.Multiple.{Multiple}
use Rattle.ray_causes.specs.declared.member.Member.{Member}
use Rattle.ray_causes.specs.declared.member.Member.TheVariants as members
use Rattle.ray_causes.specs.declared.member.Name.{Name}
use Rattle.ray_causes.specs.Multiples.{multiple}
use Rattle.ray_causes.specs.Naming.{at_data, at_size}
use Rattle.ray_limits.specs.declared.limit.Bound.{Bound}
use Rattle.ray_limits.specs.Naming.{at_offset, at_offset_or_data, at_offset_or_size}
use Rattle.ray_rules.specs.Spans.{misses, record_size}

-- whether a rule is V of a number
abbrev pub is_v : Rule → ℕ → Bool
is_v (V number) n = n == number
is_v (X rule) n = false

-- ---- how many bytes a member has, which may not be none

-- a member of the command itself
unfoldable pub own_amount : Command → Name → Option ℕ
own_amount (commands.Buffer id size usage content) name = at_size name size
own_amount (commands.Structure id kind buffer offset size) name = at_size name size
own_amount (commands.Read buffer offset size form) name = at_size name size
own_amount (commands.Update buffer offset content) name = at_data name (length content)
own_amount (commands.Fill buffer offset size value) name = at_size name size
own_amount _ name = None

-- a member of region number k
abbrev pub region_amount : Command → ℕ → Name → Option ℕ
region_amount (commands.Copy src dst regions) k name =
    option_and_then (λ (region : Region). at_size name region.size) (slice_get regions k)
region_amount _ k name = None

-- any member
abbrev pub amount_at : Command → Member → Option ℕ
amount_at c (members.Own name) = own_amount c name
amount_at c (members.Region k name) = region_amount c k name
amount_at c _ = None

-- the number of the rule that asks that they aren't none, 0 for no rule
unfoldable pub rule_of_amount : Command → ℕ
rule_of_amount (commands.Buffer id size usage content) = 2
rule_of_amount (commands.Structure id kind buffer offset size) = 2
rule_of_amount (commands.Read buffer offset size form) = 31
rule_of_amount (commands.Update buffer offset content) = 31
rule_of_amount (commands.Fill buffer offset size value) = 31
rule_of_amount (commands.Copy src dst regions) = 31
rule_of_amount _ = 0

-- whether a member has none, and the rule asks that it has some
abbrev pub is_empty : Rule → Command → Member → Bool
is_empty rule c member = is_v rule (rule_of_amount c) && option_map_or (λ n. n == 0) (amount_at c member) false

-- ---- how many bytes a member has, and how many it may have

abbrev pub bound : ℕ → ℕ → Bound
bound number most = record { number = number; most = most }

-- the content of a buffer of a size, where there is any
abbrev pub content_bound : ℕ → Option (List ℕ) → Option Bound
content_bound size content = option_map (λ bytes. bound (length bytes) size) content

-- a member of the command itself
abbrev pub own_bound : Command → Name → Option Bound
own_bound (commands.Buffer id size usage content) name = option_and_then (at_data name) (content_bound size content)
own_bound (commands.Update buffer offset content) name = at_data name (bound (length content) 65536)
own_bound _ name = None

-- any member
abbrev pub bound_at : Command → Member → Option Bound
bound_at c (members.Own name) = own_bound c name
bound_at c _ = None

-- the number of the rule that asks it, 0 for no rule
abbrev pub rule_of_bound : Command → ℕ
rule_of_bound (commands.Buffer id size usage content) = 2
rule_of_bound (commands.Update buffer offset content) = 31
rule_of_bound _ = 0

-- a bound, where it is passed
abbrev pub passed_by : Bound → Option Bound
passed_by b = if nat_lt b.most b.number then Some b else None

-- the bound that a member passes, where the rule asks that it doesn't
abbrev pub passed : Rule → Command → Member → Option Bound
passed rule c member = if is_v rule (rule_of_bound c) then option_and_then passed_by (bound_at c member) else None

-- ---- what a member has to be a multiple of

-- a member of the command itself
unfoldable pub own_multiple : Command → Name → Option Multiple
own_multiple (commands.Structure id kind buffer offset size) name = at_offset name (multiple offset 256)
own_multiple (commands.Read buffer offset size form) name = at_size name (multiple size (record_size form))
own_multiple (commands.Update buffer offset content) name =
    at_offset_or_data name (multiple offset 4) (multiple (length content) 4)
own_multiple (commands.Fill buffer offset size value) name =
    at_offset_or_size name (multiple offset 4) (multiple size 4)
own_multiple _ name = None

-- any member
abbrev pub multiple_at : Command → Member → Option Multiple
multiple_at c (members.Own name) = own_multiple c name
multiple_at c _ = None

-- the number of the rule that asks it, 0 for no rule
unfoldable pub rule_of_multiple : Command → ℕ
rule_of_multiple (commands.Structure id kind buffer offset size) = 6
rule_of_multiple (commands.Read buffer offset size form) = 31
rule_of_multiple (commands.Update buffer offset content) = 31
rule_of_multiple (commands.Fill buffer offset size value) = 31
rule_of_multiple _ = 0

-- a multiple, where it is missed
abbrev pub missed_by : Multiple → Option Multiple
missed_by m = if misses m.of m.number then Some m else None

-- the multiple that a member misses, where the rule asks that it doesn't
abbrev pub missed : Rule → Command → Member → Option Multiple
missed rule c member =
    if is_v rule (rule_of_multiple c) then option_and_then missed_by (multiple_at c member) else None
