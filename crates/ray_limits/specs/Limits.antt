-- By which number a command breaks a static rule: what is told of it is so. (Own.)
use Rattle.std.specs.Prelude.{◌+◌, ◌≡◌, List, Some, true, nat_lt, slice_get}
use Rattle.ray_cmd.specs.declared.command.Command.{Command}
use Rattle.ray_cmd.specs.declared.refusal.Refusal.{Refusal}
use Rattle.ray_cmd.specs.declared.rule.Rule.{Rule}
use Rattle.ray_cmd.specs.declared.rule.Rule.TheVariants.{V}
use Rattle.ray_rules.specs.Hazards.{maker_of_structure, status_at}
use Rattle.ray_rules.specs.Ranges.{is_outside, size_at}
use Rattle.ray_rules.specs.Status.{Status, live_bytes}
use Rattle.ray_limits.specs.Amounts.{is_empty, missed, passed}
use Rattle.ray_limits.specs.Sizes.{short_at}
use Rattle.ray_limits.specs.Standing.{meets_at, range_made, size_made}
use Rattle.ray_limits.specs.declared.limit.Limit.{Limit}
use Rattle.ray_limits.specs.declared.limit.Limit.TheVariants as limits

-- a rule asks this of a command, the command says this, and what is compared is so where a status
-- stands
abbrev pub IsLimit : Status → Command → Rule → Limit → Type 0
IsLimit z c rule (limits.Empty member) = is_empty rule c member ≡ true
IsLimit z c rule (limits.Above member bound) = passed rule c member ≡ Some bound
IsLimit z c rule (limits.NoMultiple member multiple) = missed rule c member ≡ Some multiple
IsLimit z c rule (limits.Small member sizes) = (rule ≡ V 11) × (short_at z c member ≡ Some sizes)
IsLimit z c rule (limits.Full live size) =
    (rule ≡ V 2)
    × ((size_made c ≡ Some size) × ((live_bytes z ≡ live) × (nat_lt 268435456 (live + size) ≡ true)))
IsLimit z c rule (limits.Outside range size) =
    (rule ≡ V 6)
    × ((range_made c ≡ Some range)
    × ((size_at z.buffers range.buffer ≡ size) × (is_outside z.buffers range ≡ true)))
IsLimit z c rule (limits.Overlaps range id made) =
    (rule ≡ V 6)
    × ((range_made c ≡ Some range)
    × ((maker_of_structure z id ≡ Some made) × (meets_at z range id ≡ true)))

-- the same of the command and the rule of a refusal, where the command stands
pub record IsLimitAt (rec : List Command) (refusal : Refusal) (limit : Limit) : Type 0 where
  pub command : Command
  pub there : slice_get rec refusal.command ≡ Some command
  pub is : IsLimit (status_at rec refusal.command) command refusal.rule limit
