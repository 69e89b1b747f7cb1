-- What of a command doesn't fit, by kind or by flag: what is told of it is so. (Own.)
use Rattle.std.specs.Prelude.{◌≡◌, List, Some, true, false, ◌==◌, slice_get}
use Rattle.std.specs.Option.{option_map_or}
use Rattle.ray_cmd.specs.declared.command.Command.{Command}
use Rattle.ray_cmd.specs.declared.refusal.Refusal.{Refusal}
use Rattle.ray_cmd.specs.declared.rule.Rule.{Rule}
use Rattle.ray_cmd.specs.declared.rule.Rule.TheVariants.{V}
use Rattle.ray_rules.specs.Buffers.{is_private_at}
use Rattle.ray_rules.specs.Hazards.{status_at}
use Rattle.ray_rules.specs.Shapes.{prefers_both}
use Rattle.ray_rules.specs.Status.{Status}
use Rattle.ray_rules.specs.Structures.{differ_in_kind}
use Rattle.ray_causes.specs.declared.member.Name.TheVariants as names
use Rattle.ray_causes.specs.Geometries.{info_at}
use Rattle.ray_causes.specs.Names.{structure_named}
use Rattle.ray_kinds.specs.Kinds.{are_of_bottom, asks_pair, is_other_kind, kind_wanted, own_pair, pair_at, uses_at}
use Rattle.ray_kinds.specs.Usages.{buffer_read, has_no_usage, is_filled, is_mixed}
use Rattle.ray_kinds.specs.Words.{are_exclusive, lacks_at}
use Rattle.ray_kinds.specs.declared.misfit.Misfit.{Misfit}
use Rattle.ray_kinds.specs.declared.misfit.Misfit.TheVariants as misfits

-- a rule asks this of a command, the command says this, and what is compared is so where a status
-- stands
abbrev pub IsMisfit : Status → Command → Rule → Misfit → Type 0
IsMisfit z c rule (misfits.WrongKind member id wanted) =
    (rule ≡ V 7)
    × ((kind_wanted c member ≡ Some wanted)
    × ((structure_named c member ≡ Some id) × (is_other_kind z wanted id ≡ true)))
IsMisfit z c rule (misfits.UsesOfBottom member uses) =
    (rule ≡ V 7) × ((uses_at c member ≡ Some uses) × (are_of_bottom z uses ≡ true))
IsMisfit z c rule (misfits.TwoKinds member two) =
    (asks_pair rule member ≡ true)
    × ((pair_at c member ≡ Some two) × (differ_in_kind z two.src two.dst ≡ true))
IsMisfit z c rule (misfits.Same two) =
    (rule ≡ V 19) × ((own_pair c names.Dst ≡ Some two) × ((two.src == two.dst) ≡ true))
IsMisfit z c rule (misfits.BothFast k) = (rule ≡ V 9) × (option_map_or prefers_both (info_at c k) false ≡ true)
IsMisfit z c rule (misfits.Exclusive two) = (rule ≡ V 22) × (are_exclusive c two.one two.other ≡ true)
IsMisfit z c rule (misfits.Unsupported member word) = (rule ≡ V 24) × (lacks_at c member word ≡ true)
IsMisfit z c rule misfits.NoUsage = (rule ≡ V 3) × (has_no_usage c ≡ true)
IsMisfit z c rule misfits.Mixed = (rule ≡ V 3) × (is_mixed c ≡ true)
IsMisfit z c rule misfits.Filled = (rule ≡ V 3) × (is_filled c ≡ true)
IsMisfit z c rule (misfits.ReadOfPrivate id) =
    (rule ≡ V 3) × ((buffer_read c ≡ Some id) × (is_private_at z id ≡ true))

-- the same of the command and the rule of a refusal, where the command stands
pub record IsMisfitAt (rec : List Command) (refusal : Refusal) (misfit : Misfit) : Type 0 where
  pub command : Command
  pub there : slice_get rec refusal.command ≡ Some command
  pub is : IsMisfit (status_at rec refusal.command) command refusal.rule misfit
