-- By which geometry or count a command breaks V8: what is told of it is so. (Own.)
use Rattle.std.specs.Prelude.{ℕ, ◌≡◌, List, Option, Some, None, Bool, true, false, ◌==◌, not, slice_get}
use Rattle.std.specs.Option.{option_map_or}
use Rattle.ray_cmd.specs.declared.command.Command.{Command}
use Rattle.ray_cmd.specs.declared.info.Info.{Info}
use Rattle.ray_cmd.specs.declared.place.Place.{Place}
use Rattle.ray_cmd.specs.declared.place.Place.TheVariants.{Whole, Part}
use Rattle.ray_cmd.specs.declared.refusal.Refusal.{Refusal}
use Rattle.ray_cmd.specs.declared.rule.Rule.{Rule}
use Rattle.ray_cmd.specs.declared.rule.Rule.TheVariants.{V, X}
use Rattle.ray_causes.specs.Geometries.{info_at}
use Rattle.ray_builds.specs.Geometries.{IsBottomFlaw, IsTopFlaw, counts_of_top}
use Rattle.ray_builds.specs.declared.misbuilt.Misbuilt.{Misbuilt}
use Rattle.ray_builds.specs.declared.misbuilt.Misbuilt.TheVariants as misbuilts
use Rattle.ray_rules.specs.Hazards.{status_at}
use Rattle.ray_rules.specs.Shapes.{is_misshapen}
use Rattle.ray_rules.specs.Status.{Status}
use Rattle.ray_rules.specs.Structures.{is_bottom_at, is_top_at}

-- ---- what is told

-- of info number k, which is this one
abbrev pub IsOfInfo : Status → ℕ → Info → Misbuilt → Type 0
IsOfInfo z k info (misbuilts.Top number flaw) =
    (number ≡ k) × ((is_top_at z info.dst ≡ true) × IsTopFlaw info.geometries flaw)
IsOfInfo z k info (misbuilts.Bottom number flaw) =
    (number ≡ k) × ((is_bottom_at z info.dst ≡ true) × IsBottomFlaw info.geometries flaw)
IsOfInfo z k info (misbuilts.Counts number) = ⊥

-- the same where there is one
abbrev pub IsOfInfoIf : Status → ℕ → Option Info → Misbuilt → Type 0
IsOfInfoIf z k None misbuilt = ⊥
IsOfInfoIf z k (Some info) misbuilt = IsOfInfo z k info misbuilt

-- of the counts of a `sizes` of a top
abbrev pub IsOfSizes : Command → Misbuilt → Type 0
IsOfSizes c (misbuilts.Counts number) = (counts_of_top c ≡ Some number) × ((number == 1) ≡ false)
IsOfSizes c _ = ⊥

-- of a command at a place, where a status stands
abbrev pub IsMisbuilt : Status → Command → Place → Misbuilt → Type 0
IsMisbuilt z c Whole misbuilt = IsOfSizes c misbuilt
IsMisbuilt z c (Part k) misbuilt = IsOfInfoIf z k (info_at c k) misbuilt
IsMisbuilt z c _ misbuilt = ⊥

-- of the command and the place of a refusal, where the command stands
pub record IsMisbuiltAt (rec : List Command) (refusal : Refusal) (misbuilt : Misbuilt) : Type 0 where
  pub rule : refusal.rule ≡ V 8
  pub command : Command
  pub there : slice_get rec refusal.command ≡ Some command
  pub is : IsMisbuilt (status_at rec refusal.command) command refusal.place misbuilt

-- ---- when something is told

-- whether a rule is V8
abbrev pub is_rule_8 : Rule → Bool
is_rule_8 (V number) = number == 8
is_rule_8 (X rule) = false

-- whether `sizes` of a top hasn't one count
abbrev pub has_odd_counts : Command → Bool
has_odd_counts c = option_map_or (λ (n : ℕ). not (n == 1)) (counts_of_top c) false

-- whether a command breaks V8 at a place
abbrev pub is_misbuilt_at : Status → Command → Place → Bool
is_misbuilt_at z c Whole = has_odd_counts c
is_misbuilt_at z c (Part k) = option_map_or (is_misshapen z) (info_at c k) false
is_misbuilt_at z c _ = false
