-- The script of a command that may be run is one.
use Rattle.std.proofs.Common.{◌≡◌, ◌≤◌, ℕ, zero, suc, List, [], ◌∷◌, length, Option, Some, None, inl, inr, refl, sym, subst, arith}
use Rattle.std.specs.Prelude.{option_map}
use Rattle.std.proofs.lemmas.Bool.{cases_lt}
use Rattle.std.proofs.lemmas.Option.{slice_get-get_or}
use Rattle.ray_cmd.specs.declared.command.Command.{Command}
use Rattle.ray_cmd.specs.declared.command.Command.TheVariants as commands
use Rattle.ray_cmd.specs.declared.place.Place.TheVariants.{Part}
use Rattle.ray_rules.specs.FlagRules.{v23}
use Rattle.ray_rules.specs.Hazards.{status_at}
use Rattle.ray_rules.specs.Status.{Status}
use Rattle.ray_script.specs.Scripts.{refused_at}
use Rattle.ray_action.specs.Clients.{HasScript}
use Rattle.ray_action.specs.Pieces.{command_at}
use Rattle.ray_ready.specs.Accepted.{MayRun}
use Rattle.ray_ready.specs.Laws.{AcceptedHaveScripts}
use Rattle.ray_ready.proofs.Kept.{keeps}

unmapped : (found : Option ℕ) → option_map Part found ≡ None → found ≡ None
unmapped None e = refl
unmapped (Some k) e = absurd cc

has_script : (rec : List Command) (z : Status) (c : Command) → MayRun rec z c → HasScript c
unfolding v23
has_script rec z (commands.Trace top rays count hits flags mask script) may =
    unmapped (refused_at script) (keeps rec z (commands.Trace top rays count hits flags mask script) may.rules).script
has_script rec z _ may = refl

-- beyond the end of a recording there is no script
none_past : (rec : List Command) (i : ℕ) → length rec ≤ i → command_at rec i ≡ commands.Begin
none_past [] i past = refl
none_past (c ∷ rec) zero past = absurd (omega (arith, past))
none_past (c ∷ rec) (suc i) past = none_past rec i (omega (arith, past))

pub have_scripts : AcceptedHaveScripts
have_scripts rec n i accepted less =
    elim (cases_lt i (length rec)) [
      | inl below ↦
          has_script rec (status_at rec i) (command_at rec i) (accepted.each i (command_at rec i) less (slice_get-get_or rec i commands.Begin below))
      | inr past ↦ subst HasScript (sym (none_past rec i past)) refl
    ]
