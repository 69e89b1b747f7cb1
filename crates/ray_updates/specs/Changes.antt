-- In what an update differs from its source: what is told of it is so. (Own.)
use Rattle.std.specs.Prelude.{ℕ, ◌≡◌, List, Option, Some, Bool, true, false, ◌==◌, length, not, option_map, slice_get}
use Rattle.std.specs.Option.{option_and_then, option_map_or}
use Rattle.ray_cmd.specs.declared.command.Command.{Command}
use Rattle.ray_cmd.specs.declared.geometry.Geometry.{Geometry}
use Rattle.ray_cmd.specs.declared.info.Info.{Info}
use Rattle.ray_cmd.specs.declared.place.Place.TheVariants.{Part}
use Rattle.ray_cmd.specs.declared.refusal.Refusal.{Refusal}
use Rattle.ray_cmd.specs.declared.rule.Rule.TheVariants.{V}
use Rattle.ray_causes.specs.Geometries.{info_at as info_of_command}
use Rattle.ray_rules.specs.declared.built.Built.{Built}
use Rattle.ray_rules.specs.Hazards.{status_at}
use Rattle.ray_rules.specs.Sources.{info_at}
use Rattle.ray_rules.specs.Status.{Status, built_at}
use Rattle.ray_updates.specs.declared.change.Change.{Change}
use Rattle.ray_updates.specs.declared.change.Change.TheVariants as changes
use Rattle.ray_updates.specs.declared.change.Matter.{Matter}
use Rattle.ray_updates.specs.declared.change.Update.{Update}
use Rattle.ray_updates.specs.Numbers.{number_of}

-- whether two geometries differ in something
abbrev pub differ_in : Matter → Geometry → Geometry → Bool
differ_in matter g h = not (number_of matter g == number_of matter h)

-- whether a geometry, where there is one, differs from another, where there is one
abbrev pub differs_if : Matter → Option Geometry → Geometry → Bool
differs_if matter h g = option_map_or (differ_in matter g) h false

-- the same of the geometries of a number
abbrev pub differ_at : Matter → List Geometry → List Geometry → ℕ → Bool
differ_at matter gs hs n = option_map_or (differs_if matter (slice_get hs n)) (slice_get gs n) false

-- whether an info and the one by which its source was built differ so
abbrev pub is_change : Info → Change → Info → Bool
is_change info changes.Flags source = not (info.flags.0 == source.flags.0)
is_change info changes.Count source = not (length info.geometries == length source.geometries)
is_change info (changes.Geometry n matter) source = differ_at matter info.geometries source.geometries n

-- the same of an info, where a status stands
abbrev pub is_change_of : List Command → Status → Change → Info → Bool
is_change_of rec z change info =
    option_map_or (is_change info change) (option_and_then (info_at rec z) info.src) false

-- the same of info number k of a command
abbrev pub is_change_in : List Command → Status → Command → ℕ → Change → Bool
is_change_in rec z c k change = option_map_or (is_change_of rec z change) (info_of_command c k) false

-- the number of the command by which the source of an info was built
abbrev pub stamp_of : Status → Info → Option ℕ
stamp_of z info = option_map (λ (b : Built). b.stamp) (option_and_then (built_at z) info.src)

-- the same of info number k of a command
abbrev pub stamp_in : Status → Command → ℕ → Option ℕ
stamp_in z c k = option_and_then (stamp_of z) (info_of_command c k)

-- an update of the place of a refusal by V15 differs so from its source, which was built by this
-- command
abbrev pub IsUpdate : List Command → Status → Command → Refusal → Update → Type 0
IsUpdate rec z c refusal update =
    (refusal.rule ≡ V 15)
    × ((refusal.place ≡ Part update.info)
    × ((stamp_in z c update.info ≡ Some update.stamp)
    × (is_change_in rec z c update.info update.change ≡ true)))

-- the same where the command of the refusal stands
pub record IsUpdateAt (rec : List Command) (refusal : Refusal) (update : Update) : Type 0 where
  pub command : Command
  pub there : slice_get rec refusal.command ≡ Some command
  pub is : IsUpdate rec (status_at rec refusal.command) command refusal update
