-- By what a command breaks a static rule where it stands: what is told of it is so. (Own.)
use Rattle.std.specs.Prelude.{ℕ, ◌≡◌, Option, Some, None, Bool, true, false}
use Rattle.std.specs.Option.{option_map_or}
use Rattle.ray_cmd.specs.declared.command.Command.{Command}
use Rattle.ray_cmd.specs.declared.command.Command.TheVariants as commands
use Rattle.ray_cmd.specs.declared.rule.Rule.{Rule}
use Rattle.ray_cmd.specs.declared.rule.Rule.TheVariants.{V}
use Rattle.ray_cmd.specs.declared.thing.Thing.{Thing}
use Rattle.ray_cmd.specs.declared.thing.Thing.TheVariants as things
use Rattle.ray_rules.specs.Buffers.{stands_in}
use Rattle.ray_rules.specs.Hazards.{maker_of_structure}
use Rattle.ray_rules.specs.Ids.{look}
use Rattle.ray_rules.specs.Phases.{is_same_phase, phase_needed}
use Rattle.ray_rules.specs.Sources.{is_unbuilt}
use Rattle.ray_rules.specs.Status.{Status}
use Rattle.ray_causes.specs.Names.{structure_named}
use Rattle.ray_grounds.specs.Asking.{asks_built}
use Rattle.ray_grounds.specs.declared.fact.Fact.{Fact}
use Rattle.ray_grounds.specs.declared.fact.Fact.TheVariants as facts

-- the id of what is destroyed, where it is a buffer
abbrev pub buffer_of_thing : Thing → ℕ → Option ℕ
buffer_of_thing things.Buffer id = Some id
buffer_of_thing things.Structure id = None

-- the id of the buffer that a command destroys
abbrev pub buffer_destroyed : Command → Option ℕ
buffer_destroyed (commands.Destroy what id) = buffer_of_thing what id
buffer_destroyed _ = None

-- whether the structure of an id stands in a buffer
abbrev pub stands_at : Status → ℕ → ℕ → Bool
stands_at z buffer id = option_map_or (stands_in buffer) (look z.structures id) false

-- a rule asks this of a command, the command says this, and what is compared is so where a status
-- stands
abbrev pub IsFact : Status → Command → Rule → Fact → Type 0
IsFact z c rule (facts.Unbuilt member id made) =
    (asks_built rule member ≡ true)
    × ((structure_named c member ≡ Some id)
    × ((maker_of_structure z id ≡ Some made) × (is_unbuilt z id ≡ true)))
IsFact z c rule (facts.WrongPhase needed found) =
    (rule ≡ V 28)
    × ((phase_needed c ≡ needed) × ((z.phase ≡ found) × (is_same_phase needed found ≡ false)))
IsFact z c rule (facts.Held buffer id made) =
    (rule ≡ V 30)
    × ((buffer_destroyed c ≡ Some buffer)
    × ((maker_of_structure z id ≡ Some made) × (stands_at z buffer id ≡ true)))
