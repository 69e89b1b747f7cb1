-- By what a command breaks a static rule: what is told of it is so. (Own.)
use Rattle.std.specs.Prelude.{◌≡◌, ◌⊎◌, List, Some, true, slice_get}
use Rattle.ray_cmd.specs.declared.command.Command.{Command}
use Rattle.ray_cmd.specs.declared.refusal.Refusal.{Refusal}
use Rattle.ray_cmd.specs.declared.rule.Rule.{Rule}
use Rattle.ray_cmd.specs.declared.rule.Rule.TheVariants.{V}
use Rattle.ray_rules.specs.Buffers.{lacks_usage}
use Rattle.ray_rules.specs.Hazards.{status_at}
use Rattle.ray_rules.specs.Ids.{is_live}
use Rattle.ray_rules.specs.Names.{lacks_buffer, lacks_structure}
use Rattle.ray_rules.specs.Ranges.{is_outside, size_at}
use Rattle.ray_rules.specs.Spans.{misses}
use Rattle.ray_rules.specs.Status.{Status}
use Rattle.ray_causes.specs.declared.cause.Cause.{Cause}
use Rattle.ray_causes.specs.declared.cause.Cause.TheVariants as causes
use Rattle.ray_causes.specs.Multiples.{multiple_at}
use Rattle.ray_causes.specs.Names.{buffer_made, buffer_named, flag_of, structure_made, structure_named, use_needed}
use Rattle.ray_causes.specs.Ranges.{range_needed}

-- a rule is this, a member of the command says this, and what is compared is so where a status stands
abbrev pub IsCause : Status → Command → Rule → Cause → Type 0
IsCause z c rule (causes.NoBuffer member id) =
    (rule ≡ V 1) × ((buffer_named c member ≡ Some id) × (lacks_buffer z id ≡ true))
IsCause z c rule (causes.NoStructure member id) =
    (rule ≡ V 1) × ((structure_named c member ≡ Some id) × (lacks_structure z id ≡ true))
IsCause z c rule (causes.BufferThere name id) =
    (rule ≡ V 1) × ((buffer_made c name ≡ Some id) × (is_live z.buffers id ≡ true))
IsCause z c rule (causes.StructureThere name id) =
    (rule ≡ V 1) × ((structure_made c name ≡ Some id) × (is_live z.structures id ≡ true))
IsCause z c rule (causes.Unusable member id wanted) =
    (rule ≡ V 3)
    × ((buffer_named c member ≡ Some id)
    × ((use_needed c member ≡ Some wanted) × (lacks_usage z (flag_of wanted) id ≡ true)))
IsCause z c rule (causes.Outside member range size) =
    ((rule ≡ V 4) ⊎ (rule ≡ V 12))
    × ((range_needed c member ≡ Some range)
    × ((size ≡ size_at z.buffers range.buffer) × (is_outside z.buffers range ≡ true)))
IsCause z c rule (causes.Misaligned member multiple) =
    (rule ≡ V 5) × ((multiple_at c member ≡ Some multiple) × (misses multiple.of multiple.number ≡ true))

-- the same of the command and the rule of a refusal, where the command stands
pub record IsCauseAt (rec : List Command) (refusal : Refusal) (cause : Cause) : Type 0 where
  pub command : Command
  pub there : slice_get rec refusal.command ≡ Some command
  pub is : IsCause (status_at rec refusal.command) command refusal.rule cause
