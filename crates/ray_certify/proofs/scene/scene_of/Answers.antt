use Rattle.std.proofs.Common.{◌≡◌, ◌∙◌, ap, sym, subst}
use Rattle.std.specs.Prelude.{IfOk, option_map}
use Rattle.std.proofs.lemmas.Option.{get_or_from_slice_get}
use Rattle.ray_cmd.specs.declared.command.Command.{Command}
use Rattle.ray_cmd.specs.declared.command.Command.TheVariants as commands
use Rattle.ray_action.specs.Clients.{HasScript}
use Rattle.ray_exec.specs.Laws.{CanBegin}
use Rattle.ray_memory.specs.State.{memory_of}
use Rattle.ray_memory.specs.Tracing.{lent, seen_of}
use Rattle.ray_certify.specs.Scenes.{IsSceneOf}
use Rattle.ray_certify.proofs.scene.scene_of.Goals as goal

pub scene_with-requires-clause-can : goal.scene_with-requires-clause-can
scene_with-requires-clause-can c =
    subst (λ (d : Command). CanBegin (memory_of c.args.state.now) d) (get_or_from_slice_get c.args.rec.now c.args.command c.command.result.now commands.Begin c.command.ensures) c.requires.can

pub scene_with-requires-clause-script : goal.scene_with-requires-clause-script
scene_with-requires-clause-script c =
    subst (λ (d : Command). HasScript d) (get_or_from_slice_get c.args.rec.now c.args.command c.command.result.now commands.Begin c.command.ensures) c.requires.script

pub scene_with-requires-clause-inputs : goal.scene_with-requires-clause-inputs
scene_with-requires-clause-inputs c =
    c.trace_inputs-inputs.ensures
    ∙ ap (seen_of (memory_of c.args.state.now)) (get_or_from_slice_get c.args.rec.now c.args.command c.command.result.now commands.Begin c.command.ensures)

pub returns : goal.returns
returns c =
    subst (λ (d : Command). IfOk c.scene_with.result (IsSceneOf (memory_of c.args.state.now) c.args.command d))
    (sym (get_or_from_slice_get c.args.rec.now c.args.command c.command.result.now commands.Begin c.command.ensures)) c.scene_with.ensures
