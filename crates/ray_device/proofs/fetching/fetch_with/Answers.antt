use Rattle.std.proofs.Common.{refl, ◌∙◌}
use Rattle.ray_action.specs.Outcomes.{outcome_of}
use Rattle.ray_memory.specs.State.{memory_of}
use Rattle.ray_device.specs.Parts.{part_given}
use Rattle.ray_device.specs.Pieces.{piece_action}
use Rattle.ray_device.proofs.Free.{can_fetch, fails, is_given}
use Rattle.ray_device.proofs.fetching.fetch_with.Goals as goal

pub fetch_part-requires-clause-can : goal.fetch_part-requires-clause-can
fetch_part-requires-clause-can g c κs within =
    can_fetch (g.C.Client.meaning c.args.client.now) c.args.rec.now c.args.piece c.command-command.result.now (memory_of c.args.state.now) c.requires.piece c.command-command.ensures c.requires.ready

pub returns-in-Ok-clause-value : goal.returns-in-Ok-clause-value
returns-in-Ok-clause-value g c = (
  refl,
  is_given (g.C.Client.meaning c.args.client.now) c.args.rec.now c.args.piece c.command-command.result.now (memory_of c.args.state.now) c.requires.piece c.command-command.ensures c.requires.ready
      ∙ c.in-Ok.ensures.value,
)

pub returns-in-Err-clause-value : goal.returns-in-Err-clause-value
returns-in-Err-clause-value g c =
    let m = memory_of c.args.state.now in
    fails c.args.piece (outcome_of (g.C.Client.meaning c.args.client.now) (piece_action c.args.rec.now c.args.piece) m) (part_given m (g.C.Client.meaning c.args.client.now) c.command-command.result.now c.args.piece.part) c.in-Err.fault
    (is_given (g.C.Client.meaning c.args.client.now) c.args.rec.now c.args.piece c.command-command.result.now m c.requires.piece c.command-command.ensures c.requires.ready)
    c.in-Err.ensures.value
