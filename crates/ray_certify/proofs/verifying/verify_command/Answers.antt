use Rattle.ray_action.specs.Pieces.{command_at}
use Rattle.ray_memory.specs.State.{memory_of}
use Rattle.ray_certify.specs.Scenes.{rays_in}
use Rattle.ray_certify.proofs.Verdicts.{stopped}
use Rattle.ray_certify.proofs.verifying.verify_command.Goals as goal

pub returns-in-Uncertified : goal.returns-in-Uncertified
returns-in-Uncertified c =
    stopped c.args.lines.now (rays_in (memory_of c.args.state.now) c.args.command (command_at c.args.rec.now c.args.command)) c.args.checked c.in-Uncertified.command c.in-Uncertified.ray c.in-Uncertified.is
