use Rattle.ray_exec.proofs.Filling.{one_part}
use Rattle.ray_exec.proofs.wave.add_pieces.Goals as goal

pub loop-part-preserved : goal.loop-part-preserved
loop-part-preserved c =
    one_part c.args.pieces.now.items c.loop-part.pieces.items c.push.new.self.items c.args.command c.loop-part.part c.loop-part.invariant c.in_ok-push.ensures.items
