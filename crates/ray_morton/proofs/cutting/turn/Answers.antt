use Rattle.std.proofs.Common.{refl, arith}
use Rattle.ray_morton.proofs.Turns.{turned}
use Rattle.ray_morton.proofs.cutting.turn.Goals as goal

pub returns : goal.returns
returns c =
    turned c.args.keys.now c.args.bit _ c.loop-below.below c.loop-below.from c.requires.some c.requires.rising c.requires.same refl
    c.loop-below.invariant (omega arith)
