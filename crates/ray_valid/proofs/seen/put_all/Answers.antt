use Rattle.std.proofs.Common.{◌<◌, length, arith}
use Rattle.ray_valid.proofs.Seeing.{added-more}
use Rattle.ray_valid.proofs.seen.put_all.Goals as goal

pub loop-id-preserved : goal.loop-id-preserved
loop-id-preserved c = λ test.
    let within : c.loop-id.id-index < length c.args.uses.now = omega arith in
    added-more test c.args.uses.now c.loop-id.id-index 0 c.put.new.ids.keys c.loop-id.ids.keys c.args.ids.now.keys within
    (c.in_ok-put.ensures test) (c.loop-id.invariant test)
