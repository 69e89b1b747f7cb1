use Rattle.ray_top.proofs.Index.{index_none, index_more}
use Rattle.ray_top.proofs.used_index.noted.Goals as goal

pub loop-u-init : goal.loop-u-init
loop-u-init c = index_none _ c.new-bounds.ensures.empty

pub loop-u-preserved : goal.loop-u-preserved
loop-u-preserved c =
    index_more c.args.used.now c.loop-u.u-index c.u-item.result _ _ c.loop-u-test.true c.u-item.is c.loop-u.invariant c.in_ok-note.ensures
