use Rattle.std.proofs.Common.{None, ◌∙◌, arith}
use Rattle.std.proofs.lemmas.List.{get_or_default}
use Rattle.ray_climb.proofs.Boxed.{boxes_more, boxes_all}
use Rattle.ray_climb.proofs.limits.check_boxes.Goals as goal

pub loop-i-preserved : goal.loop-i-preserved
loop-i-preserved c = boxes_more c.args.items.now c.loop-i.i c.loop-i.invariant (λ b is. c.check_box.ensures b (c.index-items-i.is ∙ get_or_default c.args.items.now c.loop-i.i c.index-items-i.result None (omega arith) ∙ is))

pub returns : goal.returns
returns c = boxes_all c.args.items.now c.loop-i.i c.loop-i.invariant (omega arith)
