use Rattle.std.proofs.Common.{◌∙◌}
use Rattle.ray_serial.proofs.TopForms.{put_none, put_more}
use Rattle.ray_serial.proofs.linking.put_parts.Goals as goal

pub loop-part-init : goal.loop-part-init
loop-part-init c = c.in_ok-buffer.ensures.items ∙ put_none c.args.bytes.now

pub loop-part-preserved : goal.loop-part-preserved
loop-part-preserved c =
    c.in_ok-append_part.ensures
    ∙ put_more c.args.bytes.now c.loop-part.buffer.items c.args.parts.now c.loop-part.part-index c.loop-part-test.true c.loop-part.invariant
