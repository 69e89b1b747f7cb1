use Rattle.std.proofs.Common.{ap, ◌∙◌, ◌++◌, arith}
use Rattle.ray_serial.specs.TopWritten.{instance_bytes}
use Rattle.ray_serial.proofs.TopSteps.{all_none, all_more}
use Rattle.ray_serial.proofs.top_writing.append_all.Goals as goal

pub loop-i-init : goal.loop-i-init
loop-i-init c = all_none c.args.handles.now c.args.bytes.now.items

pub loop-i-preserved : goal.loop-i-preserved
loop-i-preserved c =
    c.in_ok-append_instance.ensures
    ∙ (ap (λ told. c.loop-i.bytes.items ++ instance_bytes c.args.handles.now told) c.told.ensures.value
    ∙ all_more c.args.handles.now c.args.bytes.now.items c.loop-i.bytes.items c.args.top.now.contents.instances c.loop-i.i
    (omega (arith, c.len-i-end.ensures.value)) c.loop-i.invariant)
