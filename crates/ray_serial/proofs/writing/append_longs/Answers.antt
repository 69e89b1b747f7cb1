use Rattle.std.proofs.Common.{ap, ◌∙◌, ◌++◌}
use Rattle.ray_serial.proofs.Headers.{long_bytes_none, long_bytes_more}
use Rattle.ray_serial.proofs.writing.append_longs.Goals as goal

pub loop-number-init : goal.loop-number-init
loop-number-init c = long_bytes_none c.args.bytes.now.items

pub loop-number-preserved : goal.loop-number-preserved
loop-number-preserved c =
    c.in_ok-extend_from_slice.ensures.items
    ∙ (ap (λ ys. c.loop-number.bytes.items ++ ys) c.to_le_bytes.ensures
    ∙ long_bytes_more c.args.bytes.now.items c.loop-number.bytes.items c.args.numbers.now c.loop-number.number-index 0 c.loop-number-test.true c.loop-number.invariant)
