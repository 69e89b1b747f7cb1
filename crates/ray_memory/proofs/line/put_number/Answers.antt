use Rattle.std.proofs.Common.{arith}
use Rattle.std.proofs.lemmas.Fmt.{length-decimal-le}
use Rattle.ray_memory.proofs.line.put_number.Goals as goal

pub write_digits-requires : goal.write_digits-requires
write_digits-requires c = omega (arith, length-decimal-le 20 c.args.number (omega arith) (omega arith) c.ranges.number.fits)

pub returns : goal.returns
returns c =
    let short = length-decimal-le 20 c.args.number (omega arith) (omega arith) c.ranges.number.fits in
    record { written = c.write_digits.ensures.written; within = omega arith; near = omega arith; sized = c.write_digits.auto.buf }
