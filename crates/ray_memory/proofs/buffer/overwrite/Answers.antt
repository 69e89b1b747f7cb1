use Rattle.std.proofs.Common.{arith}
use Rattle.std.specs.Prelude.{slice_get}
use Rattle.ray_memory.proofs.Writing.{overwritten, written-past}
use Rattle.ray_memory.proofs.buffer.overwrite.Goals as goal

pub returns-then-to-len : goal.returns-then-to-len
returns-then-to-len c =
    let room = c.min-room.ensures in
    let count = c.min-count.ensures in
    overwritten c.args.to c.args.from.now c.args.bytes.now c.copy_to.new.bytes c.min-count.result (omega (arith, count, room)) (omega (arith, count))
    (omega (arith, count, room, c.if-to-len.true)) (λ less more. omega (arith, count, room)) c.copy_to.ensures

pub returns-else-to-len : goal.returns-else-to-len
returns-else-to-len c = written-past c.args.to (slice_get c.args.from.now) c.args.bytes.now (omega (arith, c.if-to-len.false))
