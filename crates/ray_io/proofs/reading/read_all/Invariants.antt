use Rattle.std.proofs.Common.{◌≡◌, ◌-◌, ◌<◌, ◌≤◌, is_some, length, vec_len}
use Rattle.ray_io.proofs.Got.{HasGiven}
use Rattle.ray_io.proofs.reading.read_all.Given as goal

abbrev pub invariant-loop-bytes : goal.invariant-loop-bytes
invariant-loop-bytes g l =
    let source = g.S.Source in
    let start = l.fn.source in
    record {
      limited : vec_len l.bytes ≤ l.limit;
      buffered : 0 < length l.buffer;
      told : HasGiven (source.left start) (source.left l.source) l.bytes.items;
      telling : is_some (source.left l.source) ≡ is_some (source.left start);
      rising : source.faults start ≤ source.faults l.source;
    }

abbrev pub decreases-loop-bytes : goal.decreases-loop-bytes
decreases-loop-bytes g l = l.limit - vec_len l.bytes
