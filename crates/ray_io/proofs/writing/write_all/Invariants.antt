use Rattle.std.proofs.Common.{length, ◌-◌, ◌≡◌, ◌≤◌, is_some}
use Rattle.ray_io.proofs.Written.{HasTaken}
use Rattle.ray_io.proofs.writing.write_all.Given as goal

abbrev pub invariant-loop-written : goal.invariant-loop-written
invariant-loop-written g l =
    let sink = g.K.Sink in
    let start = l.fn.sink in
    record {
      within : l.written ≤ length l.bytes;
      told : HasTaken (sink.taken start) (sink.taken l.sink) l.written l.bytes;
      telling : is_some (sink.taken l.sink) ≡ is_some (sink.taken start);
      rising : sink.faults start ≤ sink.faults l.sink;
      zero_kept : sink.zero_writes l.sink ≡ sink.zero_writes start;
      untouched : l.written ≡ 0 → l.sink ≡ start;
    }

abbrev pub decreases-loop-written : goal.decreases-loop-written
decreases-loop-written g l = length l.bytes - l.written
