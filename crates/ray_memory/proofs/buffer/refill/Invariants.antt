use Rattle.ray_memory.specs.Bytes.{IsRefilled, first_of}
use Rattle.ray_memory.proofs.buffer.refill.Given as goal

-- the first bytes are written
abbrev pub invariant-loop-k : goal.invariant-loop-k
invariant-loop-k l = IsRefilled (first_of l.fn.to l.k) l.value l.initial.bytes l.bytes
