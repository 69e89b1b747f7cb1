use Rattle.std.proofs.Common.{ℕ, map, take}
use Rattle.ray_submits.specs.Submits.{QueueCommands}
use Rattle.ray_queues.specs.Events.{timeline_point}
use Rattle.ray_queues.specs.Marks.{AreMarks}
use Rattle.ray_queues.specs.Sources.{ArePerQueue, number_met}
use Rattle.ray_queues.proofs.marks.Marks.met.Given as goal

-- of the waits so far
abbrev pub invariant-loop-wait : goal.invariant-loop-wait
invariant-loop-wait l =
    (q : QueueCommands) (n : ℕ) → AreMarks q n l.self
    → ArePerQueue (number_met q n (map timeline_point (take l.wait-index l.waits))) l.numbers
