use Rattle.std.proofs.Common.{map, take}
use Rattle.ray_queues.specs.Marks.{AddMarks, mark_of}
use Rattle.ray_queues.proofs.marks.Marks.signal.Given as goal

-- the signals so far
abbrev pub invariant-loop-point : goal.invariant-loop-point
invariant-loop-point l = AddMarks l.fn.self (map (mark_of l.n l.numbers) (take l.point-index l.signals)) l.self
