use Rattle.std.specs.Prelude.{◌+◌}
use Rattle.ray_memory.specs.State.{memory_of}
use Rattle.ray_permitted.specs.Job.{on_one_queue}
use Rattle.ray_exec.proofs.Progress.{IsLeft, course_below, parts_left}
use Rattle.ray_exec.proofs.in_order.run_pieces.Given as goal

-- with the text so far, the parts that are left come to the whole
abbrev pub invariant-loop-part : goal.invariant-loop-part
invariant-loop-part g l =
    IsLeft (g.F.Fetcher.clients l.fn.fetcher l.fn.rec) (l.fn.command + 1) (course_below (on_one_queue l.fn.rec (g.F.Fetcher.clients l.fn.fetcher l.fn.rec)) (l.fn.command + 1))
    (parts_left l.fn.rec (l.fn.command + 1) l.fn.command l.part) (memory_of l.state) l.fn.text
