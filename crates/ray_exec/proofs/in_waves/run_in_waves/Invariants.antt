use Rattle.ray_memory.specs.State.{memory_of}
use Rattle.ray_permitted.specs.Job.{on_one_queue}
use Rattle.ray_exec.specs.Progress.{IsDone}
use Rattle.ray_exec.proofs.in_waves.run_in_waves.Given as goal

-- the waves so far are done
abbrev pub invariant-loop-wave : goal.invariant-loop-wave
invariant-loop-wave g l = IsDone (on_one_queue l.fn.rec (g.F.Fetcher.clients l.fn.fetcher l.fn.rec)) l.fn.ranks l.fn.until l.wave (memory_of l.state) l.text.items l.stop
