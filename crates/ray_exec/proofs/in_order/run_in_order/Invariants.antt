use Rattle.ray_memory.specs.State.{memory_of}
use Rattle.ray_permitted.specs.Job.{on_one_queue}
use Rattle.ray_exec.specs.Runs.{IsRunTo}
use Rattle.ray_exec.proofs.in_order.run_in_order.Given as goal

-- the commands so far were run
abbrev pub invariant-loop-command : goal.invariant-loop-command
invariant-loop-command g l = IsRunTo (on_one_queue l.fn.rec (g.F.Fetcher.clients l.fn.fetcher l.fn.rec)) l.command (memory_of l.state) l.text.items
