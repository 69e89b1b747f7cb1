use Rattle.ray_memory.specs.State.{memory_of}
use Rattle.ray_permitted.specs.Job.{recorded}
use Rattle.ray_exec.specs.Runs.{IsRunTo}
use Rattle.ray_certify.specs.Rays.{rays_below}
use Rattle.ray_certify.specs.Scenes.{IsCheckedTo}
use Rattle.ray_certify.proofs.verifying.verify.Given as goal

-- the commands so far were run, and the lines of their rays looked at
abbrev pub invariant-loop-command : goal.invariant-loop-command
invariant-loop-command g l =
    IsRunTo (recorded l.fn.rec) l.command (memory_of l.state) l.text.items × IsCheckedTo l.fn.lines (rays_below (recorded l.fn.rec) l.command) l.checked
