use Rattle.ray_memory.specs.State.{memory_of}
use Rattle.ray_permitted.specs.Job.{recorded}
use Rattle.ray_exec.specs.Runs.{IsRunTo}
use Rattle.ray_certify.specs.Certified.{AreMade}
use Rattle.ray_certify.specs.Rays.{rays_below}
use Rattle.ray_certify.proofs.certifying.certify.Given as goal

-- the commands so far were run, and the lines are those of their rays
abbrev pub invariant-loop-command : goal.invariant-loop-command
invariant-loop-command g l =
    IsRunTo (recorded l.fn.rec) l.command (memory_of l.state) l.text.items × AreMade (rays_below (recorded l.fn.rec) l.command) l.lines.items
