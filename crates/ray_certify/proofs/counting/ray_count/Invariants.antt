use Rattle.std.specs.Prelude.{◌≡◌, ◌*◌, ◌≤◌}
use Rattle.ray_certify.specs.Rays.{ray_count}
use Rattle.ray_certify.proofs.counting.ray_count.Given as goal

-- the rays of the commands so far, each of which has fewer than 2^32
abbrev pub invariant-loop-command : goal.invariant-loop-command
invariant-loop-command l = (l.count ≡ ray_count l.fn.rec l.command) × (l.count ≤ l.command * 4294967295)
