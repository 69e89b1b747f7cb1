use Rattle.std.proofs.Common.{◌≡◌}
use Rattle.ray_grounds.specs.Submits.{last_submit}
use Rattle.ray_grounds.proofs.submits.last_submit.Given as goal

-- the last submit is that of the commands so far
abbrev pub invariant-loop-k : goal.invariant-loop-k
invariant-loop-k l = l.last ≡ last_submit l.rec l.k
