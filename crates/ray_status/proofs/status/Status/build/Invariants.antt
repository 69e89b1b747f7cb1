use Rattle.std.proofs.Common.{◌≡◌, drop}
use Rattle.ray_rules.specs.Status.{after_infos}
use Rattle.ray_status.proofs.status.Status.build.Given as goal

-- the status so far goes on with the infos that are left
abbrev pub invariant-loop-k : goal.invariant-loop-k
invariant-loop-k l = after_infos l.i l.k (drop l.k l.infos) l.self ≡ after_infos l.i 0 l.infos l.initial.self
