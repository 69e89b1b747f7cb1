use Rattle.std.proofs.Common.{◌≡◌, drop}
use Rattle.ray_ranges.specs.Sweep.{ascend_from}
use Rattle.ray_ranges.proofs.sweep.ascend.Given as goal

abbrev pub invariant-loop-swept : goal.invariant-loop-swept
invariant-loop-swept l = ascend_from l.ends l.other_ends (drop l.swept-index l.all) ≡ ascend_from 0 0 l.all
