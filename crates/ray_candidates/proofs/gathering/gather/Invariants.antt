use Rattle.std.proofs.Common.{◌≡◌, ◌≤◌}
use Rattle.ray_candidates.specs.Candidates.{active_instance, found_in_instance, joined}
use Rattle.ray_candidates.specs.Standing.{structures_in}
use Rattle.ray_candidates.proofs.gathering.gather.Given as goal

-- the instances so far
abbrev pub invariant-loop-number : goal.invariant-loop-number
invariant-loop-number g l = record {
  value : l.found.items ≡ joined (λ n. found_in_instance (structures_in l.bottoms) l.ray l.flags l.mask n (active_instance l.top.contents n)) l.number;
  rising : l.initial.steps ≤ l.steps;
}
