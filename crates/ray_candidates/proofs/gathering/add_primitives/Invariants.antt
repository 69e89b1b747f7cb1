use Rattle.std.proofs.Common.{◌≡◌, ◌≤◌, ◌++◌}
use Rattle.ray_candidates.specs.Candidates.{found_at, joined}
use Rattle.ray_candidates.specs.Telling.{placed_value}
use Rattle.ray_candidates.proofs.gathering.add_primitives.Given as goal

-- the primitives so far
abbrev pub invariant-loop-primitive : goal.invariant-loop-primitive
invariant-loop-primitive g l = record {
  value : l.found.items ≡ l.initial.found.items ++ joined (found_at l.ray l.flags l.bottom.geometries (placed_value l.at)) l.primitive;
  rising : l.initial.steps ≤ l.steps;
}
