use Rattle.std.proofs.Common.{◌≡◌, ◌≤◌, ◌++◌, slice_get}
use Rattle.ray_candidates.specs.Candidates.{found_in_geometry, joined}
use Rattle.ray_top.specs.Instances.{instance_value}
use Rattle.ray_candidates.proofs.gathering.add_structure.Given as goal

-- the geometries so far
abbrev pub invariant-loop-geometry : goal.invariant-loop-geometry
invariant-loop-geometry g l = record {
  value : l.found.items ≡ l.initial.found.items ++ joined (λ n. found_in_geometry l.ray l.flags l.bottom.geometries l.number (instance_value l.instance) n (slice_get l.bottom.geometries n)) l.geometry;
  rising : l.initial.steps ≤ l.steps;
}
