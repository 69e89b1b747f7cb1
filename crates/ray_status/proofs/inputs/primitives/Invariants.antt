use Rattle.std.proofs.Common.{◌≡◌, ◌*◌, ◌≤◌, take}
use Rattle.std.specs.List.{sum_by}
use Rattle.ray_rules.specs.Ranges.{count_of}
use Rattle.ray_status.proofs.inputs.primitives.Given as goal

-- the sum of those before, each below 2^32
abbrev pub invariant-loop-geometry : goal.invariant-loop-geometry
invariant-loop-geometry l =
    (l.total ≡ sum_by count_of (take l.geometry-index l.geometries)) × (l.total ≤ l.geometry-index * 4294967296)
