use Rattle.std.proofs.Common.{◌≡◌, ◌+◌, ◌++◌, take}
use Rattle.std.specs.List.{flat_map}
use Rattle.ray_geometries.specs.Contents.{total_of}
use Rattle.ray_geometries.specs.Storing.{geometry_bytes}
use Rattle.ray_geometries.proofs.payload.append_geometries.Given as goal

-- the geometries so far
abbrev pub invariant-loop-g : goal.invariant-loop-g
invariant-loop-g g l = record {
  bytes : l.bytes.items ≡ l.initial.bytes.items ++ flat_map geometry_bytes (take l.g-index l.geometries);
  steps : l.steps ≡ l.initial.steps + total_of (take l.g-index l.geometries);
}
