use Rattle.std.proofs.Common.{◌≡◌, ◌+◌, ◌++◌, take}
use Rattle.std.specs.List.{flat_map}
use Rattle.ray_primitives.specs.StoredPrimitives.{triangle_bytes}
use Rattle.ray_geometries.proofs.payload.append_triangles.Given as goal

-- the triangles so far
abbrev pub invariant-loop-t : goal.invariant-loop-t
invariant-loop-t g l = record {
  bytes : l.bytes.items ≡ l.initial.bytes.items ++ flat_map triangle_bytes (take l.t-index l.triangles);
  steps : l.steps ≡ l.initial.steps + l.t-index;
}
