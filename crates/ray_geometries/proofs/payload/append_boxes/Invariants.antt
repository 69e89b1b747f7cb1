use Rattle.std.proofs.Common.{◌≡◌, ◌+◌, ◌++◌, take}
use Rattle.std.specs.List.{flat_map}
use Rattle.ray_primitives.specs.StoredPrimitives.{aabb_bytes}
use Rattle.ray_geometries.proofs.payload.append_boxes.Given as goal

-- the boxes so far
abbrev pub invariant-loop-b : goal.invariant-loop-b
invariant-loop-b g l = record {
  bytes : l.bytes.items ≡ l.initial.bytes.items ++ flat_map aabb_bytes (take l.b-index l.boxes);
  steps : l.steps ≡ l.initial.steps + l.b-index;
}
