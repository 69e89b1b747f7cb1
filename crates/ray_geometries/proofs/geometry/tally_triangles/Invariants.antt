use Rattle.std.proofs.Common.{◌≡◌, ◌≤◌, take, fold, length}
use Rattle.std.specs.List.{filter_map}
use Rattle.ray_geom.specs.LeastBoxes.{joined_of}
use Rattle.ray_primitives.specs.Primitives.{box_of_triangle}
use Rattle.ray_geometries.proofs.geometry.tally_triangles.Given as goal

-- what is counted so far
abbrev pub invariant-loop-t : goal.invariant-loop-t
invariant-loop-t l = record {
  bounds : l.least ≡ fold joined_of l.fn.bounds (filter_map box_of_triangle (take l.t-index l.triangles));
  active : l.active ≡ length (filter_map box_of_triangle (take l.t-index l.triangles));
  few : l.active ≤ l.t-index;
}
