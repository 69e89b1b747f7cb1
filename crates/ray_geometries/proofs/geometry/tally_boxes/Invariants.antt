use Rattle.std.proofs.Common.{◌≡◌, ◌≤◌, take, fold, length}
use Rattle.std.specs.List.{filter_map}
use Rattle.ray_geom.specs.LeastBoxes.{joined_of}
use Rattle.ray_geometries.proofs.geometry.tally_boxes.Given as goal

-- what is counted so far
abbrev pub invariant-loop-b : goal.invariant-loop-b
invariant-loop-b l = record {
  bounds : l.least ≡ fold joined_of l.fn.bounds (filter_map (λ box. box) (take l.b-index l.boxes));
  active : l.active ≡ length (filter_map (λ box. box) (take l.b-index l.boxes));
  few : l.active ≤ l.b-index;
}
