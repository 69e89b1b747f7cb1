use Rattle.std.proofs.Common.{◌≡◌, take}
use Rattle.ray_geometries.proofs.geometry.copy_boxes.Given as goal

-- the boxes so far
abbrev pub invariant-loop-b : goal.invariant-loop-b
invariant-loop-b l = l.copy.items ≡ take l.b-index l.boxes
