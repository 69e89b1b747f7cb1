use Rattle.std.proofs.Common.{◌≡◌, take}
use Rattle.ray_geom.specs.LeastBoxes.{box_of_boxes}
use Rattle.ray_geom.proofs.box3.Box3.of_boxes.Given as goal

-- the union of the boxes so far
abbrev pub invariant-loop-b : goal.invariant-loop-b
invariant-loop-b l = l.least ≡ box_of_boxes (take l.b-index l.boxes)
