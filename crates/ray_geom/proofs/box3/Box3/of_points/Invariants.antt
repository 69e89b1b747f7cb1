use Rattle.std.proofs.Common.{◌≡◌, take}
use Rattle.ray_geom.specs.LeastBoxes.{box_of_points}
use Rattle.ray_geom.proofs.box3.Box3.of_points.Given as goal

-- the union of the boxes of the points so far
abbrev pub invariant-loop-v : goal.invariant-loop-v
invariant-loop-v l = l.least ≡ box_of_points (take l.v-index l.points)
