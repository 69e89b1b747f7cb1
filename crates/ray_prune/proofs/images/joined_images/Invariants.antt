use Rattle.std.proofs.Common.{◌≡◌, take}
use Rattle.ray_prune.specs.Pruning.{box_of_images}
use Rattle.ray_prune.proofs.images.joined_images.Given as goal

-- the union of the images so far
abbrev pub invariant-loop-p : goal.invariant-loop-p
invariant-loop-p l = l.least ≡ box_of_images l.m (take l.p-index l.points)
