-- Bounds: how they grow, and what it is that a transform keeps them within the limits.
use Rattle.std.specs.Prelude.{Option, Some, None}
use Rattle.ray_geom.specs.Boxes.{BoxValue}
use Rattle.ray_geom.specs.Transform.{MatrixValue}
use Rattle.ray_geom.specs.LeastBoxes.{joined_of}
use Rattle.ray_prune.specs.Pruning.{KeepsCorners}

-- what there is so far, with the box of one thing more, which has none where it is inactive
abbrev pub extended_of : Option BoxValue → Option BoxValue → Option BoxValue
extended_of so_far None = so_far
extended_of so_far (Some box) = joined_of so_far box

-- the images of the eight corners of bounds, if there are any, are within the limits of points (own)
abbrev pub KeepsBounds : MatrixValue → Option BoxValue → Type 0
KeepsBounds m None = Unit {0}
KeepsBounds m (Some box) = KeepsCorners m box
