-- What the laws of pruning say: which boxes a walk of trees may leave out.
use Rattle.std.specs.Prelude.{ℕ, pos, ◌≡◌, ◌^◌, ◌*ℤ◌, Option, None, List, fold}
use Rattle.std.specs.List.{All}
use Rattle.ray_geom.specs.declared.vec3.Vec3.{Vec3}
use Rattle.ray_geom.specs.Vector.{IsShort}
use Rattle.ray_geom.specs.Scene.{RayValue, TriValue}
use Rattle.ray_geom.specs.TriangleHit.{num_of, den_of}
use Rattle.ray_geom.specs.Transform.{MatrixValue, image_of}
use Rattle.ray_geom.specs.Boxes.{BoxValue, IsIn, corners_of}
use Rattle.ray_geom.specs.LeastBoxes.{point_box, joined_of}

-- n / d is the distance num / den at which the ray meets the triangle's plane; a hit's t is it (own)
abbrev pub IsDistance : RayValue → TriValue → ℕ → ℕ → Type 0
IsDistance ray tri n d = pos n *ℤ den_of ray tri ≡ num_of ray tri *ℤ pos d

-- a box holds the images of the eight corners of another (own)
pub record HoldsImages (m : MatrixValue) (box world : BoxValue) : Type 0 where
  pub each : All (λ corner. IsIn (image_of m corner) world) (corners_of box)

-- the images of the eight corners of a box are within the limits (own)
pub record KeepsCorners (m : MatrixValue) (box : BoxValue) : Type 0 where
  pub each : All (λ corner. IsShort (2 ^ 19) (image_of m corner)) (corners_of box)

-- the union of the images of points, in order
abbrev pub box_of_images : MatrixValue → List Vec3 → Option BoxValue
box_of_images m points = fold (λ so_far p. joined_of so_far (point_box (image_of m p))) None points
