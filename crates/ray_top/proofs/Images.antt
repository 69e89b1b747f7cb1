-- The least box of images is the one that the images come to in order.
use Rattle.std.proofs.Common.{◌≡◌, Option, Some, None, refl, ap}
use Rattle.std.specs.Prelude.{IsSome}
use Rattle.ray_geom.specs.Boxes.{BoxValue, corners_of}
use Rattle.ray_geom.specs.LeastBoxes.{IsLeast}
use Rattle.ray_geom.specs.Transform.{MatrixValue}
use Rattle.ray_prune.specs.Pruning.{HoldsImages, box_of_images}
use Rattle.ray_prune.proofs.Corners.{IsImageBox, IsImageBox-fold}
use Rattle.ray_prune.proofs.Unions.{IsLeast-only}
use Rattle.ray_top.specs.Trees.{world_box}

the_one : (m : MatrixValue) (box w : BoxValue) (o : Option BoxValue) → IsImageBox m box o → IsLeast (HoldsImages m box) w → Some w ≡ o
the_one m box w None is least = absurd (let never : IsSome {T = BoxValue} None = is.some in cc)
the_one m box w (Some v) is least = ap Some (IsLeast-only (HoldsImages m box) w v least is.least)

pub least-image : (m : MatrixValue) (box w : BoxValue) → IsLeast (HoldsImages m box) w → Some w ≡ world_box m box
unfolding world_box
least-image m box w least =
    the_one m box w (box_of_images m (corners_of box)) (IsImageBox-fold m box (corners_of box) (box_of_images m (corners_of box)) refl refl) least
