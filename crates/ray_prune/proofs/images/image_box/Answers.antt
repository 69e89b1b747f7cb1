use Rattle.std.proofs.Common.{rules}
use Rattle.ray_prune.proofs.Corners.{IsImageBox-fold, IsLeast-unwrapped, KeepsCorners-each}
use Rattle.ray_prune.proofs.images.image_box.Goals as goal

pub joined_images-requires-clause-kept : goal.joined_images-requires-clause-kept
joined_images-requires-clause-kept c =
    KeepsCorners-each c.args.m.now c.args.b.now c.corners.result c.corners.ensures.value c.requires

pub unwrap-requires : goal.unwrap-requires
unwrap-requires c =
    (IsImageBox-fold c.args.m.now c.args.b.now c.corners.result c.joined_images.result c.corners.ensures.value c.joined_images.ensures).some

pub returns : goal.returns
returns c =
    IsLeast-unwrapped c.args.m.now c.args.b.now c.joined_images.result c.unwrap.result
    (IsImageBox-fold c.args.m.now c.args.b.now c.corners.result c.joined_images.result c.corners.ensures.value c.joined_images.ensures).least
    (search rules)
