use Rattle.ray_top.proofs.Images.{least-image}
use Rattle.ray_top.proofs.items.world_box.Goals as goal

pub returns : goal.returns
returns c = least-image c.args.m.now c.args.bounds.now c.image_box.result c.image_box.ensures
