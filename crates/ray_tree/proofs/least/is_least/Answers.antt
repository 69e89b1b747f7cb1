use Rattle.std.proofs.Common.{arith}
use Rattle.ray_tree.proofs.ItemBoxes.{is_local}
use Rattle.ray_tree.proofs.least.is_least.Goals as goal

pub returns : goal.returns
returns c =
    is_local c.args.items.now c.args.order.now c.args.boxes.now c.args.nodes.now c.args.n c.index-boxes-n.result c.box_by.result c.eq.result
    (omega arith) c.index-boxes-n.is c.box_by.ensures c.eq.ensures
