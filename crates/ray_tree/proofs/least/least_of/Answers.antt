use Rattle.std.proofs.Common.{◌+◌, take, sym, subst, arith}
use Rattle.ray_geom.specs.LeastBoxes.{HoldsBoxes, IsLeast}
use Rattle.ray_tree.specs.Trees.{boxes_of}
use Rattle.ray_tree.proofs.ItemBoxes.{least_first, least_more}
use Rattle.ray_tree.proofs.least.least_of.Goals as goal

pub loop-i-init : goal.loop-i-init
loop-i-init c = least_first c.args.items.now c.args.numbers.now c.bounds_of-least.result c.requires.some c.bounds_of-least.ensures

pub loop-i-preserved : goal.loop-i-preserved
loop-i-preserved c =
    subst (IsLeast (HoldsBoxes (boxes_of c.args.items.now (take (c.loop-i.i + 1) c.args.numbers.now)))) (sym c.union-least.ensures.value)
    (least_more c.args.items.now c.args.numbers.now c.loop-i.i c.loop-i.least c.bounds_of.result (omega arith) c.bounds_of.ensures c.loop-i.invariant)
