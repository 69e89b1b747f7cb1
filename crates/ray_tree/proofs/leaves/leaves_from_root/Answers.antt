use Rattle.std.proofs.Common.{length}
use Rattle.ray_tree.specs.Shapes.{shape_in, tips}
use Rattle.ray_tree.proofs.Waiting.{same_leaves, less_waits}
use Rattle.ray_tree.proofs.leaves.leaves_from_root.Goals as goal

pub loop-wait-smaller : goal.loop-wait-smaller
loop-wait-smaller c =
    less_waits c.args.nodes.now c.in-Some.wait c.loop-wait.waits.items c.pop.new.self.items c.step_down.new.waits.items
    c.loop-wait.leaves.items c.step_down.new.leaves.items c.in-Some.ensures.items c.in_ok-step_down.ensures

pub loop-wait-preserved : goal.loop-wait-preserved
loop-wait-preserved c =
    let nodes = c.args.nodes.now in
    same_leaves nodes c.in-Some.wait c.loop-wait.waits.items c.pop.new.self.items c.step_down.new.waits.items
    c.loop-wait.leaves.items c.step_down.new.leaves.items (tips (shape_in (length nodes) nodes 0))
    c.in-Some.ensures.items c.in_ok-step_down.ensures c.loop-wait.invariant
