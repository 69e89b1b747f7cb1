use Rattle.std.proofs.Common.{◌≡◌, ◌+◌, ◌-◌, length, subst, arith}
use Rattle.ray_tree.specs.Shapes.{node_at}
use Rattle.ray_tree.proofs.Filled.{AreLocalFrom, filled}
use Rattle.ray_morton.specs.Tips.{AreTips}
use Rattle.ray_morton.proofs.Joined.{local_join, fewer_tips}
use Rattle.ray_morton.proofs.fill.fill.Goals as goal

pub loop-i-preserved : goal.loop-i-preserved
loop-i-preserved g c =
    let items = c.args.items.now in
    let order = c.args.order.now in
    let nodes = c.args.nodes.now in
    let i = c.loop-i.i - 1 in
    let bound = c.loop-i.invariant.2 in
    let same : c.loop-i.i ≡ i + 1 = omega arith in
    let boxed : length c.loop-i.boxes ≡ length nodes = omega arith in
    let tips = subst (AreTips items order c.loop-i.boxes nodes) same c.loop-i.invariant.1 in (
      filled items order c.loop-i.boxes nodes i c.box_by-made.result (omega arith) boxed c.requires.rising
          (subst (AreLocalFrom items order c.loop-i.boxes nodes) same c.loop-i.invariant.0)
          (local_join items order c.loop-i.boxes i c.box_by-made.result (node_at nodes i) (tips.each i (omega arith)) c.box_by-made.ensures),
      fewer_tips items order c.loop-i.boxes nodes i c.box_by-made.result tips,
      omega arith,
    )

pub returns : goal.returns
returns g c = record { each = λ n small. c.loop-i.invariant.0.each n (omega arith) small }
