use Rattle.std.proofs.Common.{◌∙◌, length, sym, ap, subst}
use Rattle.ray_tree.specs.Trees.{TreeOver}
use Rattle.ray_tree.specs.Local.{AreFit, AreLocal}
use Rattle.ray_morton.proofs.Made.{made-fit, made-over}
use Rattle.ray_morton.proofs.build.build_fast.Goals as goal

pub boxes_over-requires-clause-fit : goal.boxes_over-requires-clause-fit
boxes_over-requires-clause-fit g c κs lives =
    let order = c.in_ok-layout.layout.order.items in
    subst (λ l. AreFit (length l) c.deref-2.result.now) (sym c.deref.ensures.value)
    (subst (AreFit (length order)) (sym c.deref-2.ensures.value)
    (made-fit c.args.items.now order c.in_ok-layout.layout.nodes.items c.in_ok-layout.ensures))

pub of_parts-requires-clause-over : goal.of_parts-requires-clause-over
of_parts-requires-clause-over g c =
    let items = c.args.items.now in
    let order = c.in_ok-layout.layout.order.items in
    let nodes = c.in_ok-layout.layout.nodes.items in
    let boxes = c.in_ok-boxes.boxes.items in
    made-over items order nodes boxes c.in_ok-layout.ensures (c.in_ok-boxes.ensures.boxed ∙ ap length c.deref-2.ensures.value)
    (subst (λ l. AreLocal items l boxes nodes) c.deref.ensures.value
    (subst (AreLocal items c.deref.result.now boxes) c.deref-2.ensures.value c.in_ok-boxes.ensures.local))

pub returns-clause-over : goal.returns-clause-over
returns-clause-over g c =
    let items = c.args.items.now in
    let order = c.in_ok-layout.layout.order.items in
    let nodes = c.in_ok-layout.layout.nodes.items in
    let boxes = c.in_ok-boxes.boxes.items in
    subst (λ t. TreeOver t items) (sym c.in_ok-tree.ensures)
    (made-over items order nodes boxes c.in_ok-layout.ensures (c.in_ok-boxes.ensures.boxed ∙ ap length c.deref-2.ensures.value)
    (subst (λ l. AreLocal items l boxes nodes) c.deref.ensures.value
    (subst (AreLocal items c.deref.result.now boxes) c.deref-2.ensures.value c.in_ok-boxes.ensures.local)))
