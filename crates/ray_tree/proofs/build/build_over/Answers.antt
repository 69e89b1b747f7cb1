use Rattle.std.proofs.Common.{rules, ◌≡◌, ◌∙◌, ◌≤◌, length, sym, ap, subst, arith}
use Rattle.ray_tree.specs.Shapes.{levels, AreHalves}
use Rattle.ray_tree.specs.Trees.{TreeOver, tree_value, shape_at}
use Rattle.ray_tree.specs.Local.{AreFit, AreLocal}
use Rattle.ray_tree.specs.Plans.{AreRising}
use Rattle.ray_tree.proofs.Counting.{has_items}
use Rattle.ray_tree.proofs.Locals.{tree_over}
use Rattle.ray_tree.proofs.Median.{order-few, once-most, median_of, median-fit}
use Rattle.ray_tree.proofs.build.build_over.Goals as goal

pub nodes_over-requires : goal.nodes_over-requires
nodes_over-requires c =
    let len : c.len.result ≡ length c.args.order.items = search rules in
    omega (arith, order-few c.args.order.items c.args.items.now c.requires.once)

pub boxes_over-requires-clause-fit : goal.boxes_over-requires-clause-fit
boxes_over-requires-clause-fit c =
    let items = c.args.items.now in
    let order = c.args.order.items in
    let nodes = c.in_ok-nodes.nodes.items in
    let len : c.len.result ≡ length order = search rules in
    let m = median_of order items nodes c.len.result c.requires.once c.requires.few len c.in_ok-nodes.ensures in
    let fit : AreFit (length order) nodes = median-fit nodes (length order) order m (λ i. length order) (once-most order items c.requires.once) in
    subst (λ l. AreFit (length l) c.deref-2.result.now) (sym c.deref.ensures.value)
    (subst (AreFit (length order)) (sym c.deref-2.ensures.value) fit)

pub boxes_over-requires-clause-rising : goal.boxes_over-requires-clause-rising
boxes_over-requires-clause-rising c =
    let order = c.args.order.items in
    let len : c.len.result ≡ length order = search rules in
    subst AreRising (sym c.deref-2.ensures.value)
    (median_of order c.args.items.now c.in_ok-nodes.nodes.items c.len.result c.requires.once c.requires.few len c.in_ok-nodes.ensures).rising

pub kept-requires-clause-shape : goal.kept-requires-clause-shape
kept-requires-clause-shape c =
    let items = c.args.items.now in
    let order = c.args.order.items in
    let nodes = c.in_ok-nodes.nodes.items in
    let len : c.len.result ≡ length order = search rules in
    let m = median_of order items nodes c.len.result c.requires.once c.requires.few len c.in_ok-nodes.ensures in
    m.shape c.in_ok-boxes.boxes.items order (λ i. length order) (c.in_ok-boxes.ensures.boxed ∙ ap length c.deref-2.ensures.value)
    (once-most order items c.requires.once)

pub kept-requires-clause-few : goal.kept-requires-clause-few
kept-requires-clause-few c =
    omega (arith, order-few c.args.order.items c.args.items.now c.requires.once)

pub returns-clause-over : goal.returns-clause-over
returns-clause-over c =
    let items = c.args.items.now in
    let order = c.args.order.items in
    let nodes = c.in_ok-nodes.nodes.items in
    let boxes = c.in_ok-boxes.boxes.items in
    let len : c.len.result ≡ length order = search rules in
    let m = median_of order items nodes c.len.result c.requires.once c.requires.few len c.in_ok-nodes.ensures in
    let shape = m.shape boxes order (λ i. length order) (c.in_ok-boxes.ensures.boxed ∙ ap length c.deref-2.ensures.value)
    (once-most order items c.requires.once) in
    let local = subst (λ l. AreLocal items l boxes nodes) c.deref.ensures.value
    (subst (AreLocal items c.deref.result.now boxes) c.deref-2.ensures.value c.in_ok-boxes.ensures.local) in
    subst (λ t. TreeOver t items) (sym c.in_ok-tree.ensures)
    (tree_over (tree_value nodes boxes order) items shape (has_items order items c.requires.once) local)

pub returns-clause-halves : goal.returns-clause-halves
returns-clause-halves c =
    let order = c.args.order.items in
    let len : c.len.result ≡ length order = search rules in
    subst (λ t. AreHalves (shape_at t 0)) (sym c.in_ok-tree.ensures)
    (median_of order c.args.items.now c.in_ok-nodes.nodes.items c.len.result c.requires.once c.requires.few len c.in_ok-nodes.ensures).even

pub returns-clause-low : goal.returns-clause-low
returns-clause-low c =
    let order = c.args.order.items in
    let len : c.len.result ≡ length order = search rules in
    let m = median_of order c.args.items.now c.in_ok-nodes.nodes.items c.len.result c.requires.once c.requires.few len c.in_ok-nodes.ensures in
    subst (λ t. levels (shape_at t 0) ≤ 96) (sym c.in_ok-tree.ensures) m.low
