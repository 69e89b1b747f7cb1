use Rattle.std.proofs.Common.{◌≡◌, ◌∙◌, length, true, map, sym, ap, subst, arith}
use Rattle.std.proofs.lemmas.Bool.{both_ways}
use Rattle.ray_tree.specs.Trees.{TreeValue, TreeOver, IsShape, tree_value}
use Rattle.ray_stated.specs.declared.stored.StoredNode.{StoredNode}
use Rattle.ray_stated.specs.Stored.{IsPreorder, IsCarried}
use Rattle.ray_stated.specs.Carried.{nodes_from, read_as, in_preorder}
use Rattle.ray_stated.proofs.Walks.{is_preorder, preorder_is}
use Rattle.ray_stated.proofs.Reading.{IsReadable, readable, carried_by, few_stored, apart_by, shape_by, boxed_by, length-nodes_from}
use Rattle.ray_stated.proofs.reader.tree_of.Goals as goal

pub returns-then-nodes-items : goal.returns-then-nodes-items
returns-then-nodes-items c t h =
    let read = readable c.args.nodes.now c.args.order.now c.args.items.now t h in
    omega (arith, few_stored c.args.nodes.now c.args.order.now c.args.items.now read)

pub is_preorder-requires : goal.is_preorder-requires
is_preorder-requires c =
    omega (arith, ap length c.deref.ensures.value, ap length c.in_ok-plain.ensures, length-nodes_from 0 c.args.nodes.now, c.requires)

pub returns-then-not-is_preorder : goal.returns-then-not-is_preorder
returns-then-not-is_preorder c t h =
    let read = readable c.args.nodes.now c.args.order.now c.args.items.now t h in
    let places = length c.args.order.now in
    let seen : c.is_preorder.result ≡ true =
    c.is_preorder.ensures ∙ ap (λ l. in_preorder l places) (c.deref.ensures.value ∙ c.in_ok-plain.ensures)
    ∙ preorder_is (nodes_from 0 c.args.nodes.now) places read.preorder in
    both_ways c.is_preorder.result c.if-not-is_preorder.true seen

pub returns-then-not-apart : goal.returns-then-not-apart
returns-then-not-apart c t h =
    let read = readable c.args.nodes.now c.args.order.now c.args.items.now t h in
    both_ways c.in_ok-apart.apart c.if-not-apart.true (c.in_ok-apart.ensures.1 (apart_by c.args.nodes.now c.args.order.now c.args.items.now read))

pub is_over-requires : goal.is_over-requires
is_over-requires c =
    let stored = c.args.nodes.now in
    let order = c.args.order.now in
    let nodes : c.deref-2.result.now ≡ nodes_from 0 stored = c.deref-2.ensures.value ∙ c.in_ok-plain.ensures in
    let boxes : c.deref-3.result.now ≡ map (λ (s : StoredNode). s.bounds) stored = c.deref-3.ensures.value ∙ c.in_ok-boxes.ensures in
    let pre : IsPreorder (nodes_from 0 stored) (length order) =
    is_preorder (nodes_from 0 stored) (length order)
    (sym (c.is_preorder.ensures ∙ ap (λ l. in_preorder l (length order)) (c.deref.ensures.value ∙ c.in_ok-plain.ensures)) ∙ c.if-not-is_preorder.false) in
    let apart = c.in_ok-apart.ensures.0 c.if-not-apart.false in
    subst IsShape (λ i. tree_value (sym nodes i) (sym boxes i) order)
    (shape_by (nodes_from 0 stored) (map (λ (s : StoredNode). s.bounds) stored) order pre (boxed_by stored) apart.once)

pub returns-then-not-is_over : goal.returns-then-not-is_over
returns-then-not-is_over c t h =
    let stored = c.args.nodes.now in
    let order = c.args.order.now in
    let items = c.args.items.now in
    let nodes : c.deref-2.result.now ≡ nodes_from 0 stored = c.deref-2.ensures.value ∙ c.in_ok-plain.ensures in
    let boxes : c.deref-3.result.now ≡ map (λ (s : StoredNode). s.bounds) stored = c.deref-3.ensures.value ∙ c.in_ok-boxes.ensures in
    let over = subst (λ (u : TreeValue). TreeOver u items) (λ i. tree_value (sym nodes i) (sym boxes i) order) (readable stored order items t h).over in
    both_ways c.is_over.result c.if-not-is_over.true (c.is_over.ensures.1 over)

pub returns : goal.returns
returns c =
    let stored = c.args.nodes.now in
    let order = c.args.order.now in
    let items = c.args.items.now in
    let nodes : c.deref-2.result.now ≡ nodes_from 0 stored = c.deref-2.ensures.value ∙ c.in_ok-plain.ensures in
    let boxes : c.deref-3.result.now ≡ map (λ (s : StoredNode). s.bounds) stored = c.deref-3.ensures.value ∙ c.in_ok-boxes.ensures in
    let pre : IsPreorder (nodes_from 0 stored) (length order) =
    is_preorder (nodes_from 0 stored) (length order)
    (sym (c.is_preorder.ensures ∙ ap (λ l. in_preorder l (length order)) (c.deref.ensures.value ∙ c.in_ok-plain.ensures)) ∙ c.if-not-is_preorder.false) in
    let over = subst (λ (u : TreeValue). TreeOver u items) (λ i. tree_value (nodes i) (boxes i) order) (c.is_over.ensures.0 c.if-not-is_over.false) in
    let read : IsReadable stored order items = record { preorder = pre; over = over } in
    let whole : c.in_ok-tree.tree ≡ read_as stored order =
    c.in_ok-tree.ensures ∙ (λ i. tree_value (c.in_ok-plain.ensures i) (c.in_ok-boxes.ensures i) (c.in_ok-numbers.ensures.items i)) in
    subst (IsCarried stored order items) (sym whole) (carried_by stored order items read)
