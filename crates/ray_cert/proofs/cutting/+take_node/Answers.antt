use Rattle.std.proofs.Common.{◌+◌, arith, drop, length, sym}
use Rattle.ray_tree.specs.Trees.{shape_at}
use Rattle.ray_cert.specs.Checking.{behind, is_met_in, taken_of}
use Rattle.ray_cert.proofs.Taking.{end-some, other-taken, lower-left, lower-right, taken-end, taken-leaf, taken-left, taken-right, taken-shut}
use Rattle.ray_cert.proofs.cutting.+take_node.Goals as goal

pub take_node-requires : goal.take_node-requires
take_node-requires g t c κs within =
    let a = c.args in
    let met = is_met_in a.object.now a.limit.now a.tree.now in
    let less = lower-left met a.tree.now c.shape.ensures a.node c.requires.within c.in-Inner.left c.in-Inner.right (sym c.in-Inner.ensures.value) in
    let here = c.in-Opened.ensures.within in
    (omega (arith, less, c.decreases), (within, (c.in-Inner.ensures.limits.0, omega (arith, here))))

pub take_node-requires-in-Some : goal.take_node-requires-in-Some
take_node-requires-in-Some g t c κs within =
    let a = c.args in
    let met = is_met_in a.object.now a.limit.now a.tree.now in
    let less = lower-right met a.tree.now c.shape.ensures a.node c.requires.within c.in-Inner.left c.in-Inner.right (sym c.in-Inner.ensures.value) in (
      omega (arith, less, c.decreases),
      (
        within,
        (
          c.in-Inner.ensures.limits.1,
          end-some (length a.digits.now) c.in-Some.after c.in_ok-take_node-in-Inner.field-0 c.in-Some.is c.in_ok-take_node-in-Inner.ensures.few.to,
        ),
      ),
    )

pub returns-in-End-clause-value : goal.returns-in-End-clause-value
returns-in-End-clause-value g t c =
    let a = c.args in
    taken-end (is_met_in a.object.now a.limit.now a.tree.now) a.tree.now c.shape.ensures a.node c.requires.within
    a.items.now.items (drop a.at a.digits.now) c.in-End.ensures

pub returns-in-Shut-clause-value : goal.returns-in-Shut-clause-value
returns-in-Shut-clause-value g t c =
    let a = c.args in
    taken-shut (is_met_in a.object.now a.limit.now a.tree.now) a.tree.now c.shape.ensures a.node c.requires.within
    a.items.now.items (drop a.at a.digits.now) a.digits.now a.at c.meets_node.result c.shut_at.result c.in-Shut.ensures.is c.meets_node.ensures c.shut_at.ensures

pub returns-in_ok-add_items-in-Leaf-clause-value : goal.returns-in_ok-add_items-in-Leaf-clause-value
returns-in_ok-add_items-in-Leaf-clause-value g t c =
    let a = c.args in
    taken-leaf (is_met_in a.object.now a.limit.now a.tree.now) a.tree.now c.shape.ensures a.node c.requires.within
    a.items.now.items c.add_items.new.items.items (drop a.at a.digits.now) (drop (a.at + 1) a.digits.now) c.in-Leaf.first c.in-Leaf.count
    c.in-Opened.ensures.is (sym c.in-Leaf.ensures.value) c.in_ok-add_items-in-Leaf.ensures

pub returns-in-None-clause-value : goal.returns-in-None-clause-value
returns-in-None-clause-value g t c =
    let a = c.args in
    taken-left (is_met_in a.object.now a.limit.now a.tree.now) a.tree.now c.shape.ensures a.node c.requires.within
    c.in-Inner.left c.in-Inner.right (sym c.in-Inner.ensures.value) a.items.now.items c.take_node.new.items.items
    (drop a.at a.digits.now) (drop (a.at + 1) a.digits.now) a.digits.now c.in_ok-take_node-in-Inner.field-0
    c.in-Opened.ensures.is c.in_ok-take_node-in-Inner.ensures.value c.in-None.is

pub returns-in-Some-clause-value : goal.returns-in-Some-clause-value
returns-in-Some-clause-value g t c =
    let a = c.args in
    let met = is_met_in a.object.now a.limit.now a.tree.now in
    let tree = a.tree.now in
    let now = c.take_node.new.items.items in
    other-taken c.take_node-in-Some.result c.take_node-in-Some.new.items.items a.digits.now
    (behind now (taken_of met tree.order (shape_at tree c.in-Inner.right) (drop c.in-Some.after a.digits.now)))
    (behind a.items.now.items (taken_of met tree.order (shape_at tree a.node) (drop a.at a.digits.now)))
    (taken-right met tree c.shape.ensures a.node c.requires.within
    c.in-Inner.left c.in-Inner.right (sym c.in-Inner.ensures.value) a.items.now.items now
    (drop a.at a.digits.now) (drop (a.at + 1) a.digits.now) a.digits.now c.in_ok-take_node-in-Inner.field-0 c.in-Some.after
    c.in-Opened.ensures.is c.in_ok-take_node-in-Inner.ensures.value c.in-Some.is)
    c.take_node-in-Some.ensures.value
