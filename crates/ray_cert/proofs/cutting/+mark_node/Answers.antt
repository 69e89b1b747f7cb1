use Rattle.std.proofs.Common.{arith, sym}
use Rattle.std.proofs.lemmas.Result.{on_ok_weaker}
use Rattle.ray_cert.specs.Checking.{is_met_in}
use Rattle.ray_cert.proofs.Taking.{lower-left, lower-right, made-inner, made-leaf, made-shut}
use Rattle.ray_cert.proofs.cutting.+mark_node.Goals as goal

pub returns-then-not-met-clause-marks : goal.returns-then-not-met-clause-marks
returns-then-not-met-clause-marks g t c =
    let a = c.args in
    made-shut (is_met_in a.object.now a.limit.now a.tree.now) a.tree.now c.shape.ensures a.node c.requires
    a.digits.now.items c.push.new.self.items c.meets_node-met.result c.meets_node-met.ensures c.if-not-met.true c.in_ok-push.ensures.items

pub mark_node-requires : goal.mark_node-requires
mark_node-requires g t c κs within =
    let a = c.args in
    let met = is_met_in a.object.now a.limit.now a.tree.now in
    let less = lower-left met a.tree.now c.shape.ensures a.node c.requires c.in-Inner.left c.in-Inner.right (sym c.in-Inner.ensures.value) in
    (omega (arith, less, c.decreases), (within, c.in-Inner.ensures.limits.0))

pub mark_node-requires-in-Inner : goal.mark_node-requires-in-Inner
mark_node-requires-in-Inner g t c κs within =
    let a = c.args in
    let met = is_met_in a.object.now a.limit.now a.tree.now in
    let less = lower-right met a.tree.now c.shape.ensures a.node c.requires c.in-Inner.left c.in-Inner.right (sym c.in-Inner.ensures.value) in
    (omega (arith, less, c.decreases), (within, c.in-Inner.ensures.limits.1))

pub returns-in-Leaf-clause-marks : goal.returns-in-Leaf-clause-marks
returns-in-Leaf-clause-marks g t c =
    let a = c.args in
    made-leaf (is_met_in a.object.now a.limit.now a.tree.now) a.tree.now c.shape.ensures a.node c.requires
    a.digits.now.items c.push.new.self.items c.meets_node-met.result c.in-Leaf.first c.in-Leaf.count c.meets_node-met.ensures c.if-not-met.false
    (sym c.in-Leaf.ensures.value) c.in_ok-push.ensures.items

pub returns-in_ok-mark_node-in-Inner-clause-marks : goal.returns-in_ok-mark_node-in-Inner-clause-marks
returns-in_ok-mark_node-in-Inner-clause-marks g t c =
    let a = c.args in
    on_ok_weaker c.mark_node-in-Inner.result
    (λ right. made-inner (is_met_in a.object.now a.limit.now a.tree.now) a.tree.now c.shape.ensures a.node c.requires
    a.digits.now.items c.push.new.self.items c.mark_node.new.digits.items c.mark_node-in-Inner.new.digits.items c.meets_node-met.result
    c.in-Inner.left c.in-Inner.right c.meets_node-met.ensures c.if-not-met.false
    (sym c.in-Inner.ensures.value) c.in_ok-push.ensures.items c.in_ok-mark_node-in-Inner.ensures.marks right)
    c.mark_node-in-Inner.ensures.marks
