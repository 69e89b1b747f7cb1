use Rattle.std.proofs.Common.{rules, ◌≡◌, ◌∙◌, ◌+◌, ◌++◌, length, sym, ap, arith}
use Rattle.ray_tree.specs.Plans.{spell}
use Rattle.ray_tree.proofs.Planting.{tall, few_halves, planted}
use Rattle.ray_tree.proofs.plant.+plant.Goals as goal

pub returns-then-count-le-MOST-clause-spelled : goal.returns-then-count-le-MOST-clause-spelled
returns-then-count-le-MOST-clause-spelled t c =
    let old = c.args.nodes.now.items in
    c.in_ok-push.ensures.items ∙ ap (λ p. old ++ spell (length old) c.args.first p) (sym (few_halves c.args.height c.args.count c.if-count-le-MOST.true))

pub plant-requires : goal.plant-requires
plant-requires t c =
    let high = tall c.args.height c.args.count c.if-count-le-MOST.false c.requires.low in
    let pushed : length c.push.new.self.items ≡ length c.args.nodes.now.items + 1 = search rules in
    (omega arith, (omega arith, (omega arith, (omega arith, omega arith))))

pub plant-requires-2 : goal.plant-requires-2
plant-requires-2 t c =
    let high = tall c.args.height c.args.count c.if-count-le-MOST.false c.requires.low in
    let pushed : length c.push.new.self.items ≡ length c.args.nodes.now.items + 1 = search rules in
    let sized = c.in_ok-plant.ensures.sized in
    (omega arith, (omega arith, (omega arith, (omega arith, omega arith))))

pub returns-clause-spelled : goal.returns-clause-spelled
returns-clause-spelled t c =
    let at : c.len-at.result ≡ length c.args.nodes.now.items = search rules in
    let right : c.len-right.result ≡ length c.plant.new.nodes.items = search rules in
    planted c.args.nodes.now.items c.push.new.self.items c.plant.new.nodes.items c.plant-2.new.nodes.items _
    c.len-at.result c.len-right.result c.args.first c.args.count c.args.height at c.in_ok-push.ensures.items
    c.in_ok-plant.ensures.spelled right c.in_ok-plant-2.ensures.spelled c.if-count-le-MOST.false c.requires.low
