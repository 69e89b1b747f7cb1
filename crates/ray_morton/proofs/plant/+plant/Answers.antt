use Rattle.std.proofs.Common.{rules, ◌≡◌, ◌+◌, ◌<◌, length, sym, subst, ap, arith}
use Rattle.ray_morton.specs.Planted.{IsReady}
use Rattle.ray_morton.proofs.Planting.{leaf_planted, planted_room, both_planted}
use Rattle.ray_morton.proofs.plant.+plant.Goals as goal

pub returns-then-keys-le-MOST : goal.returns-then-keys-le-MOST
returns-then-keys-le-MOST t c =
    leaf_planted c.args.keys.now c.args.first (c.args.bits + c.args.halvings) c.args.nodes.now.items c.push.new.self.items
    c.requires.ready.some c.if-keys-le-MOST.true c.in_ok-push.ensures.items

pub overflow_cast-right : goal.overflow_cast-right
overflow_cast-right t c =
    let cut = c.cut_of-cut.result in
    let pushed : length c.push.new.self.items ≡ length c.args.nodes.now.items + 1 = search rules in
    let len : c.len-right.result ≡ length c.plant.new.nodes.items = search rules in
    let rest = c.cut_of-cut.ensures.rest in
    omega (
      arith,
      planted_room c.split_at.result.0.now c.args.first (cut.bits + cut.halvings + 1) c.push.new.self.items c.plant.new.nodes.items c.in_ok-plant.ensures,
      c.split_at.ensures.front_len,
      rest,
      pushed,
      len,
    )

pub plant-requires-2 : goal.plant-requires-2
plant-requires-2 t c =
    let cut = c.cut_of-cut.result in
    let pushed : length c.push.new.self.items ≡ length c.args.nodes.now.items + 1 = search rules in
    let room = planted_room c.split_at.result.0.now c.args.first (cut.bits + cut.halvings + 1) c.push.new.self.items c.plant.new.nodes.items c.in_ok-plant.ensures in
    let front = c.split_at.ensures.front_len in
    let back = c.split_at.ensures.back_len in
    let rest = c.cut_of-cut.ensures.rest in
    let some = c.cut_of-cut.ensures.lefts.some in
    let some_front : 0 < length c.split_at.result.0.now = omega (arith, some, ap length c.split_at.ensures.front) in
    (omega arith, (subst (λ l. IsReady l cut.bits cut.halvings) (sym c.split_at.ensures.back) c.cut_of-cut.ensures.rights, (omega arith, omega arith)))

pub returns : goal.returns
returns t c =
    let at : c.len-at.result ≡ length c.args.nodes.now.items = search rules in
    let right : c.len-right.result ≡ length c.plant.new.nodes.items = search rules in
    both_planted c.args.keys.now c.split_at.result.0.now c.split_at.result.1.now c.args.first c.args.bits c.args.halvings c.cut_of-cut.result
    c.args.nodes.now.items c.push.new.self.items c.plant.new.nodes.items c.plant-2.new.nodes.items _ c.len-at.result c.len-right.result
    c.cut_of-cut.ensures c.split_at.ensures.front c.split_at.ensures.back at c.in_ok-push.ensures.items c.in_ok-plant.ensures right c.in_ok-plant-2.ensures
