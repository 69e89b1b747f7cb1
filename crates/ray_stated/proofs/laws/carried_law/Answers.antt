use Rattle.std.proofs.Common.{◌∙◌, sym}
use Rattle.ray_stated.proofs.Reading.{carried_is}
use Rattle.ray_stated.proofs.Decided.{carried_said, carried_low}
use Rattle.ray_stated.proofs.laws.carried_law.Goals as goal

pub returns-clause-said : goal.returns-clause-said
returns-clause-said c = carried_said c.args._nodes.now c.args._order.now c.args._items.now

pub returns-clause-one : goal.returns-clause-one
returns-clause-one c t u a b =
    carried_is c.args._nodes.now c.args._order.now c.args._items.now t a ∙ sym (carried_is c.args._nodes.now c.args._order.now c.args._items.now u b)

pub returns-clause-low : goal.returns-clause-low
returns-clause-low c = carried_low c.args._nodes.now c.args._order.now c.args._items.now
