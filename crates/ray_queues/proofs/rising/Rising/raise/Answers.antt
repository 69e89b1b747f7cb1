use Rattle.std.proofs.Common.{◌∙◌, refl, sym}
use Rattle.ray_queues.proofs.Passing.{weaker}
use Rattle.ray_queues.proofs.Reaching.{raise-known, raise-new}
use Rattle.ray_queues.proofs.rising.Rising.raise.Goals as goal

pub returns-then-has : goal.returns-then-has
returns-then-has c =
    let marks = c.args.self.now in
    raise-known marks marks c.args.mark (sym c.has.ensures ∙ c.if-has.true) refl

pub returns-else-has : goal.returns-else-has
returns-else-has c = weaker c.push.result (raise-new c.args.self.now c.push.new.self c.args.mark) c.push.ensures
