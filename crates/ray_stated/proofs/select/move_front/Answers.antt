use Rattle.std.proofs.Common.{refl}
use Rattle.ray_stated.proofs.Fronts.{front_next}
use Rattle.ray_stated.proofs.select.move_front.Goals as goal

pub loop-i-preserved : goal.loop-i-preserved
loop-i-preserved c =
    front_next c.args.axis c.args.limit c.args.entries.now c.loop-i.entries c.exchange.new.entries c.loop-i.many c.loop-i.i c.loop-i.invariant
    c.exchange.ensures.swapped c.exchange.ensures.same c.exchange.ensures.long c.is_below-goes.result c.one_where-many.result _
    c.is_below-goes.ensures c.one_where-many.ensures refl
