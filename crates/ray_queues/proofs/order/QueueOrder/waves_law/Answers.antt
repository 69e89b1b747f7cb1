use Rattle.std.proofs.Common.{subst, sym}
use Rattle.std.proofs.lemmas.List.{get_or-map}
use Rattle.ray_rules.specs.Order.{IsLongest}
use Rattle.ray_queues.specs.declared.order.Row.{Row}
use Rattle.ray_queues.specs.Rows.{no_row, order_of}
use Rattle.ray_queues.proofs.order.QueueOrder.waves_law.Goals as goal

pub returns : goal.returns
returns c = λ q is i below.
    subst (IsLongest (order_of q) i)
    (sym (get_or-map (λ (row : Row). row.wave) c.args.self.now i no_row 0 below)) (is.are i below).wave
