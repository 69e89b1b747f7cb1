use Rattle.std.proofs.Common.{◌≡◌, [], refl, sym, subst}
use Rattle.ray_climb.specs.declared.rule.Hand.TheVariants.{Empty}
use Rattle.ray_climb.specs.Seats.{AreLeaves}
use Rattle.ray_climb.specs.Ready.{IsTable}
use Rattle.ray_climb.proofs.Sums.{leaves_without}
use Rattle.ray_climb.proofs.climb.Climb.climb_leaf.Goals as goal

pub climb-requires-clause-table : goal.climb-requires-clause-table
climb-requires-clause-table c =
    subst (IsTable c.self.inside.table.shared.table_id.words) (sym c.self.invariant.2) (record { long = c.self.invariant.0; ready = c.ready.ensures })

pub invariant_of-seat : goal.invariant_of-seat
invariant_of-seat c =
    subst (λ m. (m.1 ≡ []) × (m.0.hand ≡ Empty) × AreLeaves c.seat.inside.leaves m.0.todo) (sym c.climb.ensures.me)
    (c.seat.invariant.0, refl, leaves_without c.seat.inside.leaves c.args.leaf c.seat.inside.seat.me.0.todo c.seat.invariant.2)
