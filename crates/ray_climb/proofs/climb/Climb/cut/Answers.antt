use Rattle.std.proofs.Common.{rules, ◌≡◌, [], refl, sym, subst, arith}
use Rattle.ray_climb.specs.declared.rule.Hand.TheVariants.{Empty}
use Rattle.ray_climb.specs.Seats.{AreLeaves}
use Rattle.ray_climb.proofs.Sums.{leaves_take, leaves_drop}
use Rattle.ray_climb.proofs.Allowed.{splits_at}
use Rattle.ray_climb.proofs.climb.Climb.cut.Goals as goal

pub split_seat-new-requires : goal.split_seat-new-requires
split_seat-new-requires g c = (search rules, omega (arith, c.self.invariant.0), splits_at _ _ _ _ c.seat.invariant.1)

pub invariant_of-seat : goal.invariant_of-seat
invariant_of-seat g c =
    subst (λ m. (m.1 ≡ []) × (m.0.hand ≡ Empty) × AreLeaves c.seat.inside.leaves m.0.todo) (sym c.split_seat-new.ensures.2)
    (c.seat.invariant.0, refl, leaves_take c.seat.inside.leaves _ c.seat.inside.seat.me.0.todo c.seat.invariant.2)

pub invariant_of-result : goal.invariant_of-result
invariant_of-result g c =
    subst (λ m. (m.1 ≡ []) × (m.0.hand ≡ Empty) × AreLeaves c.seat.inside.leaves m.0.todo) (sym c.split_seat-new.ensures.4)
    (refl, refl, leaves_drop c.seat.inside.leaves _ c.seat.inside.seat.me.0.todo c.seat.invariant.2)
