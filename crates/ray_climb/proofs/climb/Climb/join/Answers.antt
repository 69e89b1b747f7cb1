use Rattle.std.proofs.Common.{rules, ◌≡◌, ◌∙◌, [], refl, sym, ap, subst, arith}
use Rattle.ray_climb.specs.declared.rule.Hand.TheVariants.{Empty}
use Rattle.ray_climb.specs.Seats.{AreLeaves}
use Rattle.ray_climb.proofs.Sums.{leaves_append}
use Rattle.ray_climb.proofs.Allowed.{joins_at}
use Rattle.ray_climb.proofs.climb.Climb.join.Goals as goal

pub join_seat-requires : goal.join_seat-requires
join_seat-requires c =
    (search rules, search rules, search rules, omega (arith, c.self.invariant.0), joins_at _ _ _ _ _ c.into.invariant.1 c.from.invariant.1)

pub invariant_of-into : goal.invariant_of-into
invariant_of-into c =
    let same = ap (λ v. v.id.leaves) c.from.view_is ∙ ap (λ i. i.leaves) (c.requires.from ∙ sym c.requires.own) ∙ sym (ap (λ v. v.id.leaves) c.into.view_is) in
    subst (λ m. (m.1 ≡ []) × (m.0.hand ≡ Empty) × AreLeaves c.into.inside.leaves m.0.todo) (sym c.join_seat.ensures.2)
    (c.into.invariant.0, refl, leaves_append c.into.inside.leaves c.from.inside.leaves c.into.inside.seat.me.0.todo c.from.inside.seat.me.0.todo same c.into.invariant.2 c.from.invariant.2)
