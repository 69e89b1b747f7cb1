use Rattle.std.proofs.Common.{sym, ap, subst}
use Rattle.ray_climb.specs.Seats.{HasEachLeaf}
use Rattle.ray_climb.proofs.Opening.{closes_at}
use Rattle.ray_climb.proofs.climb.Climb.close.Goals as goal

pub boxes_of-boxes-requires-clause-exact : goal.boxes_of-boxes-requires-clause-exact
boxes_of-boxes-requires-clause-exact c =
    closes_at _ c.self.inside.refit c.self.invariant.2 c.ready.ensures _ _ c.args.seat.done _ _ c.close_with-closed.ensures.values.2
    (ap (λ v. v.done) c.seat.view_is)
    (subst (λ v. HasEachLeaf v.refit.tree c.args.seat.done) (sym c.self.view_is) c.requires.done)
