use Rattle.std.proofs.Common.{◌≡◌, ◌-◌, IfOk, length, subst, arith}
use Rattle.ray_climb.specs.Seats.{leaving}
use Rattle.ray_climb.proofs.Ranges.{todo_long, kept_todo, left_todo}
use Rattle.ray_climb.proofs.all.cut.Goals as goal

pub split-requires-clause-within : goal.split-requires-clause-within
split-requires-clause-within c =
    let long = todo_long c.args.climb.now.id c.args.from c.args.to c.args.seat.now c.requires.todo in
    let ordered = c.requires.ordered.0 in
    omega arith

pub returns-clause-first : goal.returns-clause-first
returns-clause-first c =
    kept_todo c.args.climb.now.id c.args.from c.args.middle c.args.to c.args.seat.now c.split.new.seat c.requires.ordered.0 c.requires.ordered.1 c.requires.todo c.split.ensures.old

pub returns-clause-last : goal.returns-clause-last
returns-clause-last c =
    left_todo c.args.climb.now.id c.args.from c.args.middle c.args.to c.args.seat.now c.unwrap.result c.requires.ordered.0 c.requires.ordered.1 c.requires.todo
    (subst (λ r. IfOk r (λ s. s ≡ leaving (length c.args.seat.now.todo - (c.args.to - c.args.middle)) c.args.seat.now)) c.unwrap.ensures c.split.ensures.new)
