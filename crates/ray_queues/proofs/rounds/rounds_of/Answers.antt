use Rattle.std.proofs.Common.{◌∙◌, ◌+◌, ap, subst, sym, arith}
use Rattle.std.specs.Prelude.{slice_get}
use Rattle.ray_chains.specs.Fronts.{greatest_of}
use Rattle.ray_queues.specs.Kinds.{all_kinds}
use Rattle.ray_queues.specs.Rounds.{hosts_from, round_at}
use Rattle.ray_queues.specs.Rows.{HaveBests, best_in}
use Rattle.ray_queues.proofs.Going.{IsGoing}
use Rattle.ray_queues.proofs.Hosts.{left-of, wait-here}
use Rattle.ray_queues.proofs.Rounding.{behind-short, bests-there, going-behind, going-on, host-short, next-above, next-aboves, next-many, round-short, rounds-are, rounds-do_rise}
use Rattle.ray_queues.proofs.rounds.rounds_of.Goals.{then-is_wait, else-is_wait}
use Rattle.ray_queues.proofs.rounds.rounds_of.Goals as goal

pub wave_of-number-requires : goal.wave_of-number-requires
wave_of-number-requires c =
    let q = c.args.rec.now in
    let l = c.loop-n in
    let row = c.row_of-row.result in
    subst (λ bs. HaveBests bs row.limits) (sym c.as_slice.ensures.value)
    (bests-there q c.args.rows.now c.requires.order c.args.until l.n c.requires.rows c.loop-n-test.true l.ahead l.bests.items l.rounds.items
    l.invariant.going l.invariant.bests l.invariant.many row c.row_of-row.ensures)

pub overflow_add-round : goal.overflow_add-round
overflow_add-round c =
    let q = c.args.rec.now in
    let l = c.loop-n in
    let row = c.row_of-row.result in
    let number = c.wave_of-number.ensures ∙ ap (λ bs. greatest_of (best_in bs row.limits) all_kinds) c.as_slice.ensures.value in
    let short = round-short q c.args.rows.now c.requires.order c.args.until l.n c.requires.rows c.loop-n-test.true l.ahead l.bests.items l.rounds.items
    l.invariant.going l.invariant.bests l.invariant.many row c.row_of-row.ensures c.wave_of-number.result number c.round_of-round.result c.round_of-round.ensures in
    let u = c.ranges.until.fits in
    omega arith

pub after-ahead-requires-clause-host : goal.after-ahead-requires-clause-host
after-ahead-requires-clause-host c =
    let q = c.args.rec.now in
    let l = c.loop-n in
    let row = c.row_of-row.result in
    let number = c.wave_of-number.ensures ∙ ap (λ bs. greatest_of (best_in bs row.limits) all_kinds) c.as_slice.ensures.value in
    let short = host-short q c.args.rows.now c.requires.order c.args.until l.n c.requires.rows c.loop-n-test.true l.ahead l.bests.items l.rounds.items
    l.invariant.going l.invariant.bests l.invariant.many row c.row_of-row.ensures c.wave_of-number.result number c.round_of-round.result c.round_of-round.ensures in
    let u = c.ranges.until.fits in
    omega arith

pub after-ahead-requires-clause-round : goal.after-ahead-requires-clause-round
after-ahead-requires-clause-round c =
    let q = c.args.rec.now in
    let l = c.loop-n in
    let row = c.row_of-row.result in
    let number = c.wave_of-number.ensures ∙ ap (λ bs. greatest_of (best_in bs row.limits) all_kinds) c.as_slice.ensures.value in
    let short = round-short q c.args.rows.now c.requires.order c.args.until l.n c.requires.rows c.loop-n-test.true l.ahead l.bests.items l.rounds.items
    l.invariant.going l.invariant.bests l.invariant.many row c.row_of-row.ensures c.wave_of-number.result number c.round_of-round.result c.round_of-round.ensures in
    let u = c.ranges.until.fits in
    omega arith

pub behind-ahead-requires : goal.behind-ahead-requires
behind-ahead-requires c =
    let q = c.args.rec.now in
    let l = c.loop-n in
    let row = c.row_of-row.result in
    let number = c.wave_of-number.ensures ∙ ap (λ bs. greatest_of (best_in bs row.limits) all_kinds) c.as_slice.ensures.value in
    let there = (λ i. slice_get (sym c.recording-commands.ensures i) l.n) ∙ c.command.ensures in
    let waits = wait-here q.commands l.n c.command.result.now c.is_wait.result _ there c.is_wait.ensures c.if-is_wait.true in
    let (left, ends) = left-of l.n c.args.until c.loop-n-test.true in
    let hosts = c.hosts_from-then-is_wait.ensures left ends ∙ λ i. hosts_from (c.recording-commands.ensures i) left (l.n + 1) in
    let short = behind-short q c.args.rows.now c.requires.order c.args.until l.n c.requires.rows c.loop-n-test.true l.ahead l.bests.items l.rounds.items
    l.invariant.going l.invariant.bests l.invariant.many row c.row_of-row.ensures c.wave_of-number.result number c.round_of-round.result c.round_of-round.ensures
    c.push-in-loop-n.new.self.items c.in_ok-push-2.ensures.items c.after-ahead.result c.after-ahead.ensures left ends waits
    c.hosts_from-then-is_wait.result hosts in
    let u = c.ranges.until.fits in
    omega arith

pub loop-n-preserved : goal.loop-n-preserved
loop-n-preserved c =
    let q = c.args.rec.now in
    let l = c.loop-n in
    let row = c.row_of-row.result in
    let number = c.wave_of-number.ensures ∙ ap (λ bs. greatest_of (best_in bs row.limits) all_kinds) c.as_slice.ensures.value in
    let there = (λ i. slice_get (sym c.recording-commands.ensures i) l.n) ∙ c.command.ensures in
    let best = next-above q c.args.rows.now c.requires.order c.args.until l.n c.requires.rows c.loop-n-test.true l.ahead l.bests.items l.rounds.items
    l.invariant.going l.invariant.bests l.invariant.many row c.row_of-row.ensures c.wave_of-number.result number c.round_of-round.result c.round_of-round.ensures
    c.push-in-loop-n.new.self.items c.in_ok-push-2.ensures.items l.best c.raised-best.result c.raised-best.ensures l.invariant.best in
    record {
      going = λ left ends. elim c.if-is_wait.branch [
        | then-is_wait w ↦
            (let waits = wait-here q.commands l.n c.command.result.now c.is_wait.result _ there c.is_wait.ensures w.if-is_wait.true in
            let hosts = w.hosts_from-then-is_wait.ensures left ends ∙ λ i. hosts_from (c.recording-commands.ensures i) left (l.n + 1) in
            going-behind q c.args.rows.now c.requires.order c.args.until l.n c.requires.rows c.loop-n-test.true l.ahead l.bests.items l.rounds.items
            l.invariant.going l.invariant.bests l.invariant.many row c.row_of-row.ensures c.wave_of-number.result number c.round_of-round.result c.round_of-round.ensures
            c.push-in-loop-n.new.self.items c.in_ok-push-2.ensures.items c.after-ahead.result c.after-ahead.ensures left ends waits
            w.hosts_from-then-is_wait.result hosts c.if-is_wait.ahead (w.ahead-is ∙ w.behind-ahead.ensures))
        | else-is_wait w ↦
            (let waits = wait-here q.commands l.n c.command.result.now c.is_wait.result _ there c.is_wait.ensures w.if-is_wait.false in
            subst (λ a. IsGoing q c.args.until left (l.n + 1) a (round_at c.push-in-loop-n.new.self.items)) (sym w.ahead-is)
            (going-on q c.args.rows.now c.requires.order c.args.until l.n c.requires.rows c.loop-n-test.true l.ahead l.bests.items l.rounds.items
            l.invariant.going l.invariant.bests l.invariant.many row c.row_of-row.ensures c.wave_of-number.result number c.round_of-round.result c.round_of-round.ensures
            c.push-in-loop-n.new.self.items c.in_ok-push-2.ensures.items c.after-ahead.result c.after-ahead.ensures left ends waits))
      ];
      best = best;
      bests =
          next-aboves q c.args.rows.now c.requires.order c.args.until l.n c.requires.rows c.loop-n-test.true l.ahead l.bests.items l.rounds.items
          l.invariant.going l.invariant.bests l.invariant.many row c.row_of-row.ensures c.wave_of-number.result number c.round_of-round.result c.round_of-round.ensures
          c.push-in-loop-n.new.self.items c.in_ok-push-2.ensures.items c.raised-best.result c.push-in-loop-n-2.new.self.items c.in_ok-push-3.ensures.items best;
      many =
          next-many q c.args.rows.now c.requires.order c.args.until l.n c.requires.rows c.loop-n-test.true l.ahead l.bests.items l.rounds.items
          l.invariant.going l.invariant.bests l.invariant.many row c.row_of-row.ensures c.wave_of-number.result number c.round_of-round.result c.round_of-round.ensures
          c.push-in-loop-n.new.self.items c.in_ok-push-2.ensures.items;
    }

pub returns-clause-are : goal.returns-clause-are
returns-clause-are c =
    let l = c.loop-n in
    let past = c.loop-n-test.false in
    let end = l.auto.n-end in
    rounds-are c.args.rec.now c.args.until l.n l.ahead l.rounds.items l.invariant.going (omega arith) l.invariant.many

pub returns-clause-rise : goal.returns-clause-rise
returns-clause-rise c =
    let l = c.loop-n in
    let past = c.loop-n-test.false in
    let end = l.auto.n-end in
    rounds-do_rise c.args.rec.now c.args.until l.n l.ahead l.rounds.items l.invariant.going (omega arith)
