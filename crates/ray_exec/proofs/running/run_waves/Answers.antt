use Rattle.std.proofs.Common.{subst, sym}
use Rattle.ray_action.specs.Clients.{scripts}
use Rattle.ray_action.specs.Running.{Run}
use Rattle.ray_ready.proofs.Scripts.{have_scripts}
use Rattle.ray_rules.specs.Order.{barriers}
use Rattle.ray_permitted.specs.Job.{recorded}
use Rattle.ray_permitted.specs.Separates.{NumbersSeparate}
use Rattle.ray_permitted.proofs.Fetching.{runnable_orderly}
use Rattle.ray_permitted.proofs.Runs.{comes_to_the_run}
use Rattle.ray_permitted.proofs.Separating.{barriers_carry, orders_separate}
use Rattle.ray_exec.specs.Runs.{IsRun}
use Rattle.ray_exec.specs.Waves.{wave_at}
use Rattle.ray_exec.proofs.Longest.{longest_separate}
use Rattle.ray_exec.proofs.running.run_waves.Goals as goal

pub run_numbered-requires-clause-rules : goal.run_numbered-requires-clause-rules
run_numbered-requires-clause-rules g c κs within =
    let rec = c.args.rec.now in
    let kept = c.unrefused_break_no_rule.ensures (barriers rec) (scripts rec) c.args.until c.requires.rules in
    record { each = λ i command less is. (kept.accepted.each i command less is).rules }

pub run_numbered-requires-clause-can : goal.run_numbered-requires-clause-can
run_numbered-requires-clause-can g c κs within i less =
    let rec = c.args.rec.now in
    let kept = c.unrefused_break_no_rule.ensures (barriers rec) (scripts rec) c.args.until c.requires.rules in
    have_scripts rec c.args.until i kept.accepted less

pub run_numbered-requires-clause-separate : goal.run_numbered-requires-clause-separate
run_numbered-requires-clause-separate g c κs within =
    let rec = c.args.rec.now in
    let n = c.args.until in
    let kept = c.unrefused_break_no_rule.ensures (barriers rec) (scripts rec) n c.requires.rules in
    subst (λ waves. NumbersSeparate rec n (wave_at waves)) (sym c.as_slice.ensures.value)
    (longest_separate rec (scripts rec) n c.in-Ok.waves.items kept c.in-Ok.ensures)

pub returns-in-Ok-clause-every_order : goal.returns-in-Ok-clause-every_order
returns-in-Ok-clause-every_order g c es may =
    let rec = c.args.rec.now in
    let n = c.args.until in
    let kept = c.unrefused_break_no_rule.ensures (barriers rec) (scripts rec) n c.requires.rules in
    let runnable = orders_separate (recorded rec) n (barriers_carry rec) kept in
    subst (λ (r : Run). IsRun r c.run_numbered.result)
    (sym (comes_to_the_run (recorded rec) n es (runnable_orderly (recorded rec) n runnable) may)) c.run_numbered.ensures.run
