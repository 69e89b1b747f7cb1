use Rattle.std.proofs.Common.{◌≡◌, ◌+◌, arith, suc, subst, sym}
use Rattle.ray_rules.specs.Hazards.{status_at}
use Rattle.ray_rules.specs.Status.{Status}
use Rattle.ray_hazards.specs.Checks.{AreStartedTops}
use Rattle.ray_hazards.specs.Lasts.{HaveStarts}
use Rattle.ray_hazards.proofs.Starting.{starts-next, status-next}
use Rattle.ray_hazards.proofs.starts.starts_of.Goals as goal

pub loop-n-preserved : goal.loop-n-preserved
loop-n-preserved c =
    let rec = c.args.rec.now in
    let n = c.loop-n.n in
    let old = c.loop-n.set.keys in
    let new = c.add_command.new.set.keys in
    let there = c.command-command.ensures in
    let before = c.loop-n.invariant in
    let more : suc n ≡ n + 1 = omega arith in
    record {
      status =
          subst (λ k. c.step.new.self ≡ status_at rec k) more
          (status-next rec n c.command-command.result.now c.loop-n.status c.step.new.self there before.status c.in_ok-step.ensures);
      starts =
          subst (λ k. HaveStarts rec new k) more
          (starts-next rec n old new c.in_ok-add_command.ensures.kept
          (c.in_ok-add_command.ensures.placed n there before.status before.tops) before.starts);
      tops =
          subst (λ (z : Status). AreStartedTops rec z new c.pass_tops.new.known.keys) (sym c.in_ok-step.ensures)
          (c.pass_tops.ensures rec c.loop-n.status new n (c.in_ok-add_command.ensures.tops before.tops));
    }
