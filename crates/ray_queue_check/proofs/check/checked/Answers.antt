use Rattle.std.proofs.Common.{◌≡◌, ◌+◌, ◌∙◌, arith, refl, slice_get, subst, suc, sym}
use Rattle.std.specs.Prelude.{None}
use Rattle.ray_hazards.proofs.Checking.{first-found, first-none}
use Rattle.ray_hazards.proofs.Starting.{starts-some, status-next}
use Rattle.ray_queues.specs.QueueOrder.{queue_order}
use Rattle.ray_rules.specs.Hazards.{status_at}
use Rattle.ray_rules.specs.Status.{Status}
use Rattle.ray_rules.specs.Verdict.{first_hazard}
use Rattle.ray_hazards.specs.Reaching.{AreTops}
use Rattle.ray_queue_check.specs.Kept.{IsKept, IsOf}
use Rattle.ray_queue_check.proofs.Finding.{doing-here, tops-here}
use Rattle.ray_queue_check.proofs.Using.{all-low, all-roomy}
use Rattle.ray_queue_check.proofs.check.checked.Goals as goal

pub loop-n-init : goal.loop-n-init
loop-n-init c = record {
  status = c.new-status.ensures;
  kept = c.new-kept.ensures c.args.rec.now c.args.cells.now;
  tops = c.none-tops.ensures c.args.rec.now.commands c.args.cells.now c.new-status.result;
  none = refl;
}

pub hazard_of-requires : goal.hazard_of-requires
hazard_of-requires c =
    all-roomy c.args.rec.now c.args.cells.now c.loop-n.n c.loop-n.kept.lanes c.loop-n.invariant.kept.lanes

pub returns-in-Some : goal.returns-in-Some
returns-in-Some c =
    let q = c.args.rec.now in
    let n = c.loop-n.n in
    let there = (λ i. slice_get (sym c.recording.ensures i) n) ∙ c.command-command.ensures in
    let is = doing-here q.commands c.recording-in-loop-n.result.now c.args.cells.now n c.in_ok-doing.doing c.command-command.result.now c.loop-n.status c.loop-n.tops c.recording-in-loop-n.ensures c.in_ok-doing.ensures.doing there c.loop-n.invariant.status c.loop-n.invariant.tops in
    let of : IsOf q n c.queue_of-queue.result = record { have = c.queues_law.ensures; is = c.queue_of-queue.ensures } in
    let have = starts-some q.commands c.args.cells.now c.args.until (suc n) (omega arith) c.requires.starts in
    let found = sym (c.hazard_of.ensures q of c.loop-n.invariant.kept is have) ∙ c.in-Some.is in
    sym (first-found (queue_order q) q.commands n c.args.until c.in-Some.refusal c.loop-n.invariant.none found c.loop-n-test.true)

pub pass-requires-clause-below : goal.pass-requires-clause-below
pass-requires-clause-below c =
    all-low c.args.rec.now c.args.cells.now c.loop-n.n c.loop-n.kept.lanes c.loop-n.invariant.kept.lanes

pub loop-n-preserved : goal.loop-n-preserved
loop-n-preserved c =
    let q = c.args.rec.now in
    let n = c.loop-n.n in
    let more : suc n ≡ n + 1 = omega arith in
    let there = (λ i. slice_get (sym c.recording.ensures i) n) ∙ c.command-command.ensures in
    let is = doing-here q.commands c.recording-in-loop-n.result.now c.args.cells.now n c.in_ok-doing.doing c.command-command.result.now c.loop-n.status c.loop-n.tops c.recording-in-loop-n.ensures c.in_ok-doing.ensures.doing there c.loop-n.invariant.status c.loop-n.invariant.tops in
    let of : IsOf q n c.queue_of-queue.result = record { have = c.queues_law.ensures; is = c.queue_of-queue.ensures } in
    let have = starts-some q.commands c.args.cells.now c.args.until (suc n) (omega arith) c.requires.starts in
    let hazard = sym (c.hazard_of.ensures q of c.loop-n.invariant.kept is have) ∙ c.in_default.is in
    record {
      status =
          subst (λ k. c.step.new.self ≡ status_at q.commands k) more
          (status-next q.commands n c.command-command.result.now c.loop-n.status c.step.new.self there c.loop-n.invariant.status c.in_ok-step.ensures);
      kept =
          subst (λ k. IsKept q c.args.cells.now k c.pass.new.self) more
          (c.in_ok-pass.ensures c.loop-n.invariant.status is c.loop-n.invariant.kept);
      tops =
          subst (λ (z : Status). AreTops q.commands c.args.cells.now z c.pass-in-loop-n.new.self) (sym c.in_ok-step.ensures)
          (c.pass-in-loop-n.ensures q.commands c.args.cells.now c.loop-n.status n
          (tops-here q.commands c.recording-in-loop-n.result.now c.args.cells.now c.loop-n.status c.loop-n.tops c.doing_of.new.tops
          c.recording-in-loop-n.ensures c.in_ok-doing.ensures.tops c.loop-n.invariant.tops));
      none =
          subst (λ k. first_hazard (queue_order q) q.commands k ≡ None) more
          (first-none (queue_order q) q.commands n c.loop-n.invariant.none hazard);
    }
