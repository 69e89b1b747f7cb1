use Rattle.std.proofs.Common.{◌≡◌, ◌+◌, ◌∙◌, ap, arith, List, length, subst, suc, sym}
use Rattle.ray_cmd.specs.declared.refusal.Refusal.{Refusal}
use Rattle.std.specs.Prelude.{[], ◌++◌, take}
use Rattle.std.specs.List.{cons_option}
use Rattle.ray_rules.specs.Hazards.{status_at}
use Rattle.ray_rules.specs.Order.{barriers}
use Rattle.ray_rules.specs.Status.{Status}
use Rattle.ray_sync.specs.Hazards.{hazards_below}
use Rattle.ray_sync.proofs.Listing.{all-taken, few-more, few-taken}
use Rattle.ray_hazards.specs.Reaching.{AreTops}
use Rattle.ray_hazards.specs.Carrying.{AreCarried}
use Rattle.ray_sync.specs.Kinds.{AreFronts}
use Rattle.ray_sync.specs.OneQueue.{in_order, one_queue}
use Rattle.ray_hazards.specs.Lanes.{AreLanes}
use Rattle.ray_hazards.proofs.Laning.{lanes-below}
use Rattle.ray_sync.proofs.Limits.{fronts-first, fronts-next}
use Rattle.ray_hazards.proofs.Starting.{starts-some, status-next}
use Rattle.ray_sync.proofs.check.found_below.Goals as goal

pub loop-n-init : goal.loop-n-init
loop-n-init c = record {
  status = c.new-status.ensures;
  lanes = c.new-lanes.ensures (in_order c.args.rec.now) c.args.cells.now 0 (sym c.count.ensures) (λ i l. absurd (omega (arith, l)));
  coverage = c.new-coverage.ensures (one_queue c.args.rec.now) 0;
  fronts = subst (AreFronts c.args.rec.now 0) (sym c.none-fronts.ensures) (fronts-first c.args.rec.now);
  tops = c.none-tops.ensures c.args.rec.now c.args.cells.now c.new-status.result;
  found = c.new-found.ensures.items;
  few = omega arith;
}

pub mark-requires-clause-below : goal.mark-requires-clause-below
mark-requires-clause-below c =
    lanes-below (in_order c.args.rec.now) c.args.cells.now c.loop-n.n c.loop-n.lanes c.loop-n.invariant.lanes

pub loop-n-preserved : goal.loop-n-preserved
loop-n-preserved c =
    let rec = c.args.rec.now in
    let n = c.loop-n.n in
    let more : suc n ≡ n + 1 = omega arith in
    let there = c.command-command.ensures in
    let is = c.in_ok-doing.ensures.doing n there c.loop-n.invariant.status c.loop-n.invariant.tops in
    let have = starts-some rec c.args.cells.now c.args.until (suc n) (omega arith) c.requires.starts in
    let hazard = c.hazard_of-hazard.ensures rec c.loop-n.invariant.lanes c.loop-n.invariant.coverage c.loop-n.invariant.fronts is have in
    record {
      status =
          subst (λ k. c.step.new.self ≡ status_at rec k) more
          (status-next rec n c.command-command.result.now c.loop-n.status c.step.new.self there c.loop-n.invariant.status c.in_ok-step.ensures);
      lanes =
          subst (λ k. AreLanes (in_order rec) c.args.cells.now k c.mark.new.self) more
          (c.in_ok-mark.ensures (in_order rec) (sym is.at) is.reads.same is.writes.are c.loop-n.invariant.lanes);
      coverage =
          subst (λ k. AreCarried (one_queue rec) 0 k c.pass.new.coverage) more
          (c.in_ok-pass.ensures rec there c.loop-n.invariant.status c.loop-n.invariant.coverage);
      fronts =
          subst (λ k. AreFronts rec k c.after-fronts.result) more
          (subst (AreFronts rec (suc n)) (sym c.after-fronts.ensures)
          (fronts-next rec n c.loop-n.fronts c.command-command.result.now there c.loop-n.invariant.fronts));
      tops =
          subst (λ (z : Status). AreTops rec c.args.cells.now z c.pass-in-loop-n.new.self) (sym c.in_ok-step.ensures)
          (c.pass-in-loop-n.ensures rec c.args.cells.now c.loop-n.status n (c.in_ok-doing.ensures.tops c.loop-n.invariant.tops));
      found =
          subst (λ k. c.note.new.found.items ≡ hazards_below (barriers rec) rec k) more
          (c.in_ok-note.ensures ∙ (λ i. c.loop-n.invariant.found i ++ cons_option (hazard i) []));
      few = few-more c.loop-n.found.items c.hazard_of-hazard.result c.note.new.found.items c.args.most c.in_ok-note.ensures (omega (arith, c.if-most-len.false));
    }

pub returns-then-most-len : goal.returns-then-most-len
returns-then-most-len c =
    let rec = c.args.rec.now in
    c.loop-n.invariant.found
    ∙ all-taken (barriers rec) rec c.loop-n.n c.args.until c.args.most (omega (arith, c.loop-n-test.true))
    (subst (λ (xs : List Refusal). length xs ≡ c.args.most) c.loop-n.invariant.found (omega (arith, c.loop-n.invariant.few, c.if-most-len.true)))

pub returns : goal.returns
returns c =
    few-taken c.loop-n.found.items c.args.most c.loop-n.invariant.few
    ∙ ap (take c.args.most) (c.loop-n.invariant.found ∙ ap (hazards_below (barriers c.args.rec.now) c.args.rec.now) ends)
  where
    ends : c.loop-n.n ≡ c.args.until
    ends = omega (arith, c.loop-n.auto.n-end, c.loop-n-test.false)
