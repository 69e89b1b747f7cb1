use Rattle.std.proofs.Common.{◌≡◌, ◌++◌, take, length, false, sym, ◌∙◌, ap, subst, arith, inl, inr, ◌||◌}
use Rattle.std.proofs.lemmas.Bool.{cases_eq}
use Rattle.ray_ranges.specs.Meeting.{has}
use Rattle.ray_ranges.specs.First.{meets_before, range_at}
use Rattle.ray_ranges.proofs.Shared.{meets_any_same}
use Rattle.ray_ranges.proofs.Sweeps.{first_meeting-free}
use Rattle.ray_ranges.proofs.Firsts.{least_number-some, least_number-none, covers_more_after}
use Rattle.ray_ranges.proofs.first.first_meeting.Goals as goal

pub returns-then-branch : goal.returns-then-branch
returns-then-branch c =
    sym (first_meeting-free c.args.ranges.now c.args.others.now (c.in_ok-are_free.ensures c.if-branch.true))

pub returns-then-meets : goal.returns-then-meets
returns-then-meets c =
    sym (least_number-some (meets_before c.args.ranges.now c.args.others.now) (length c.args.ranges.now) c.loop-k.k
    (omega arith) c.loop-k.invariant.none
    (sym (meets_any_same c.loop-k.taken (c.args.others.now ++ take c.loop-k.k c.args.ranges.now)
    c.loop-k.invariant.numbers (range_at c.args.ranges.now c.loop-k.k))
    ∙ sym c.if-meets.ensures))

pub loop-k-preserved : goal.loop-k-preserved
loop-k-preserved c = record {
  numbers = λ n.
      c.in_ok-put.ensures n
      ∙ (ap (λ b. has n (range_at c.args.ranges.now c.loop-k.k) || b) (c.loop-k.invariant.numbers n)
      ∙ covers_more_after c.args.others.now c.args.ranges.now c.loop-k.k n (record { from = 0; end = 0 }) (omega arith));
  none = λ j l. elim (cases_eq j c.loop-k.k) [
    | inl same ↦
        subst (λ k. meets_before c.args.ranges.now c.args.others.now k ≡ false) (sym same)
        (sym (meets_any_same c.loop-k.taken (c.args.others.now ++ take c.loop-k.k c.args.ranges.now)
        c.loop-k.invariant.numbers (range_at c.args.ranges.now c.loop-k.k))
        ∙ sym c.if-meets.ensures)
    | inr differs ↦ c.loop-k.invariant.none j (omega arith)
  ];
}

pub returns : goal.returns
returns c =
    sym (least_number-none (meets_before c.args.ranges.now c.args.others.now) (length c.args.ranges.now)
    (λ j l. c.loop-k.invariant.none j (omega arith)))
