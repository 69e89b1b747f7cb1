use Rattle.std.proofs.Common.{length, get_or, refl, arith}
use Rattle.ray_stated.proofs.Marked.{none_marked, marked_more, marked_all, seen_twice}
use Rattle.ray_stated.proofs.apart.are_unmarked.Goals as goal

pub loop-k-init : goal.loop-k-init
loop-k-init c = none_marked (length c.args.marks.now) c.args.marks.now refl c.requires

pub returns-then-marks-i : goal.returns-then-marks-i
returns-then-marks-i c =
    seen_twice (length c.args.marks.now) c.args.numbers.now c.loop-k.k (get_or c.args.numbers.now c.loop-k.k 0) c.loop-k.marks (omega arith) refl
    (omega (arith, c.loop-k.invariant.long)) c.if-marks-i.true c.loop-k.invariant

pub loop-k-preserved : goal.loop-k-preserved
loop-k-preserved c =
    marked_more (length c.args.marks.now) c.args.numbers.now c.loop-k.k (get_or c.args.numbers.now c.loop-k.k 0) c.loop-k.marks (omega arith) refl
    (omega (arith, c.loop-k.invariant.long)) c.if-marks-i.false c.loop-k.invariant

pub returns : goal.returns
returns c = (λ h. marked_all (length c.args.marks.now) c.args.numbers.now c.loop-k.k c.loop-k.marks (omega arith) c.loop-k.invariant, λ a. refl)
