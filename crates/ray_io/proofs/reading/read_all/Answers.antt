use Rattle.std.proofs.Common.{arith, ◌≤◌, ◌∙◌, length, length-take, length-append, refl}
use Rattle.std.proofs.lemmas.List.{take-append-le, length-take-le}
use Rattle.std.proofs.lemmas.Result.{err_from_is_err_and}
use Rattle.ray_io.proofs.Got.{HasGiven-more, HasGiven-leaves, HasGiven-too_long, HasGiven-within}
use Rattle.ray_io.proofs.reading.read_all.Goals as goal

pub returns-in_err-count-clause-left : goal.returns-in_err-count-clause-left
returns-in_err-count-clause-left g c =
    rw c.in_err-count.ensures.stays (HasGiven-leaves _ _ _ _ (omega (arith, c.loop-bytes.bytes.ok.0)) c.loop-bytes.invariant.told)

pub returns-then-count-eq0-clause-left : goal.returns-then-count-eq0-clause-left
returns-then-count-eq0-clause-left g c =
    let now = HasGiven-more _ _ _ _ _ _ c.loop-bytes.invariant.told c.in_ok-count.ensures.told in
    HasGiven-leaves _ _ _ _ (simp (length-append, length-take) (omega (arith, c.loop-bytes.bytes.ok.0))) now

pub returns-then-count-spare-clause-too_long : goal.returns-then-count-spare-clause-too_long
returns-then-count-spare-clause-too_long g c =
    let now = HasGiven-more _ _ _ _ _ _ c.loop-bytes.invariant.told c.in_ok-count.ensures.told in
    let within = rw length-take at c.in_ok-count.ensures.count in
    let lent = rw length-take at c.read.auto.into in
    HasGiven-too_long _ _ _ _ refl (simp (length-append, length-take) (omega (arith, c.loop-bytes.bytes.ok.0))) now

pub returns-then-count-spare-clause-left : goal.returns-then-count-spare-clause-left
returns-then-count-spare-clause-left g c =
    let now = HasGiven-more _ _ _ _ _ _ c.loop-bytes.invariant.told c.in_ok-count.ensures.told in
    let within = rw length-take at c.in_ok-count.ensures.count in
    HasGiven-leaves _ _ _ _ (simp (length-append, length-take) (omega (arith, c.loop-bytes.bytes.ok.0))) now

pub loop-bytes-preserved : goal.loop-bytes-preserved
loop-bytes-preserved g c =
    let now = HasGiven-more _ _ _ _ _ _ c.loop-bytes.invariant.told c.in_ok-count.ensures.told in
    let given : c.in_ok-count.count ≤ length c.read.new.into = omega (arith, c.in_ok-count.ensures.count, c.read.auto.into) in
    let same = rw (take-append-le c.in_ok-count.count c.read.new.into _ given) at c.in_ok-extend_from_slice.ensures.items in
    let grown = rw (take-append-le c.in_ok-count.count c.read.new.into _ given, length-take-le _ _ given) at c.in_ok-extend_from_slice.ensures.len in
    record {
      limited = omega arith;
      buffered = omega arith;
      told = rw same now;
      telling = c.in_ok-count.ensures.telling ∙ c.loop-bytes.invariant.telling;
      rising = omega (arith, c.in_ok-count.ensures.rising);
    }

pub returns-in_err-extend_from_slice-clause-too_long :
    goal.returns-in_err-extend_from_slice-clause-too_long
returns-in_err-extend_from_slice-clause-too_long g c =
    let p = err_from_is_err_and c.from_residual-in_err-extend_from_slice.result c.from_residual-in_err-extend_from_slice.ensures.1 in
    let now = HasGiven-more _ _ _ _ _ _ c.loop-bytes.invariant.told c.in_ok-count.ensures.told in
    rw (p.1, p.2) (HasGiven-within _ _ _ _ (λ same. cc) (simp (length-append, length-take) (omega (arith, c.loop-bytes.bytes.ok.0))) now)

pub returns-in_err-extend_from_slice-clause-left :
    goal.returns-in_err-extend_from_slice-clause-left
returns-in_err-extend_from_slice-clause-left g c =
    let now = HasGiven-more _ _ _ _ _ _ c.loop-bytes.invariant.told c.in_ok-count.ensures.told in
    HasGiven-leaves _ _ _ _ (simp (length-append, length-take) (omega (arith, c.loop-bytes.bytes.ok.0))) now
