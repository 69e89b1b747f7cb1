use Rattle.std.proofs.Common.{◌<◌, ◌∙◌, length, arith, sym, subst}
use Rattle.ray_valid.specs.Parts.{HasSeen}
use Rattle.ray_valid.proofs.Seeing.{met-first, met-later, one-more, seen-more}
use Rattle.ray_valid.proofs.conflicts.first_conflict.Goals as goal

pub returns-then-is_met-clause-value : goal.returns-then-is_met-clause-value
returns-then-is_met-clause-value c =
    let l = c.loop-k in
    let within : l.k < length c.args.infos.now = omega arith in
    sym (met-first c.args.infos.now l.k c.index-infos-k.result l.seen.written.keys l.seen.read.keys l.seen.scratch within
    c.index-infos-k.is l.invariant.seen c.is_met.ensures.fits (sym c.is_met.ensures.value ∙ c.if-is_met.true))
    ∙ l.invariant.rest

pub loop-k-preserved : goal.loop-k-preserved
loop-k-preserved c =
    let here = c.index-infos-k.is in
    let info = c.index-infos-k.result in
    let l = c.loop-k in
    let a = c.add.new.self in
    let added = c.in_ok-add.ensures in
    let within : l.k < length c.args.infos.now = omega arith in
    record {
      rest = sym (met-later c.args.infos.now l.k info l.seen.written.keys l.seen.read.keys l.seen.scratch within here
          l.invariant.seen c.is_met.ensures.fits (sym c.is_met.ensures.value ∙ c.if-is_met.false)) ∙ l.invariant.rest;
      seen = subst (λ xs. HasSeen xs a.written.keys a.read.keys a.scratch) (sym (one-more c.args.infos.now l.k info within here))
          (seen-more _ l.seen.written.keys l.seen.read.keys l.seen.scratch info a.written.keys a.read.keys a.scratch
          l.invariant.seen c.is_met.ensures.fits added.written added.read added.scratch);
    }
