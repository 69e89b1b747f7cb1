use Rattle.std.proofs.Common.{◌+◌, ◌∙◌, sym, subst, arith, ap}
use Rattle.ray_stated.specs.Order.{actives}
use Rattle.ray_stated.proofs.Entered.{IsEntered, entered_none, entered_some, entered_same}
use Rattle.ray_stated.proofs.entry.entries_of.Goals as goal
use Rattle.ray_stated.proofs.entry.entries_of.Goals.{in-Some+in_ok-push, in_default}

pub loop-i-init : goal.loop-i-init
loop-i-init c = entered_none c.args.items.now c.in_ok-entries.entries.items c.in_ok-entries.ensures.items

pub loop-i-preserved : goal.loop-i-preserved
loop-i-preserved c = elim c.match-items-i.branch [
  | in-Some+in_ok-push w ↦
      entered_some c.args.items.now c.loop-i.i w.in-Some.b w.entry_of.result c.loop-i.entries.items c.match-items-i.entries.items c.index-items-i.result
      (omega arith) (omega (arith, c.requires)) c.index-items-i.is w.in-Some.is w.entry_of.ensures.sums w.entry_of.ensures.item
      (ap (λ v. v.items) w.entries-is ∙ w.in_ok-push.ensures.items) c.loop-i.invariant
  | in_default w ↦
      subst (λ v. IsEntered c.args.items.now (c.loop-i.i + 1) v.items) (sym w.entries-is)
      (entered_same c.args.items.now c.loop-i.i c.loop-i.entries.items c.index-items-i.result (omega arith) c.index-items-i.is w.in_default.not-Some c.loop-i.invariant)
]

pub returns-clause-of : goal.returns-clause-of
returns-clause-of c = c.loop-i.invariant.of

pub returns-clause-small : goal.returns-clause-small
returns-clause-small c = c.loop-i.invariant.small

pub returns-clause-each : goal.returns-clause-each
returns-clause-each c = c.loop-i.invariant.each ∙ ap (actives c.args.items.now) (omega arith)
