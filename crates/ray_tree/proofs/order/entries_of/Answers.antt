use Rattle.std.proofs.Common.{sym, subst, arith, ap, take, ◌+◌, ◌∙◌}
use Rattle.ray_tree.specs.Entries.{HasEach}
use Rattle.ray_tree.proofs.Entered.{each_some, each_none}
use Rattle.ray_tree.proofs.order.entries_of.Goals as goal
use Rattle.ray_tree.proofs.order.entries_of.Goals.{in-Some+in_ok-push, in_default}

pub loop-i-preserved : goal.loop-i-preserved
loop-i-preserved c = elim c.match-items-i.branch [
  | in-Some+in_ok-push w ↦
      each_some c.args.items.now c.loop-i.i w.in-Some.b w.entry_of.result c.loop-i.entries.items c.match-items-i.entries.items c.index-items-i.result
      (omega arith) c.index-items-i.is w.in-Some.is w.entry_of.ensures (ap (λ v. v.items) w.entries-is ∙ w.in_ok-push.ensures.items) c.loop-i.invariant
  | in_default w ↦
      subst (λ v. HasEach (take (c.loop-i.i + 1) c.args.items.now) v.items) (sym w.entries-is)
      (each_none c.args.items.now c.loop-i.i c.loop-i.entries.items c.index-items-i.result (omega arith) c.index-items-i.is w.in_default.not-Some c.loop-i.invariant)
]
