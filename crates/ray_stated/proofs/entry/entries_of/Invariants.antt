use Rattle.ray_stated.proofs.Entered.{IsEntered}
use Rattle.ray_stated.proofs.entry.entries_of.Given as goal

abbrev pub invariant-loop-i : goal.invariant-loop-i
invariant-loop-i l = IsEntered l.items l.i l.entries.items
