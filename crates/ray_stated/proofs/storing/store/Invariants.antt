use Rattle.std.proofs.Common.{◌≡◌, take}
use Rattle.ray_stated.specs.Stored.{stored_all}
use Rattle.ray_stated.proofs.storing.store.Given as goal

abbrev pub invariant-loop-i : goal.invariant-loop-i
invariant-loop-i l = l.stored.items ≡ stored_all (take l.i l.tree.nodes) (take l.i l.tree.boxes)
