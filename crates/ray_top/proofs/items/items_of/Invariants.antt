use Rattle.std.proofs.Common.{◌≡◌, take, map}
use Rattle.ray_top.specs.Trees.{item_of}
use Rattle.ray_top.proofs.items.items_of.Given as goal

-- the instances so far
abbrev pub invariant-loop-i : goal.invariant-loop-i
invariant-loop-i l = l.items.items ≡ map (item_of l.used) (take l.i-index l.instances)
