use Rattle.std.proofs.Common.{◌≡◌, map}
use Rattle.std.specs.List.{range_with_len}
use Rattle.ray_tree_part.specs.TreeParts.{item_of}
use Rattle.ray_tree_part.proofs.reading.order_in.Given as goal

-- the numbers so far
abbrev pub invariant-loop-k : goal.invariant-loop-k
invariant-loop-k l = l.order.items ≡ map (item_of l.part) (range_with_len 0 l.k)
