use Rattle.std.proofs.Common.{◌≡◌, Some}
use Rattle.ray_contents.specs.Gathering.{all_some}
use Rattle.ray_tree_part.specs.TreeParts.{node_of}
use Rattle.ray_tree_part.proofs.reading.nodes_in.Given as goal

-- the nodes so far
abbrev pub invariant-loop-i : goal.invariant-loop-i
invariant-loop-i l = all_some (node_of l.part) l.i ≡ Some l.nodes.items
