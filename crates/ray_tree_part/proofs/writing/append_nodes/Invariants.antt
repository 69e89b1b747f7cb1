use Rattle.std.proofs.Common.{◌≡◌, ◌++◌, take}
use Rattle.std.specs.Prelude.{All}
use Rattle.std.specs.List.{flat_map}
use Rattle.ray_tree_part.specs.TreeParts.{node_bytes, IsWritable}
use Rattle.ray_tree_part.proofs.writing.append_nodes.Given as goal

-- the nodes so far
abbrev pub invariant-loop-node : goal.invariant-loop-node
invariant-loop-node l = record {
  bytes : l.bytes.items ≡ l.initial.bytes.items ++ flat_map node_bytes (take l.node-index l.nodes);
  all : All IsWritable (take l.node-index l.nodes);
}
