use Rattle.std.proofs.Common.{arith}
use Rattle.ray_tree_part.proofs.NodeCounts.{nodes_some}
use Rattle.ray_tree_part.proofs.size.nodes_over.Goals as goal

pub returns-else-count-eq0 : goal.returns-else-count-eq0
returns-else-count-eq0 c = nodes_some c.args.count c.nodes_below.result (omega arith) c.nodes_below.ensures.value
