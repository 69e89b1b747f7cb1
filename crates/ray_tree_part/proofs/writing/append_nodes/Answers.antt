use Rattle.ray_tree_part.specs.TreeParts.{node_bytes, IsWritable}
use Rattle.ray_tree_part.proofs.Grown.{bytes_more, all_more}
use Rattle.ray_tree_part.proofs.writing.append_nodes.Goals as goal

pub loop-node-preserved : goal.loop-node-preserved
loop-node-preserved c =
    let nodes = c.args.nodes.now in
    let k = c.loop-node.node-index in
    record {
      bytes = bytes_more node_bytes nodes c.args.bytes.now.items c.loop-node.bytes.items c.append_node.new.bytes.items k c.node-item.result c.node-item.result
          c.loop-node-test.true c.node-item.is c.loop-node.invariant.bytes c.in_ok-append_node.ensures.written;
      all = all_more IsWritable nodes k c.node-item.result c.node-item.result c.loop-node-test.true c.node-item.is c.loop-node.invariant.all c.in_ok-append_node.ensures.fits;
    }
