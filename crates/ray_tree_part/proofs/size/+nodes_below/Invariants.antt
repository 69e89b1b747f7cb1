use Rattle.ray_tree_part.proofs.size.+nodes_below.Given as goal

abbrev pub decreases-nodes_below : goal.decreases-nodes_below
decreases-nodes_below l = l.height
