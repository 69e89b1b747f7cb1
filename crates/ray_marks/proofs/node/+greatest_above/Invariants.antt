use Rattle.ray_marks.proofs.node.+greatest_above.Given as goal

abbrev pub decreases-greatest_above : goal.decreases-greatest_above
decreases-greatest_above l = l.height
