use Rattle.ray_marks.proofs.node.+mark.Given as goal

abbrev pub decreases-mark : goal.decreases-mark
decreases-mark l = l.height
