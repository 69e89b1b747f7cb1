use Rattle.ray_tree.proofs.arrange.+select.Given as goal

abbrev pub decreases-select : goal.decreases-select
decreases-select l = l.cuts
