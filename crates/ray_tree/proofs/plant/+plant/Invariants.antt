use Rattle.ray_tree.proofs.plant.+plant.Given as goal

abbrev pub decreases-plant : goal.decreases-plant
decreases-plant l = l.height
