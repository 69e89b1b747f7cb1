use Rattle.ray_wide.specs.Cuts.{IsCut, nodes_in}
use Rattle.ray_wide.proofs.cut.cut_of.Given as goal

abbrev pub invariant-loop-round : goal.invariant-loop-round
invariant-loop-round l = IsCut l.tree.nodes l.top (nodes_in l.cut.items)
