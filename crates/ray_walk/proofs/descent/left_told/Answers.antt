use Rattle.std.proofs.Common.{subst}
use Rattle.ray_lanes.specs.declared.lanes.Lanes8.{Lanes8}
use Rattle.ray_walk.specs.Bounding.{AreTold}
use Rattle.ray_walk.proofs.Narrowing.{left-told, told-eight}
use Rattle.ray_walk.proofs.descent.left_told.Goals as goal

pub returns-clause-out : goal.returns-clause-out
returns-clause-out c =
    left-told c.args.trees.now c.requires.trees c.args._limit c.args.w c.requires.node c.args.slabs.now c.requires.slabs c.told_by-met.new.eight c.told_by-met.result
    (subst (λ (l : Lanes8). AreTold c.args.slabs.now l c.told_by-met.new.eight c.told_by-met.result) c.lanes.ensures c.told_by-met.ensures)

pub returns-clause-eight : goal.returns-clause-eight
returns-clause-eight c =
    told-eight c.args.trees.now c.requires.trees c.args._limit c.args.w c.requires.node c.args.slabs.now c.requires.slabs c.told_by-met.new.eight c.told_by-met.result
    (subst (λ (l : Lanes8). AreTold c.args.slabs.now l c.told_by-met.new.eight c.told_by-met.result) c.lanes.ensures c.told_by-met.ensures)
