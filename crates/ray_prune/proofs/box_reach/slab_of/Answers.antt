use Rattle.std.proofs.Common.{rules}
use Rattle.std.proofs.lemmas.Int.{to_z-of_z}
use Rattle.ray_prune.proofs.Slabs.{IsBetween-falling, IsBetween-rising}
use Rattle.ray_prune.proofs.box_reach.slab_of.Goals as goal

pub returns-then-m-lt0-clause-inside : goal.returns-then-m-lt0-clause-inside
returns-then-m-lt0-clause-inside c =
    IsBetween-falling c.args.near c.args.far c.args.o c.args.m _ _ c.unsigned_abs-size.result
    (search (rules, to_z-of_z)) (search (rules, to_z-of_z)) (search (rules, to_z-of_z)) (search (rules, to_z-of_z))

pub returns-else-m-lt0-clause-inside : goal.returns-else-m-lt0-clause-inside
returns-else-m-lt0-clause-inside c =
    IsBetween-rising c.args.near c.args.far c.args.o c.args.m _ _ c.unsigned_abs-size.result
    (search (rules, to_z-of_z)) (search (rules, to_z-of_z)) (search (rules, to_z-of_z)) (search (rules, to_z-of_z))
