use Rattle.std.proofs.Common.{rules}
use Rattle.std.proofs.lemmas.Int.{to_z-of_z}
use Rattle.ray_prune.specs.BoxSpan.{IsOnAxis}
use Rattle.ray_prune.specs.Slabs.{IsInSlab}
use Rattle.ray_prune.proofs.Reaches.{IfSome-Narrows, IfNone-Never}
use Rattle.ray_prune.proofs.box_reach.on_axis.Goals as goal

pub returns-clause-some : goal.returns-clause-some
returns-clause-some c =
    IfSome-Narrows (IsInSlab c.slab_of.result) (IsOnAxis c.args.det c.args.lo c.args.hi c.args.o c.args.m)
    c.args.reach c.narrow.result (search (rules, to_z-of_z)) c.narrow.ensures.some

pub returns-clause-none : goal.returns-clause-none
returns-clause-none c =
    IfNone-Never (IsInSlab c.slab_of.result) (IsOnAxis c.args.det c.args.lo c.args.hi c.args.o c.args.m)
    c.narrow.result (search (rules, to_z-of_z)) c.narrow.ensures.none
