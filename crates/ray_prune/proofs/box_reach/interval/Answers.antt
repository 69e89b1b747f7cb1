use Rattle.ray_prune.proofs.Reaches.{Covers-interval}
use Rattle.ray_prune.proofs.box_reach.interval.Goals as goal

pub returns-clause-covers : goal.returns-clause-covers
returns-clause-covers c =
    λ n d _.
    Covers-interval _ c.args.least c.args.most c.part.ensures.num c.part.ensures.den c.part-2.ensures.num c.part-2.ensures.den n d
