use Rattle.ray_climb.proofs.Ranges.{joined_done}
use Rattle.ray_climb.proofs.all.together.Goals as goal

pub returns : goal.returns
returns c =
    joined_done c.args.climb.now.id c.args.from c.args.middle c.args.to c.args.first c.args.second c.join.new.into c.requires.ordered.0 c.requires.ordered.1 c.requires.first c.requires.second c.join.ensures.joined
