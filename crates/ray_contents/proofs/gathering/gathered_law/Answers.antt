use Rattle.ray_contents.proofs.Gathered.{gathered_law}
use Rattle.ray_contents.proofs.gathering.gathered_law.Goals as goal

pub returns : goal.returns
returns g c = gathered_law (g.R.Reads.element c.args._reads.now)
