use Rattle.ray_candidates.proofs.Agreeing.{candidates-agree}
use Rattle.ray_candidates.proofs.laws.agreeing_law.Goals as goal

pub returns : goal.returns
returns c = candidates-agree
