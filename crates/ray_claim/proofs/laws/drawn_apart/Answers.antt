use Rattle.ray_claim.proofs.Apart.{drawn_apart}
use Rattle.ray_claim.proofs.laws.drawn_apart.Goals as goal

pub returns : goal.returns
returns c = drawn_apart
