use Rattle.ray_query.proofs.Playing.{confirming-closest}
use Rattle.ray_query.proofs.laws.confirming_law.Goals as goal

pub returns : goal.returns
returns c = confirming-closest
