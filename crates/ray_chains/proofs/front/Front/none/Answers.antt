use Rattle.ray_chains.proofs.Tables.{front-first}
use Rattle.ray_chains.proofs.front.Front.none.Goals as goal

pub returns-clause-first : goal.returns-clause-first
returns-clause-first c acts steps queue = front-first acts steps queue
