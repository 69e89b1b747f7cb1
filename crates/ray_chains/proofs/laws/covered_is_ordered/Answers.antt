use Rattle.ray_chains.proofs.Covered.{covered-is-ordered, waits-order}
use Rattle.ray_chains.proofs.laws.covered_is_ordered.Goals as goal

pub returns : goal.returns
returns c = record { covered = covered-is-ordered; wait = waits-order }
