use Rattle.ray_script.proofs.Spelled.{distance_at-spelling, distance_at-value}
use Rattle.ray_script.proofs.deciding.distance_law.Goals as goal

pub returns-clause-value : goal.returns-clause-value
returns-clause-value c = distance_at-value

pub returns-clause-spelling : goal.returns-clause-spelling
returns-clause-spelling c = distance_at-spelling
