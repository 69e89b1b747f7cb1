use Rattle.ray_query.proofs.Choosing.{play-above, play-filter}
use Rattle.ray_query.proofs.laws.passing_law.Goals as goal

pub returns-clause-stays : goal.returns-clause-stays
returns-clause-stays c = play-above

pub returns-clause-left_out : goal.returns-clause-left_out
returns-clause-left_out c = play-filter
