use Rattle.ray_query.proofs.Choosing.{play-chosen}
use Rattle.ray_query.proofs.laws.chosen_law.Goals as goal

pub returns : goal.returns
returns c = play-chosen
