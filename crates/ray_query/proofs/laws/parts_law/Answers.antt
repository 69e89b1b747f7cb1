use Rattle.ray_query.proofs.Playing.{play-append, play-over}
use Rattle.ray_query.proofs.laws.parts_law.Goals as goal

pub returns-clause-parts : goal.returns-clause-parts
returns-clause-parts c = play-append

pub returns-clause-over : goal.returns-clause-over
returns-clause-over c = play-over
