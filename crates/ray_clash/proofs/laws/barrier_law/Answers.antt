use Rattle.ray_clash.proofs.Mending.{mends, words_read}
use Rattle.ray_clash.proofs.laws.barrier_law.Goals as goal

pub returns-clause-mends : goal.returns-clause-mends
returns-clause-mends c = mends

pub returns-clause-words : goal.returns-clause-words
returns-clause-words c = words_read
