use Rattle.ray_contents.proofs.Within.{matrix_within-SomeIff}
use Rattle.ray_contents.proofs.limits.matrix_within.Goals as goal

pub returns-clause-value : goal.returns-clause-value
returns-clause-value c = matrix_within-SomeIff _ c.from_words.result c.from_words.ensures
