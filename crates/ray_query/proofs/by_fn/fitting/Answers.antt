use Rattle.std.proofs.Common.{arith}
use Rattle.std.proofs.lemmas.Bool.Decides.{nat_tests}
use Rattle.ray_query.proofs.by_fn.fitting.Goals as goal

pub returns : goal.returns
returns c = grind (arith, nat_tests)
