use Rattle.ray_slabs.proofs.Eighths.{number-fits, number-told}
use Rattle.ray_slabs.proofs.eights.at_most.Goals as goal

pub overflow_cast-result : goal.overflow_cast-result
overflow_cast-result c = number-fits c.args.a c.args.b c.requires.a c.requires.b

pub returns : goal.returns
returns c = number-told c.args.a c.args.b c.requires.a c.requires.b
