use Rattle.std.proofs.Common.{◌∙◌}
use Rattle.ray_cert.proofs.WordsRead.{fraction-is}
use Rattle.ray_cert.proofs.words.fraction_of.Goals as goal

pub returns : goal.returns
returns c = λ t num den. c.unwrap_or.ensures ∙ fraction-is c.args.num c.args.den c.new.result c.zero.result t num den c.new.ensures.some c.new.ensures.only
