use Rattle.std.proofs.Common.{arith}
use Rattle.ray_cert.proofs.WordsRead.{texts-from}
use Rattle.ray_cert.proofs.words.words_from.Goals as goal

pub returns-then-k-words : goal.returns-then-k-words
returns-then-k-words c = texts-from c.args.words.now c.args.k (omega (arith, c.if-k-words.true))
