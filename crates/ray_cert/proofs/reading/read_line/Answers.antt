use Rattle.std.proofs.Common.{◌∙◌, ap, List, Bor, ℕ}
use Rattle.ray_cert.specs.Words.{texts}
use Rattle.ray_cert.proofs.WordsRead.{line-read}
use Rattle.ray_cert.proofs.reading.read_line.Goals as goal

pub returns : goal.returns
returns c =
    line-read c.args.line.now (texts c.deref.result.now) c.read_words.result
    (ap (λ (l : List (Bor (List ℕ))). texts l) c.deref.ensures.value ∙ c.in_ok-words.ensures) c.read_words.ensures
