use Rattle.std.proofs.Common.{◌≡◌, map, take}
use Rattle.ray_cert.specs.Words.{digits_of_word, texts}
use Rattle.ray_cert.proofs.words.read_strings.Given as goal

-- the strings so far
abbrev pub invariant-loop-word : goal.invariant-loop-word
invariant-loop-word l = l.strings.items ≡ map digits_of_word (texts (take l.word-index l.words))
