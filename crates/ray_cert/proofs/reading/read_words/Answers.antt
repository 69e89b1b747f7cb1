use Rattle.std.proofs.Common.{◌∙◌, ◌+◌, ap, ℕ, List, [], ◌∷◌, codes, drop, get_or, map}
use Rattle.ray_cert.specs.Words.{digits_of_word, string_word, texts}
use Rattle.ray_cert.proofs.WordsRead.{words-made}
use Rattle.ray_cert.proofs.reading.read_words.Goals as goal

pub returns : goal.returns
returns c = λ command ray cert small e.
    let words : List (List ℕ) = texts c.args.words.now in
    let one = c.read_number-command.ensures command small.command_small (c.word_at.ensures ∙ ap (λ (l : List (List ℕ)). get_or l 1 []) e) in
    let two = c.read_number-ray.ensures ray small.ray_small (c.word_at-2.ensures ∙ ap (λ (l : List (List ℕ)). get_or l 2 []) e) in
    let hit = c.read_hit-named.ensures cert.named (codes "|" ∷ map string_word cert.strings) small.hit_small (c.words_from.ensures ∙ ap (λ (l : List (List ℕ)). drop 3 l) e) in
    let strings = c.in_ok-strings.ensures
    ∙ ap (λ (l : List (List ℕ)). map digits_of_word l) (c.words_from-2.ensures ∙ ap (λ (n : ℕ). drop (4 + n) words) c.hit_size.ensures) in
    words-made command ray cert words (record { command = c.read_number-command.result; ray = c.read_number-ray.result; cert = c.new.result })
    c.read_hit-named.result c.in_ok-strings.strings.items e one two c.new.ensures hit strings
