use Rattle.std.proofs.Common.{◌≡◌, map, drop}
use Rattle.ray_json.specs.Fields.{find_word}
use Rattle.ray_json.proofs.words.read_word.Given as goal

-- the rows so far have another word
abbrev pub invariant-loop-name : goal.invariant-loop-name
invariant-loop-name g l =
    find_word (map (λ row. (row.0.now, row.1)) (drop l.name-index l.table)) l.word ≡ find_word (map (λ row. (row.0.now, row.1)) l.table) l.word
