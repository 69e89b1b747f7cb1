use Rattle.std.proofs.Common.{◌∷◌, [], ◌∙◌}
use Rattle.std.specs.Prelude.{pos, slice_index_or}
use Rattle.ray_serial.proofs.TopSteps.{word_same}
use Rattle.ray_serial.proofs.top_writing.row_words.Goals as goal

pub returns : goal.returns
returns c =
    let row = c.args.row in
    let x = c.word.ensures ∙ word_same (slice_index_or row 0 (pos 0)) (c.requires.each 0) in
    let y = c.word-2.ensures ∙ word_same (slice_index_or row 1 (pos 0)) (c.requires.each 1) in
    let z = c.word-3.ensures ∙ word_same (slice_index_or row 2 (pos 0)) (c.requires.each 2) in
    let t = c.word-4.ensures ∙ word_same (slice_index_or row 3 (pos 0)) (c.requires.each 3) in
    λ i. x i ∷ y i ∷ z i ∷ t i ∷ []
