use Rattle.std.proofs.Common.{◌≡◌, ◌∙◌, sym, length, arith}
use Rattle.std.proofs.lemmas.Bool.Decides.{Decides-eqb}
use Rattle.std.proofs.lemmas.Slice.Eq.{slice_eq-Decides}
use Rattle.vkray.proofs.Texts.{is_one_word, one_word_is}
use Rattle.vkray.proofs.asked.is_word.Goals as goal

pub returns-in-len1 : goal.returns-in-len1
returns-in-len1 c =
    let words = c.args.words.now in
    let only = c.only-item.result in
    let one : length words ≡ 1 = omega arith in
    let equal = slice_eq-Decides Decides-eqb c.as_str.result.now c.args.word.now c.eq.result c.eq.ensures in (
      λ yes_run. is_one_word words only c.args.word.now one c.only-item.is (sym c.as_str.ensures.value ∙ equal.0 yes_run),
      λ all. equal.1 (c.as_str.ensures.value ∙ one_word_is words only c.args.word.now one c.only-item.is all),
    )
