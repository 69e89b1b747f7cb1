use Rattle.std.proofs.Common.{◌≡◌, ◌∙◌, length, ap, arith}
use Rattle.std.proofs.lemmas.List.FromFn.{length-map-range_with_len}
use Rattle.std.proofs.lemmas.List.Sorted.{length_permutation}
use Rattle.ray_morton.specs.Words.{word_of}
use Rattle.ray_morton.proofs.Presorted.{moved}
use Rattle.ray_morton.proofs.presort.presorted.Goals as goal

pub gathered-requires-clause-room : goal.gathered-requires-clause-room
gathered-requires-clause-room g c κs within =
    let entries = c.args.entries.now in
    let words : length c.words_of.new.words.items ≡ length entries =
    ap length c.words_of.ensures ∙ length-map-range_with_len (word_of entries c.shift_of-shift.result) 0 (length entries) in
    let sorted = length_permutation c.words_of.new.words.items c.sort.new.words.items c.sort.ensures in
    let here = ap length c.deref.ensures.value in
    omega (arith, words, sorted, here, c.requires.sorted)

pub returns : goal.returns
returns g c =
    moved c.args.entries.now c.words_of.new.words.items c.sort.new.words.items c.deref.result.now c.gathered.new.gathered.items c.shift_of-shift.result
    c.requires.few c.words_of.ensures c.sort.ensures c.deref.ensures.value c.gathered.ensures
