use Rattle.std.proofs.Common.{rules, length}
use Rattle.std.proofs.lemmas.List.FromFn.{fill_by_all}
use Rattle.ray_morton.specs.Words.{word_of}
use Rattle.ray_morton.proofs.presort.set_words.Goals as goal

pub returns : goal.returns
returns g c =
    fill_by_all (word_of c.args.entries.now c.args.shift) _ (length c.args.words.now) 0 (search rules)
    (λ k lt. let at = (c.for_each_mut.ensures k 0 lt).1 in search rules)
