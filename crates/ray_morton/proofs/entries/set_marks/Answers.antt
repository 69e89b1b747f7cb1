use Rattle.std.proofs.Common.{rules, length, arith}
use Rattle.std.proofs.lemmas.List.FromFn.{fill_by_all}
use Rattle.ray_morton.specs.Entries.{mark_at}
use Rattle.ray_morton.proofs.entries.set_marks.Goals as goal

pub returns : goal.returns
returns g c =
    fill_by_all (mark_at c.args.items.now) _ (length c.args.items.now) 0 (search rules)
    (λ k lt. let at = (c.for_each_mut.ensures k 0 (omega (arith, lt, c.requires.long))).1 in search rules)
