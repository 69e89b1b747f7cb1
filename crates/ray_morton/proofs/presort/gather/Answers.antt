use Rattle.std.proofs.Common.{rules, arith}
use Rattle.ray_morton.specs.Words.{placed}
use Rattle.ray_morton.proofs.Places.{set_each}
use Rattle.ray_morton.proofs.presort.gather.Goals as goal

pub returns : goal.returns
returns g c =
    set_each (placed c.args.entries.now) c.args.words.now _ 0 0 (search rules)
    (λ k lt. let at = (c.for_each_mut.ensures k 0 (omega (arith, lt, c.requires.long))).1 in search rules)
