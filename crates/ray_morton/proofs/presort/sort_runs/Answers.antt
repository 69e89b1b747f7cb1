use Rattle.std.proofs.lemmas.List.Sorted.{IsPermutation-trans}
use Rattle.ray_morton.proofs.presort.sort_runs.Goals as goal

pub loop-from-preserved-then-to-from-gt1 : goal.loop-from-preserved-then-to-from-gt1
loop-from-preserved-then-to-from-gt1 c =
    IsPermutation-trans c.args.entries.now c.loop-from.entries c.sort_part.new.entries c.loop-from.invariant c.sort_part.ensures.same
