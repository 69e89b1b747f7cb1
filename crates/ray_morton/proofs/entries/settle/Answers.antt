use Rattle.std.proofs.lemmas.List.Sorted.{IsPermutation-trans}
use Rattle.ray_morton.proofs.InOrder.{sorted_rises}
use Rattle.ray_morton.proofs.entries.settle.Goals as goal

pub returns-clause-same : goal.returns-clause-same
returns-clause-same g c =
    IsPermutation-trans c.args.entries.now.items c.sort_all_runs.new.entries.items c.sort.new.entries.items c.sort_all_runs.ensures c.sort.ensures.same

pub returns-clause-rises : goal.returns-clause-rises
returns-clause-rises g c = sorted_rises c.sort.new.entries.items c.sort.ensures.sorted
