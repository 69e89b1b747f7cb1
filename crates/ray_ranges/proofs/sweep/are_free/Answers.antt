use Rattle.std.proofs.Common.{sym, ◌∙◌, ap, subst}
use Rattle.std.specs.List.Sorted.{IsPermutation}
use Rattle.ray_ranges.specs.Sweep.{ascend_from}
use Rattle.ray_ranges.proofs.Sweeps.{free_from_sweep}
use Rattle.ray_ranges.proofs.sweep.are_free.Goals as goal

pub returns : goal.returns
returns c h =
    free_from_sweep c.args.ranges.now c.args.others.now c.sort_unstable_by_key.new.self.items
    (subst (λ rs. IsPermutation rs c.sort_unstable_by_key.new.self.items) c.in_ok-all.ensures
    c.sort_unstable_by_key.ensures.permutation)
    (ap (ascend_from 0 0) (sym c.as_slice.ensures.value) ∙ (sym c.ascend.ensures ∙ h))
