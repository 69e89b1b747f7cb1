use Rattle.std.proofs.Common.{◌∙◌, ap}
use Rattle.ray_ranges.specs.First.{first_meeting}
use Rattle.ray_valid.proofs.Few.{few_regions}
use Rattle.ray_valid.proofs.conflicts.first_region_conflict.Goals as goal

pub part-requires : goal.part-requires
part-requires c =
    few_regions c.args.regions.now c.as_slice-2.result.now c.in_ok-first.first c.requires
    (c.in_ok-first.ensures
    ∙ ap (λ targets. first_meeting targets c.as_slice-2.result.now) (c.as_slice.ensures.value ∙ c.in_ok-targets.ensures))
