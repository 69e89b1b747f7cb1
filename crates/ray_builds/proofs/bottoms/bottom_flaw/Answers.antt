use Rattle.std.proofs.Common.{◌∙◌, ap, is_some, sym}
use Rattle.ray_builds.proofs.Built.{bottom_of_both, bottom_of_instances}
use Rattle.ray_builds.proofs.bottoms.bottom_flaw.Goals as goal

pub returns-in-Some-clause-told : goal.returns-in-Some-clause-told
returns-in-Some-clause-told c = bottom_of_instances c.args.geometries.now (ap is_some (sym c.in-Some.is) ∙ c.first_of.ensures.told)

pub returns-in-None-clause-told : goal.returns-in-None-clause-told
returns-in-None-clause-told c =
    bottom_of_both c.args.geometries.now _ (ap is_some (sym c.in-None.is) ∙ c.first_of.ensures.told) c.both_kinds.ensures.told
