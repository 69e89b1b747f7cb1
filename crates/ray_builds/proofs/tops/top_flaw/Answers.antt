use Rattle.std.proofs.Common.{◌∙◌}
use Rattle.ray_builds.proofs.Built.{one_of_top}
use Rattle.ray_builds.proofs.tops.top_flaw.Goals as goal

pub returns-then-count-eq1-clause-told : goal.returns-then-count-eq1-clause-told
returns-then-count-eq1-clause-told c = c.flaw_of_one.ensures.told ∙ one_of_top c.args.geometries.now c.if-count-eq1.true
