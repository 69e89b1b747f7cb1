use Rattle.ray_permitted.proofs.Refused.{break_no_rule}
use Rattle.ray_permitted.proofs.laws.unrefused_break_no_rule.Goals as goal

pub returns : goal.returns
returns c = break_no_rule c.args.rec.now c.sources_law.ensures
