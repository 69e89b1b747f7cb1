use Rattle.ray_causes.proofs.Going.{goes_on}
use Rattle.ray_clash.proofs.finding.clash_of.Goals as goal

pub clash_at-requires-clause-go_on : goal.clash_at-requires-clause-go_on
clash_at-requires-clause-go_on c = goes_on _ _ c.requires.refused
