use Rattle.ray_causes.proofs.Going.{goes_on}
use Rattle.ray_causes.proofs.finding.status_there.Goals as goal

pub status_before-requires-clause-go_on : goal.status_before-requires-clause-go_on
status_before-requires-clause-go_on c = goes_on _ _ c.requires.refused
