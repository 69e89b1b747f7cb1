use Rattle.ray_candidates.proofs.Exactly.{candidates-one, candidates-so}
use Rattle.ray_candidates.proofs.Facing.{sees_front-so}
use Rattle.ray_candidates.proofs.laws.candidates_law.Goals as goal

pub returns-clause-so : goal.returns-clause-so
returns-clause-so c = candidates-so

pub returns-clause-only : goal.returns-clause-only
returns-clause-only c = candidates-one

pub returns-clause-faces : goal.returns-clause-faces
returns-clause-faces c = sees_front-so
