use Rattle.ray_candidates.proofs.Fractions.{KeepsAllNumbers-told}
use Rattle.ray_candidates.proofs.laws.numbers_law.Goals as goal

pub returns : goal.returns
returns c = KeepsAllNumbers-told c.test_prim-meet.result _ c.test_prim-meet.ensures.meet
