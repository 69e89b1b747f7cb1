-- Readiness is told by what the action reads, since what it sees is.
use Rattle.std.proofs.Common.{subst}
use Rattle.ray_action.specs.Readiness.{IsEnough}
use Rattle.ray_action.proofs.Local.{seen_same}
use Rattle.ray_ready.specs.Laws.{ReadinessIsLocal}

pub ready_local : ReadinessIsLocal
ready_local action memory other same ready = subst (λ seen. IsEnough action seen) (seen_same action memory other same) ready
