-- What a walk answers.
use Rattle.std.specs.Prelude.{ℕ, Option}
use Rattle.ray_flags.specs.declared.ray_flags.RayFlags.{RayFlags}
use Rattle.ray_query.specs.declared.candidate.Candidate.{Candidate}
use Rattle.ray_query.specs.declared.commit.Commit.{Commit}
use Rattle.ray_query.specs.declared.decision.Decision.{Decision}
use Rattle.ray_query.specs.Play.{QueryState, play, start}
use Rattle.ray_query.specs.KeyOrder.{in_key_order}
use Rattle.ray_nearest.specs.Scene.{SceneValue, found_in}

-- how a query stands once all that is found in a scene was played, in rising order of keys, by a client of this meaning
abbrev pub played_in : (Candidate → Decision) → ℕ → RayFlags → SceneValue → QueryState
played_in meaning ray flags s = play meaning ray flags start (in_key_order (found_in s))

-- what that commits, if anything
abbrev pub answer_in : (Candidate → Decision) → ℕ → RayFlags → SceneValue → Option Commit
answer_in meaning ray flags s = (played_in meaning ray flags s).committed
