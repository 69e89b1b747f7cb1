-- The query machine as contracts see it, and what each of its calls does: together they are one
-- candidate of the play.
use Rattle.std.specs.Prelude.{ℕ, ◌≡◌, Option, Some, None, Bool, true, false, ◌&&◌, not}
use Rattle.ray_geom.specs.declared.frac.Frac.{Frac}
use Rattle.ray_flags.specs.declared.ray_flags.RayFlags.{RayFlags}
use Rattle.ray_query.specs.declared.found.Found.{Found}
use Rattle.ray_query.specs.declared.decision.Decision.{Decision}
use Rattle.ray_query.specs.declared.step.Step.{Step}
use Rattle.ray_query.specs.declared.step.Step.TheVariants.{Passed, Committed, Ask}
use Rattle.ray_query.specs.Play.{QueryState, start, counts, commits_unasked, candidate_of, offered, committed_at, generated_at, is_in_span, is_triangle, decided}

-- a query: the number of its ray, its flags, what was offered and isn't answered yet, and the
-- state of the play
pub record QueryValue : Type 0 where
  pub ray : ℕ
  pub flags : RayFlags
  pub asked : Option Found
  pub state : QueryState

-- the query once a commit at this distance was tried, a box was generated there, a decision taken
abbrev pub after_commit : QueryValue → Found → Frac → QueryValue
after_commit q f t = record q { state = committed_at q.flags f t q.state }

abbrev pub after_generation : QueryValue → Found → Frac → QueryValue
after_generation q f t = record q { state = generated_at q.flags f t q.state }

abbrev pub after_decision : QueryValue → Found → Decision → QueryValue
after_decision q f d = record q { state = decided q.flags f d q.state }

-- a query that begins (OpRayQueryInitializeKHR)
abbrev pub query_of : ℕ → RayFlags → QueryValue
query_of ray flags = record { ray = ray; flags = flags; asked = None; state = start }

-- what a query shows when a candidate comes (OpRayQueryProceedKHR): it is passed over exactly where
-- its key isn't below the committed one, committed unasked exactly where it is an opaque triangle,
-- and else offered, with the number of earlier offers
abbrev pub IsOffered : QueryValue → Found → Step → QueryValue → Type 0
IsOffered q f Passed r = (counts f f.t q.state ≡ false) × (r ≡ q)
IsOffered q f Committed r =
    (counts f f.t q.state ≡ true)
    × (commits_unasked f ≡ true)
    × (r ≡ after_commit q f f.t)
IsOffered q f (Ask c) r =
    (counts f f.t q.state ≡ true)
    × (commits_unasked f ≡ false)
    × (c ≡ candidate_of q.ray q.state f)
    × (r ≡ record q { asked = Some f; state = offered q.state })

-- the query once this decision answers the offer
abbrev pub answered : QueryValue → Found → Decision → QueryValue
answered q f d = record (after_decision q f d) { asked = None }

-- a confirmation counts: it is a triangle, and its key is below the committed one
abbrev pub confirms : Found → QueryState → Bool
confirms f st = is_triangle f.kind && counts f f.t st

-- a generation counts: it is a box, the distance is from its entry to its exit, and the key with
-- this distance is below the committed one
abbrev pub generates : Found → Frac → QueryState → Bool
generates f t st = is_in_span f t && (not (is_triangle f.kind) && counts f t st)
