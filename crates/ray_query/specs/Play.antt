-- The play: what a ray query commits of a list of candidates in key order, as its client decides.
-- (Vulkan, "Ray Traversal" and "Ray Queries"; SPV_KHR_ray_query: what OpRayQueryProceedKHR and the
-- three answers of a shader do. Own: each candidate is offered at most once, in key order, and the
-- decisions that say at which distance a box is generated.)
--
-- By hand, for three triangles that aren't opaque at the distances 3, 4 and 5, whose primitives are
-- 2, 1 and 0, and no flags: a client that ignores the offers 0 and 1 and confirms each later one is
-- offered 2, 1 and 0 with `nth` 0, 1 and 2, so the commit is primitive 0 at 5. One that confirms
-- offer 0 commits primitive 2 at 3; the keys of the others aren't below that, so they are passed
-- over, and `offers` stays 1. A box from 6 to 10 that is generated at 5 isn't committed, since 5 is
-- below its entry.
use Rattle.std.specs.Prelude.{ℕ, ◌+◌, ◌-◌, ◌^◌, min, Option, Some, None, Bool, true, false, ◌&&◌, ◌||◌, if◌then◌else◌, List, [], ◌∷◌}
use Rattle.std.specs.Ordering.{is_le}
use Rattle.ray_geom.specs.declared.frac.Frac.{Frac}
use Rattle.ray_geom.specs.Frac.{frac_cmp}
use Rattle.ray_flags.specs.declared.kind.Kind.{Kind}
use Rattle.ray_flags.specs.declared.kind.Kind.TheVariants.{Triangle, Aabb}
use Rattle.ray_flags.specs.declared.ray_flags.RayFlags.{RayFlags}
use Rattle.ray_flags.specs.Flags.{ray_has, TerminateOnFirstHit}
use Rattle.ray_query.specs.declared.found.Found.{Found}
use Rattle.ray_query.specs.declared.candidate.Candidate.{Candidate}
use Rattle.ray_query.specs.declared.commit.Commit.{Commit}
use Rattle.ray_query.specs.declared.decision.Decision.{Decision}
use Rattle.ray_query.specs.declared.decision.Decision.TheVariants.{Ignore, Confirm, GenerateEntry, GenerateExit, GenerateAt, Terminate, ConfirmTerminate}
use Rattle.ray_query.specs.Key.{key_at, is_below}

-- what a query keeps: the committed hit, if there is one; how many candidates were offered; whether
-- the query is over
pub record QueryState : Type 0 where
  pub committed : Option Commit
  pub offers : ℕ
  pub over : Bool

-- nothing is committed, and nothing was offered
abbrev pub start : QueryState
start = record { committed = None; offers = 0; over = false }

-- what was found is a triangle
abbrev pub is_triangle : Kind → Bool
is_triangle Triangle = true
is_triangle Aabb = false

-- a commit at this distance counts: its key is below the committed one
abbrev pub counts : Found → Frac → QueryState → Bool
counts f t st = is_below (key_at f t) st.committed

-- an opaque triangle commits without being offered; an opaque box is offered (Vulkan: an AABB
-- candidate is always offered, since only the shader can generate its hit)
abbrev pub commits_unasked : Found → Bool
commits_unasked f = f.opaque && is_triangle f.kind

-- what is offered: the ray's number, how many were offered before, and what was found
abbrev pub candidate_of : ℕ → QueryState → Found → Candidate
candidate_of ray st f = record { ray = ray; nth = st.offers; found = f }

-- one more was offered; the number stands still at the last of 64 bits, which no scene comes to
abbrev pub offered : QueryState → QueryState
offered st = record st { offers = min (st.offers + 1) (2 ^ 64 - 1) }

-- committed at this distance, where that counts; the first commit that counts ends a query that
-- asks for it (TerminateOnFirstHitKHR)
abbrev pub committed_at : RayFlags → Found → Frac → QueryState → QueryState
committed_at flags f t st =
    if counts f t st
    then record st {
      committed = Some (record { found = f; t = t });
      over = st.over || ray_has flags TerminateOnFirstHit;
    }
    else st

-- the query is over (OpRayQueryTerminateKHR)
abbrev pub ended : QueryState → QueryState
ended st = record st { over = true }

-- a box may be generated at this distance: from its entry to its exit, both included (own: Vulkan
-- takes any distance in the ray's interval)
abbrev pub is_in_span : Found → Frac → Bool
is_in_span f t = is_le (frac_cmp f.t t) && is_le (frac_cmp t f.exit)

-- a box commits at this distance, a triangle does nothing (OpRayQueryGenerateIntersectionKHR)
abbrev pub generated_at : RayFlags → Found → Frac → QueryState → QueryState
generated_at flags f t st = if is_triangle f.kind then st else committed_at flags f t st

-- what a decision does with what was offered, by its kind
abbrev pub decided : RayFlags → Found → Decision → QueryState → QueryState
decided flags f Ignore st = st
decided flags f Confirm st = if is_triangle f.kind then committed_at flags f f.t st else st
decided flags f GenerateEntry st = generated_at flags f f.t st
decided flags f GenerateExit st = generated_at flags f f.exit st
decided flags f (GenerateAt t) st = if is_in_span f t then generated_at flags f t st else st
decided flags f Terminate st = ended st
decided flags f ConfirmTerminate st =
    if is_triangle f.kind then ended (committed_at flags f f.t st) else st

-- one candidate: passed over where the query is over or its key isn't below the committed one; else
-- committed unasked; else offered to a client of this meaning, whose decision is taken
abbrev pub play_one : (Candidate → Decision) → ℕ → RayFlags → QueryState → Found → QueryState
play_one meaning ray flags st f =
    if st.over then st else
    if counts f f.t st
    then (
    if commits_unasked f
    then committed_at flags f f.t st
    else decided flags f (meaning (candidate_of ray st f)) (offered st)
    )
    else st

-- the candidates of a list, one after the other. It is asked of lists whose keys rise
-- (`KeysRise`), as those of the candidates of a ray do
abbrev pub play : (Candidate → Decision) → ℕ → RayFlags → QueryState → List Found → QueryState
play meaning ray flags st [] = st
play meaning ray flags st (f ∷ fs) = play meaning ray flags (play_one meaning ray flags st f) fs
