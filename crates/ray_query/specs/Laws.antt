-- The laws of the play: what it commits, in the words of Vulkan. Each is the contract of a call of
-- `src/laws`.
use Rattle.std.specs.Prelude.{ℕ, ◌≡◌, ◌++◌, ◌⊎◌, Option, Some, None, IfSome, Bool, true, false, List, All, Contains, filter}
use Rattle.ray_geom.specs.declared.frac.Frac.{Frac}
use Rattle.ray_flags.specs.declared.ray_flags.RayFlags.{RayFlags}
use Rattle.ray_query.specs.declared.found.Found.{Found}
use Rattle.ray_query.specs.declared.candidate.Candidate.{Candidate}
use Rattle.ray_query.specs.declared.commit.Commit.{Commit}
use Rattle.ray_query.specs.declared.decision.Decision.{Decision}
use Rattle.ray_query.specs.declared.decision.Decision.TheVariants.{Ignore, Confirm, GenerateEntry, GenerateExit, GenerateAt, Terminate, ConfirmTerminate}
use Rattle.ray_query.specs.Key.{KeysRise, commit_key, found_key, key_lt}
use Rattle.ray_query.specs.Play.{QueryState, commits_unasked, counts, is_in_span, is_triangle, play, start}

-- a commit is of the least candidate of a list that passes a test, at its own distance
pub record IsLeastOf (test : Found → Bool) (fs : List Found) (c : Commit) : Type 0 where
  pub member : Contains fs c.found
  pub passes : test c.found ≡ true
  pub at_own : c.t ≡ c.found.t
  pub least : All (λ f. test f ≡ true → key_lt (found_key f) (commit_key c) ≡ false) fs

-- the closest of a list that passes a test is committed, and nothing where none passes (Vulkan: the
-- closest hit)
abbrev pub IsClosest : (Found → Bool) → List Found → Option Commit → Type 0
IsClosest test fs None = All (λ f. test f ≡ false) fs
IsClosest test fs (Some c) = IsLeastOf test fs c

-- a client that ignores all that it is offered
abbrev pub ignores : Candidate → Decision
ignores c = Ignore

-- a client that confirms all that it is offered
abbrev pub confirms_all : Candidate → Decision
confirms_all c = Confirm

-- where all is ignored, only opaque triangles commit, and of these the closest
abbrev pub IgnoringCommitsOpaque : Type 0
IgnoringCommitsOpaque =
    (ray : ℕ) (flags : RayFlags) (fs : List Found) → KeysRise fs
    → IsClosest commits_unasked fs (play ignores ray flags start fs).committed

-- where all is confirmed, the closest triangle commits, opaque or not, and no box. That holds with
-- and without TerminateOnFirstHitKHR, since the keys rise
abbrev pub ConfirmingCommitsClosest : Type 0
ConfirmingCommitsClosest =
    (ray : ℕ) (flags : RayFlags) (fs : List Found) → KeysRise fs
    → IsClosest (λ f. is_triangle f.kind) fs (play confirms_all ray flags start fs).committed

-- playing a list in two parts is playing it whole: a query may stop and go on
abbrev pub PlaysInParts : Type 0
PlaysInParts =
    (meaning : Candidate → Decision) (ray : ℕ) (flags : RayFlags) (st : QueryState) (fs gs : List Found)
    → play meaning ray flags st (fs ++ gs) ≡ play meaning ray flags (play meaning ray flags st fs) gs

-- a query that is over stays as it is
abbrev pub OverStays : Type 0
OverStays =
    (meaning : Candidate → Decision) (ray : ℕ) (flags : RayFlags) (st : QueryState) (fs : List Found)
    → st.over ≡ true → play meaning ray flags st fs ≡ st

-- a decision commits what is offered at this distance: a triangle at its own, where it is confirmed;
-- a box where it is generated there
abbrev pub Commits : Decision → Found → Frac → Type 0
Commits Ignore f t = ⊥
Commits Confirm f t = (is_triangle f.kind ≡ true) × (t ≡ f.t)
Commits GenerateEntry f t = (is_triangle f.kind ≡ false) × (t ≡ f.t)
Commits GenerateExit f t = (is_triangle f.kind ≡ false) × (t ≡ f.exit)
Commits (GenerateAt at) f t = (is_triangle f.kind ≡ false) × (is_in_span f at ≡ true) × (t ≡ at)
Commits Terminate f t = ⊥
Commits ConfirmTerminate f t = (is_triangle f.kind ≡ true) × (t ≡ f.t)

-- a commit is of a candidate of the list: of an opaque triangle at its own distance, or, where it was
-- offered, at a distance at which the client's decision on it commits it
pub record IsChosen (meaning : Candidate → Decision) (ray : ℕ) (fs : List Found) (c : Commit) : Type 0 where
  pub member : Contains fs c.found
  pub cause :
      ((commits_unasked c.found ≡ true) × (c.t ≡ c.found.t))
      ⊎ ((commits_unasked c.found ≡ false)
      × (nth : ℕ)
      × Commits (meaning (record { ray = ray; nth = nth; found = c.found })) c.found c.t)

-- nothing is committed that neither is an opaque triangle nor was chosen by the client
abbrev pub CommitsAreChosen : Type 0
CommitsAreChosen =
    (meaning : Candidate → Decision) (ray : ℕ) (flags : RayFlags) (fs : List Found)
    → IfSome (play meaning ray flags start fs).committed (IsChosen meaning ray fs)

-- what is passed over in a state is passed over in each later one, since the committed hit only comes
-- nearer
abbrev pub PassedStays : Type 0
PassedStays =
    (meaning : Candidate → Decision) (ray : ℕ) (flags : RayFlags) (st : QueryState) (fs : List Found) (g : Found)
    → counts g g.t st ≡ false → counts g g.t (play meaning ray flags st fs) ≡ false

-- so it may be left out of the list: what a trace doesn't look at for that cause changes nothing
abbrev pub LeavesOut : Type 0
LeavesOut =
    (keep : Found → Bool) (meaning : Candidate → Decision) (ray : ℕ) (flags : RayFlags) (st : QueryState)
    (fs : List Found) → All (λ g. keep g ≡ false → counts g g.t st ≡ false) fs
    → play meaning ray flags st (filter keep fs) ≡ play meaning ray flags st fs
