-- The law of the play that certificates stand on: what is committed depends on the candidates up to its distance alone.
use Rattle.std.specs.Prelude.{ℕ, ◌≡◌, true, Option, Some, None, List, All, Contains}
use Rattle.ray_geom.specs.declared.frac.Frac.{Frac}
use Rattle.ray_geom.specs.declared.ratio.Ratio.{Ratio}
use Rattle.ray_geom.specs.Ratio.{ratio_of}
use Rattle.ray_flags.specs.declared.ray_flags.RayFlags.{RayFlags}
use Rattle.ray_query.specs.declared.candidate.Candidate.{Candidate}
use Rattle.ray_query.specs.declared.commit.Commit.{Commit}
use Rattle.ray_query.specs.declared.decision.Decision.{Decision}
use Rattle.ray_query.specs.declared.found.Found.{Found}
use Rattle.ray_query.specs.Key.{KeysRise}
use Rattle.ray_query.specs.Limits.{IsInOrder, is_within}
use Rattle.ray_query.specs.Play.{play, start}

-- a distance is at most a limit
abbrev pub IsUpTo : Ratio → Frac → Type 0
IsUpTo c t = is_within (Some c) (ratio_of t) ≡ true

-- a list of candidates up to an end: their keys rise, and none is left before it is entered
pub record AreUpTo (end : Ratio) (fs : List Found) : Type 0 where
  pub rise : KeysRise fs
  pub in_order : All IsInOrder fs
  pub within : All (λ f. IsUpTo end f.t) fs

-- two lists have the same candidates up to a limit
pub record HaveSameUpTo (c : Ratio) (fs gs : List Found) : Type 0 where
  pub forth : (f : Found) → IsUpTo c f.t → Contains fs f → Contains gs f
  pub back : (f : Found) → IsUpTo c f.t → Contains gs f → Contains fs f

-- the distance of what is committed, and the end where nothing is
abbrev pub committed_limit : Ratio → Option Commit → Ratio
committed_limit end None = end
committed_limit end (Some k) = ratio_of k.t

-- two lists that have the same candidates up to what one of them commits commit the same
abbrev pub PlaysAlike : Type 0
PlaysAlike =
    (meaning : Candidate → Decision) (number : ℕ) (flags : RayFlags) (end : Ratio) (fs gs : List Found)
    → AreUpTo end fs → AreUpTo end gs
    → HaveSameUpTo (committed_limit end (play meaning number flags start fs).committed) fs gs
    → (play meaning number flags start fs).committed ≡ (play meaning number flags start gs).committed
