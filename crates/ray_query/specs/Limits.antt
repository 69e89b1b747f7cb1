-- Limits of distances: how far a trace has to look, and which boxes it may leave out. (Own.)
use Rattle.std.specs.Prelude.{◌≡◌, Bool, true, false, Option, Some, None}
use Rattle.std.specs.Ordering.{is_le}
use Rattle.ray_geom.specs.declared.ratio.Ratio.{Ratio}
use Rattle.ray_geom.specs.Frac.{frac_cmp}
use Rattle.ray_geom.specs.Ratio.{ratio_cmp, ratio_of}
use Rattle.ray_query.specs.declared.commit.Commit.{Commit}
use Rattle.ray_query.specs.declared.found.Found.{Found}

-- a distance is at most a limit; where there is none, each is (own)
abbrev pub is_within : Option Ratio → Ratio → Bool
is_within None e = true
is_within (Some c) e = is_le (ratio_cmp e c)

-- a box is met within a limit: its entry is at most that. A box that isn't met has no entry (own)
abbrev pub is_open : Option Ratio → Option Ratio → Bool
is_open limit None = false
is_open limit (Some e) = is_within limit e

-- how far a trace looks: up to the committed distance, and without limit where nothing is committed (own)
abbrev pub distance_of : Option Commit → Option Ratio
distance_of None = None
distance_of (Some c) = Some (ratio_of c.t)

-- a box is entered at or before a candidate's distance
abbrev pub Holds : Option Ratio → Found → Type 0
Holds entry f = is_open (Some (ratio_of f.t)) entry ≡ true

-- a candidate's exit isn't before its entry
abbrev pub IsInOrder : Found → Type 0
IsInOrder f = is_le (frac_cmp f.t f.exit) ≡ true
