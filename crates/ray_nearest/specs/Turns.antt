-- The turns of a walk: what it has to look at next, nearest first.
use Rattle.std.specs.Prelude.{◌≡◌, Bool, false, Option, Some, None, All, List, [], ◌∷◌, if◌then◌else◌}
use Rattle.std.specs.List.Sorted.{IsPermutation}
use Rattle.std.specs.Ordering.{is_le, is_lt}
use Rattle.ray_geom.specs.declared.ratio.Ratio.{Ratio}
use Rattle.ray_geom.specs.Ratio.{ratio_cmp, ratio_of}
use Rattle.ray_query.specs.Key.{found_key, key_lt}
use Rattle.ray_nearest.specs.declared.turn.Turn.{Turn}
use Rattle.ray_nearest.specs.declared.turn.Turn.TheVariants.{Node, Candidate}
use Rattle.ray_query.specs.Limits.{is_within}

-- at which distance a turn comes: a node at its entry, a candidate at its own distance (own)
abbrev pub turn_at : Turn → Ratio
turn_at (Node e n) = e
turn_at (Candidate f) = ratio_of f.t

-- which of two turns comes first: the nearer one; at one distance a node before a candidate, since below it there may be
-- a lower key, and of two candidates the one with the lower key. Of two nodes at one distance either may (own)
abbrev pub is_before : Turn → Turn → Bool
is_before (Node e n) (Node d m) = is_lt (ratio_cmp e d)
is_before (Node e n) (Candidate f) = is_le (ratio_cmp e (ratio_of f.t))
is_before (Candidate f) (Node e n) = is_lt (ratio_cmp (ratio_of f.t) e)
is_before (Candidate f) (Candidate g) = key_lt (found_key f) (found_key g)

-- one turn, where it comes within a limit; a turn beyond it is left out (own)
abbrev pub turn_within : Option Ratio → Turn → List Turn
turn_within limit x = if is_within limit (turn_at x) then x ∷ [] else []

-- what is taken of the turns that wait: one before which none of the others comes; none where none waits
abbrev pub IsTaken : List Turn → Option Turn → List Turn → Type 0
IsTaken old None new = old ≡ []
IsTaken old (Some x) new = IsPermutation old (x ∷ new) × All (λ y. is_before y x ≡ false) new
