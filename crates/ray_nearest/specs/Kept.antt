-- A word of private calls alone, which a reader of the public contracts needs not: the turn of what is kept of it.
use Rattle.ray_geom.specs.declared.ratio.Ratio.{Ratio}
use Rattle.ray_query.specs.Raw.{reduced_found}
use Rattle.ray_nearest.specs.declared.turn.Turn.{Turn}
use Rattle.ray_nearest.specs.declared.turn.Turn.TheVariants.{Node, Candidate}
use Rattle.ray_nearest.specs.declared.waiting.Kept.{Kept}
use Rattle.ray_nearest.specs.declared.waiting.Kept.TheVariants as kept

-- the turn at a distance of which this is kept
abbrev pub kept_turn : Ratio → Kept → Turn
kept_turn at (kept.Node n) = Node at n
kept_turn at (kept.Candidate f) = Candidate (reduced_found f.value)
