use Rattle.std.proofs.Common.{◌≡◌, take}
use Rattle.ray_bottom.specs.Trees.{places_from}
use Rattle.ray_bottom.proofs.items.all_places.Given as goal

-- the geometries so far
abbrev pub invariant-loop-k : goal.invariant-loop-k
invariant-loop-k l = l.places.items ≡ places_from 0 (take l.k l.geometries)
