use Rattle.std.proofs.Common.{◌≡◌, take, map}
use Rattle.ray_bottom.specs.Trees.{place_in_one}
use Rattle.ray_bottom.proofs.items.places_in_one.Given as goal

-- the numbers so far
abbrev pub invariant-loop-p : goal.invariant-loop-p
invariant-loop-p l = l.places.items ≡ map (place_in_one l.count) (take l.p-index l.numbers)
