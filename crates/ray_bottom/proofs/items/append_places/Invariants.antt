use Rattle.std.proofs.Common.{◌≡◌, ◌++◌, map}
use Rattle.std.specs.List.{range_with_len}
use Rattle.ray_leaves.specs.Places.{place_of}
use Rattle.ray_bottom.proofs.items.append_places.Given as goal

-- the primitives so far
abbrev pub invariant-loop-primitive : goal.invariant-loop-primitive
invariant-loop-primitive l = l.places.items ≡ l.initial.places.items ++ map (place_of l.geometry) (range_with_len 0 l.primitive)
