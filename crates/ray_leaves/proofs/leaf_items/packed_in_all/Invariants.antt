use Rattle.std.proofs.Common.{◌≡◌, take, map}
use Rattle.ray_leaves.specs.LeafItems.{item_at}
use Rattle.ray_leaves.proofs.leaf_items.packed_in_all.Given as goal

-- the places so far
abbrev pub invariant-loop-place : goal.invariant-loop-place
invariant-loop-place l = l.items.items ≡ map (item_at l.geometries) (take l.place-index l.places)
