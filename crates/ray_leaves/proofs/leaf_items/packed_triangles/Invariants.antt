use Rattle.std.proofs.Common.{◌≡◌, take, map}
use Rattle.ray_leaves.specs.LeafItems.{item_of_triangles}
use Rattle.ray_leaves.proofs.leaf_items.packed_triangles.Given as goal

-- the places so far
abbrev pub invariant-loop-place : goal.invariant-loop-place
invariant-loop-place l = l.items.items ≡ map (item_of_triangles l.triangles) (take l.place-index l.places)
