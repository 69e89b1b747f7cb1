use Rattle.std.proofs.Common.{take}
use Rattle.std.specs.List.{flat_map}
use Rattle.ray_leaves.specs.Lists.{part_of}
use Rattle.ray_nearest.specs.Adding.{Adds, AddsFound}
use Rattle.ray_walk.specs.Scenes.{placement_value}
use Rattle.ray_walk.specs.Traced.{found_at_place}
use Rattle.ray_walk.proofs.leaf.add_items.Given as goal

-- the items so far
abbrev pub invariant-loop-k : goal.invariant-loop-k
invariant-loop-k l =
    Adds (AddsFound l.fn.limit) (flat_map (λ it. found_at_place l.fn.view l.fn.i (placement_value l.fn.looked) it.place) (take l.k (part_of l.items)))
    l.fn.turns l.turns
