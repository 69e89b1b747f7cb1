use Rattle.std.proofs.Common.{◌≡◌, take}
use Rattle.ray_bottom.specs.Trees.{items_of}
use Rattle.ray_bottom.proofs.items.items_of.Given as goal

-- the geometries so far
abbrev pub invariant-loop-g : goal.invariant-loop-g
invariant-loop-g l = l.items.items ≡ items_of (take l.g-index l.geometries)
