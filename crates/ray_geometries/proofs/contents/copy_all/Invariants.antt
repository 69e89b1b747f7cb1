use Rattle.std.proofs.Common.{◌≡◌, take}
use Rattle.ray_geometries.proofs.contents.copy_all.Given as goal

-- the geometries so far
abbrev pub invariant-loop-g : goal.invariant-loop-g
invariant-loop-g l = l.copy.items ≡ take l.g-index l.geometries.items
