use Rattle.std.proofs.Common.{◌≡◌, take}
use Rattle.ray_geometries.proofs.geometry.copy_triangles.Given as goal

-- the triangles so far
abbrev pub invariant-loop-t : goal.invariant-loop-t
invariant-loop-t l = l.copy.items ≡ take l.t-index l.triangles
