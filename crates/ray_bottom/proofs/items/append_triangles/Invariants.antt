use Rattle.std.proofs.Common.{◌≡◌, ◌++◌, take, map}
use Rattle.ray_primitives.specs.Primitives.{box_of_triangle}
use Rattle.ray_bottom.proofs.items.append_triangles.Given as goal

-- the triangles so far
abbrev pub invariant-loop-t : goal.invariant-loop-t
invariant-loop-t l = l.items.items ≡ l.initial.items.items ++ map box_of_triangle (take l.t-index l.triangles)
