use Rattle.std.proofs.Common.{◌≡◌, Some}
use Rattle.ray_contents.specs.Gathering.{all_some}
use Rattle.ray_primitives.specs.StoredPrimitives.{stored_triangle_at}
use Rattle.ray_primitives.proofs.stored_triangles.triangles_of_bytes.Given as goal

-- the triangles so far
abbrev pub invariant-loop-i : goal.invariant-loop-i
invariant-loop-i l = all_some (stored_triangle_at l.index_size l.bytes) l.i ≡ Some l.kept.items
