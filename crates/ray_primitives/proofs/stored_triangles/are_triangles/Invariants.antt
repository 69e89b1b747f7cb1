use Rattle.std.proofs.Common.{◌≡◌, true}
use Rattle.std.specs.Prelude.{is_some}
use Rattle.ray_contents.specs.Gathering.{all_some}
use Rattle.ray_primitives.specs.StoredPrimitives.{stored_triangle_at}
use Rattle.ray_primitives.proofs.stored_triangles.are_triangles.Given as goal

-- each so far stands for one
abbrev pub invariant-loop-i : goal.invariant-loop-i
invariant-loop-i l = is_some (all_some (stored_triangle_at l.index_size l.bytes) l.i) ≡ true
