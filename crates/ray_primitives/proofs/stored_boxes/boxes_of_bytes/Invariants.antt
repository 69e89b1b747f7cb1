use Rattle.std.proofs.Common.{◌≡◌, Some}
use Rattle.ray_contents.specs.Gathering.{all_some}
use Rattle.ray_primitives.specs.StoredPrimitives.{stored_box_at}
use Rattle.ray_primitives.proofs.stored_boxes.boxes_of_bytes.Given as goal

-- the boxes so far
abbrev pub invariant-loop-i : goal.invariant-loop-i
invariant-loop-i l = all_some (stored_box_at l.bytes) l.i ≡ Some l.kept.items
