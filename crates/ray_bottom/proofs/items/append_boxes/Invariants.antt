use Rattle.std.proofs.Common.{◌≡◌, ◌++◌, take}
use Rattle.ray_bottom.proofs.items.append_boxes.Given as goal

-- the boxes so far
abbrev pub invariant-loop-b : goal.invariant-loop-b
invariant-loop-b l = l.items.items ≡ l.initial.items.items ++ take l.b-index l.boxes
