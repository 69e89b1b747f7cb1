use Rattle.std.proofs.Common.{◌≡◌, Ok}
use Rattle.std.specs.Prelude.{option_copied}
use Rattle.ray_contents.specs.Gathering.{gathered}
use Rattle.ray_primitives.specs.BoxReading.{box_element}
use Rattle.ray_primitives.proofs.boxes.read.Given as goal

-- the boxes so far
abbrev pub invariant-loop-i : goal.invariant-loop-i
invariant-loop-i l = gathered (box_element l.fn.boxes (option_copied l.fn.olds) l.geometry) l.i ≡ Ok l.kept.items
