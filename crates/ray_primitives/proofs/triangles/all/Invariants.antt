use Rattle.std.proofs.Common.{◌≡◌, Ok}
use Rattle.std.specs.Prelude.{option_copied}
use Rattle.ray_contents.specs.Gathering.{gathered}
use Rattle.ray_primitives.specs.TriangleReading.{triangle_element}
use Rattle.ray_primitives.proofs.triangles.all.Given as goal

-- the triangles so far
abbrev pub invariant-loop-i : goal.invariant-loop-i
invariant-loop-i l = gathered (triangle_element l.source (option_copied l.fn.olds) l.geometry) l.i ≡ Ok l.kept.items
