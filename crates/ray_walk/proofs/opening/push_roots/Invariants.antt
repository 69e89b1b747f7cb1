use Rattle.std.proofs.Common.{take}
use Rattle.std.specs.List.{flat_map}
use Rattle.ray_walk.specs.Scenes.{AddsWide}
use Rattle.ray_walk.specs.WideScene.{wide_roots}
use Rattle.ray_walk.proofs.opening.push_roots.Given as goal

-- the roots of the instances so far
abbrev pub invariant-loop-i : goal.invariant-loop-i
invariant-loop-i l = AddsWide l.fn.limit l.fn.view (flat_map (wide_roots l.fn.view) (take l.i-index l.items)) l.fn.turns l.turns
