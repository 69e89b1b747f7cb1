use Rattle.std.proofs.Common.{◌≡◌, take}
use Rattle.ray_hazards.specs.Carrying.{makers_of}
use Rattle.ray_hazards.proofs.coverage.makers_of.Given as goal

-- of the ids so far
abbrev pub invariant-loop-id : goal.invariant-loop-id
invariant-loop-id l = l.makers.items ≡ makers_of l.status (take l.id-index l.ids)
