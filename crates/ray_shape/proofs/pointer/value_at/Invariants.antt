use Rattle.std.proofs.Common.{◌≡◌, drop}
use Rattle.serde_json.specs.View.{view}
use Rattle.ray_shape.specs.Wrong.{stands}
use Rattle.ray_shape.proofs.pointer.value_at.Given as goal

-- the steps that are left lead from here to where all lead from the value
abbrev pub invariant-loop-step : goal.invariant-loop-step
invariant-loop-step l = stands (drop l.step-index l.path) (view l.here) ≡ stands l.path (view l.fn.value)
