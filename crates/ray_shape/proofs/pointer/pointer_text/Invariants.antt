use Rattle.std.proofs.Common.{◌≡◌, ◌++◌, drop, string_bytes}
use Rattle.ray_shape.specs.Pointer.{pointer_of}
use Rattle.ray_shape.proofs.pointer.pointer_text.Given as goal

-- the text so far goes on with that of the steps that are left
abbrev pub invariant-loop-step : goal.invariant-loop-step
invariant-loop-step l = (string_bytes l.text ++ pointer_of (drop l.step-index l.path)) ≡ pointer_of l.path
