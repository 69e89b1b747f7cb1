use Rattle.std.proofs.Common.{ℕ, ◌+◌, Ok, Err, sym, ap}
use Rattle.ray_serial.specs.TopWritten.{handle_number}
use Rattle.ray_serial.proofs.TopSteps.{position_found}
use Rattle.ray_serial.proofs.handles.handle_number.Goals as goal

pub returns-in-Ok : goal.returns-in-Ok
unfolding handle_number
returns-in-Ok c =
    sym (ap (λ (n : ℕ). n + 1) (position_found c.args.handles.now c.args.reference (Ok c.in-Ok.k) c.requires c.in-Ok.ensures.position))

pub returns-in-Err : goal.returns-in-Err
unfolding handle_number
returns-in-Err c =
    sym (ap (λ (n : ℕ). n + 1) (position_found c.args.handles.now c.args.reference (Err c.in-Err.field-0) c.requires c.in-Err.ensures.position))
