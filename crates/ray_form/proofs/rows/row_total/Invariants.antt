use Rattle.std.proofs.Common.{◌≡◌, ◌≤◌, ◌*◌, ◌-◌}
use Rattle.ray_form.specs.Rows.{row_total}
use Rattle.ray_form.proofs.RowSteps.{more_elements}
use Rattle.ray_form.proofs.rows.row_total.Given as goal

abbrev pub invariant-loop-i : goal.invariant-loop-i
invariant-loop-i l =
    (more_elements l.total (row_total l.kind (l.n - l.i) l.rest) ≡ row_total l.kind l.n l.bytes) × (l.total ≤ l.i * 4294967295)
