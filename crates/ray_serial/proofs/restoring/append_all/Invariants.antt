use Rattle.std.proofs.Common.{◌-◌}
use Rattle.ray_bottom.specs.Builders.{bare}
use Rattle.ray_form.specs.Rows.{geometries_in}
use Rattle.ray_serial.proofs.Restore.{IsRestoring}
use Rattle.ray_serial.proofs.restoring.append_all.Given as goal

abbrev pub invariant-loop-i : goal.invariant-loop-i
invariant-loop-i l = IsRestoring (bare l.fn.builder) (bare l.builder) (geometries_in (l.n - l.i) l.rest) (geometries_in l.n l.row)
