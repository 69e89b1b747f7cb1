use Rattle.std.proofs.Common.{◌≡◌, ◌-◌}
use Rattle.std.specs.Prelude.{is_some}
use Rattle.ray_form.specs.Rows.{geometries_in}
use Rattle.ray_form.proofs.rows.are_sound.Given as goal

abbrev pub invariant-loop-i : goal.invariant-loop-i
invariant-loop-i l = is_some (geometries_in (l.n - l.i) l.rest) ≡ is_some (geometries_in l.n l.bytes)
