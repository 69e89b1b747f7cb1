use Rattle.std.proofs.Common.{◌≡◌, ◌≤◌, ◌+◌, ◌-◌, length}
use Rattle.ray_form.specs.Rows.{row_size}
use Rattle.ray_form.proofs.rows.row_size.Given as goal

-- what was gone past, and what the geometries take that are left
abbrev pub invariant-loop-i : goal.invariant-loop-i
invariant-loop-i l = record {
  size : length l.bytes + row_size (l.n - l.i) l.rest ≡ row_size l.n l.bytes + length l.rest;
  within : length l.rest ≤ length l.bytes;
}
