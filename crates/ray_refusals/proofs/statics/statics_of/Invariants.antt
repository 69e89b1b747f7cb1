use Rattle.std.proofs.Common.{◌≡◌}
use Rattle.ray_refusals.specs.Every.{going_below, statics_below, status_before}
use Rattle.ray_refusals.proofs.statics.statics_of.Given as goal

-- of the commands so far all is known
abbrev pub invariant-loop-i : goal.invariant-loop-i
invariant-loop-i l = record {
  status : l.status ≡ status_before l.rec l.i;
  refusals : l.refusals.items ≡ statics_below l.rec l.i;
  going : l.going ≡ going_below l.rec l.i;
}
