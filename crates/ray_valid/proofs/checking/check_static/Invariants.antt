use Rattle.std.proofs.Common.{◌≡◌, drop}
use Rattle.ray_rules.specs.Refusals.{static_refusal, static_refusal_from}
use Rattle.ray_valid.specs.Parts.{AreFresh}
use Rattle.ray_valid.proofs.checking.check_static.Given as goal

-- none of the commands so far is refused: the refusal is that of the commands that are left; and tops that
-- are known are fresh where these stand
abbrev pub invariant-loop-i : goal.invariant-loop-i
invariant-loop-i l = record {
  rest : static_refusal_from l.rec l.i l.status (drop l.i l.rec) ≡ static_refusal l.rec;
  fresh : AreFresh l.rec l.status l.fresh.tops.keys;
}
