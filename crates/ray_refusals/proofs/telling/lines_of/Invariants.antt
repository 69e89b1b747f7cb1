use Rattle.std.proofs.Common.{◌≡◌, take}
use Rattle.std.specs.Prelude.{string_bytes}
use Rattle.std.specs.List.{flat_map}
use Rattle.ray_why.specs.Lines.{refusal_line}
use Rattle.ray_refusals.proofs.telling.lines_of.Given as goal

-- the lines of the refusals so far
abbrev pub invariant-loop-n : goal.invariant-loop-n
invariant-loop-n l = record {
  lines : string_bytes l.text ≡ flat_map refusal_line (take l.n l.refusals);
}
