use Rattle.std.proofs.Common.{◌≡◌, ◌++◌}
use Rattle.vkray_cases.specs.Cases.{repeated}
use Rattle.vkray_cases.proofs.piece.push_piece.Given as goal

-- the text stands there so many times
abbrev pub invariant-loop : goal.invariant-loop
invariant-loop l = l.bytes.items ≡ l.initial.bytes.items ++ repeated l.text l.counter
