use Rattle.std.proofs.Common.{◌≡◌, ◌++◌, map, take}
use Rattle.ray_cert.specs.Spelling.{digit_code}
use Rattle.ray_cert.proofs.writing.add_digits.Given as goal

-- the digits so far
abbrev pub invariant-loop-digit : goal.invariant-loop-digit
invariant-loop-digit l = l.line.items ≡ l.initial.line.items ++ map digit_code (take l.digit-index l.digits)
