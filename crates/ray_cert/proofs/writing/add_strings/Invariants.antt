use Rattle.std.proofs.Common.{◌≡◌, ◌++◌, take}
use Rattle.std.specs.List.{flat_map}
use Rattle.ray_cert.specs.Spelling.{string_text}
use Rattle.ray_cert.proofs.writing.add_strings.Given as goal

-- the strings so far
abbrev pub invariant-loop-string : goal.invariant-loop-string
invariant-loop-string l = l.line.items ≡ l.initial.line.items ++ flat_map string_text (take l.string-index l.strings)
