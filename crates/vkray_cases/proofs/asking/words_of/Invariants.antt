use Rattle.std.proofs.Common.{◌≡◌, ◌++◌, map, drop, string_bytes}
use Rattle.vkray_cases.proofs.asking.words_of.Given as goal

-- the words so far spell the texts before these
abbrev pub invariant-loop-text : goal.invariant-loop-text
invariant-loop-text l = map string_bytes l.words.items ++ drop l.text-index l.texts ≡ l.texts
