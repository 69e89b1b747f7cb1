-- In which state a recording ends, in words. (Own.)
use Rattle.std.specs.Prelude.{List, ℕ, [], Option, ◌++◌, codes}
use Rattle.std.specs.Option.{option_map_or}
use Rattle.ray_rules.specs.declared.phase.Phase.{Phase}
use Rattle.ray_told.specs.Grounds.{phase_word}

-- the state at the end, and the one that is wanted there
abbrev pub end_text : Phase → List ℕ
end_text found = codes "at the end: the command buffer is " ++ (phase_word found ++ codes ", and has to be idle\n")

-- the same where it is told
abbrev pub end_told : Option Phase → List ℕ
end_told found = option_map_or end_text found []
