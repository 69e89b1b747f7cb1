-- All refusals of a recording, in words. (Own.)
--
-- By hand, of a recording of nine commands of which 2 breaks V1 and 4 breaks V22: the head, `refused 2 V1`, `refused 4 V22`, and
-- that no hazard is looked for from command 2 on.
use Rattle.std.specs.Prelude.{ℕ, List, [], ◌++◌, ◌+◌, ◌-◌, length, take, nat_lt, if◌then◌else◌, codes, decimal}
use Rattle.std.specs.List.{flat_map}
use Rattle.ray_cmd.specs.declared.refusal.Refusal.{Refusal}
use Rattle.ray_why.specs.Lines.{refusal_line}
use Rattle.ray_refusals.specs.declared.every.Every.{Every}

-- so many lines are written at most
abbrev pub most_lines : ℕ
most_lines = 1000

-- the lines of so many refusals, each as `vkray check` writes it
abbrev pub lines_of : List Refusal → ℕ → List ℕ
lines_of refusals most = flat_map refusal_line (take most refusals)

-- what stands above them
abbrev pub head_line : List ℕ
head_line =
    codes "all refusals, where each command is taken as it is; this is advice, since one that breaks a rule leaves no defined state:\n"

-- how many are left out
abbrev pub left_out : ℕ → List ℕ
left_out count =
    if nat_lt most_lines count then codes "and " ++ (decimal (count - most_lines) ++ codes " more\n") else []

-- from where on no hazard is looked for, if that is before the end
abbrev pub unlooked : Every → List ℕ
unlooked every =
    if nat_lt every.going every.commands then
    codes "no hazard is looked for from command " ++ (decimal every.going ++ codes " on, which leaves no status\n")
    else []

-- how many there are
abbrev pub count_of : Every → ℕ
count_of every = length every.statics.items + length every.hazards.items

-- the lines of static rules, and after them those of rules on hazards
abbrev pub refusals_text : Every → List ℕ
refusals_text every =
    lines_of every.statics.items most_lines ++ lines_of every.hazards.items (most_lines - length every.statics.items)

-- all of it
abbrev pub every_told : Every → List ℕ
every_told every = head_line ++ (refusals_text every ++ (left_out (count_of every) ++ unlooked every))
