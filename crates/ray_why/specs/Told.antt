-- What is told below the first line. (Own.)
use Rattle.std.specs.Prelude.{ℕ, List, [], ◌++◌, codes}
use Rattle.ray_told.specs.Builds.{misbuilt_told}
use Rattle.ray_told.specs.Causes.{cause_told}
use Rattle.ray_told.specs.Clashes.{clash_told}
use Rattle.ray_told.specs.Conflicts.{conflict_told}
use Rattle.ray_told.specs.Crowds.{crowd_told}
use Rattle.ray_told.specs.Ends.{end_told}
use Rattle.ray_told.specs.Grounds.{ground_told}
use Rattle.ray_told.specs.Limits.{limit_told}
use Rattle.ray_told.specs.Misfits.{misfit_told}
use Rattle.ray_told.specs.Updates.{update_told}
use Rattle.ray_why.specs.declared.reasons.Broken.{Broken}
use Rattle.ray_why.specs.declared.reasons.Why.{Why}
use Rattle.ray_why.specs.declared.reasons.Why.TheVariants as whys

-- of a place that is wrong: its JSON pointer, what stands there, and what is wanted, in words
abbrev pub place_of : List ℕ → List ℕ → List ℕ → List ℕ
place_of pointer found words =
    codes "at: " ++ (pointer ++ (codes "\nfound: " ++ (found ++ (codes "\nwanted: " ++ (words ++ codes "\n")))))

-- what is told by parts that conflict and by geometries of the command for which a recording is refused, and of the end
abbrev pub parts_told : Broken → List ℕ
parts_told broken =
    conflict_told broken.refusal.command broken.conflicts
    ++ (misbuilt_told broken.refusal.command broken.builds ++ end_told broken.unfinished)

-- the same by counts, by the source of an update and by these
abbrev pub counted_told : Broken → List ℕ
counted_told broken =
    crowd_told broken.refusal.command broken.crowds
    ++ (update_told broken.refusal.command broken.updates
    ++ parts_told broken)

-- the same by numbers, kinds, flags and these
abbrev pub further_told : Broken → List ℕ
further_told broken =
    limit_told broken.refusal.command broken.limits
    ++ (misfit_told broken.refusal.command broken.misfits ++ counted_told broken)

-- the same by all that static rules compare
abbrev pub static_told : Broken → List ℕ
static_told broken =
    cause_told broken.refusal.command broken.cause
    ++ (ground_told broken.refusal.command broken.grounds ++ further_told broken)

-- what is told of the command for which a recording is refused
abbrev pub rule_told : Broken → List ℕ
rule_told broken = static_told broken ++ clash_told broken.refusal broken.clash

-- what is told last of why a recording is refused
abbrev pub told_last : Why → List ℕ
told_last (whys.Refused broken) = rule_told broken
told_last why = []
