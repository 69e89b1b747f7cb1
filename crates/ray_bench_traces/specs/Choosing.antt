-- What the client of random scenes decides. (Own.)
use Rattle.std.specs.Prelude.{ℕ, ◌+◌, ◌%◌, nat_lt, if◌then◌else◌}
use Rattle.ray_geom.specs.declared.frac.Frac.{Frac}
use Rattle.ray_flags.specs.declared.kind.Kind.{Kind}
use Rattle.ray_flags.specs.declared.kind.Kind.TheVariants.{Triangle, Aabb}
use Rattle.ray_query.specs.declared.candidate.Candidate.{Candidate}
use Rattle.ray_query.specs.declared.decision.Decision.{Decision}
use Rattle.ray_query.specs.declared.decision.Decision.TheVariants.{Ignore, Confirm, GenerateEntry, GenerateExit, GenerateAt, Terminate, ConfirmTerminate}

-- the decision on a triangle, by a number
abbrev pub on_triangle : ℕ → Decision
on_triangle number = if nat_lt number 4 then Confirm else if nat_lt number 7 then Ignore else ConfirmTerminate

-- the decision on a box, by a number and a distance
abbrev pub on_box : ℕ → Frac → Decision
on_box number at =
    if nat_lt number 2 then GenerateEntry else if nat_lt number 4 then GenerateExit
    else if nat_lt number 6 then GenerateAt at else if nat_lt number 7 then Ignore else Terminate

-- the number of a candidate, below 8: by its primitive, its instance, how many were offered before, and a way to choose
abbrev pub number_of : ℕ → Candidate → ℕ
number_of way c = (way + c.found.primitive + c.found.instance + c.nth % 8) % 8

-- the decision on a candidate
abbrev pub decision_on : ℕ → Frac → Candidate → Kind → Decision
decision_on way at c Triangle = on_triangle (number_of way c)
decision_on way at c Aabb = on_box (number_of way c) at
