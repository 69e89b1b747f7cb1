-- Where in a command a rule is broken. (Own.)
use Rattle.std.specs.Prelude.{ℕ, List, Option, Some, None, Bool, if◌then◌else◌, option_map}
use Rattle.std.specs.List.{position}
use Rattle.ray_cmd.specs.declared.place.Place.{Place}
use Rattle.ray_cmd.specs.declared.place.Place.TheVariants.{Whole, Part}

-- in the command as a whole, where it is broken
abbrev pub whole : Bool → Option Place
whole broken = if broken then Some Whole else None

-- in a part, where it is broken
abbrev pub part_at : ℕ → Bool → Option Place
part_at k broken = if broken then Some (Part k) else None

-- in the least part that breaks it
abbrev pub first_part : {X : Type 0} → (X → Bool) → List X → Option Place
first_part broken parts = option_map Part (position broken parts)
