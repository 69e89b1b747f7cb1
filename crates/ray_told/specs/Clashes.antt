-- By which accesses a command is at odds with an earlier one, in words. (Own.)
use Rattle.std.specs.Prelude.{ℕ, List, [], Option, Some, None}
use Rattle.std.specs.Option.{option_map_or}
use Rattle.ray_cmd.specs.declared.place.Place.{Place}
use Rattle.ray_cmd.specs.declared.place.Place.TheVariants.{Whole, Part, Geometry, Element, Earlier}
use Rattle.ray_cmd.specs.declared.refusal.Refusal.{Refusal}
use Rattle.ray_clash.specs.declared.clash.Clash.{Clash}
use Rattle.ray_clash.specs.Telling.{clash_text}

-- the earlier command of a place, if it is one
abbrev pub earlier_in : Place → Option ℕ
earlier_in Whole = None
earlier_in (Part part) = None
earlier_in (Geometry info geometry) = None
earlier_in (Element info geometry element) = None
earlier_in (Earlier command) = Some command

-- what is told of both, where it is
abbrev pub clash_told : Refusal → Option Clash → List ℕ
clash_told refusal None = []
clash_told refusal (Some clash) = option_map_or (λ i. clash_text i refusal.command clash) (earlier_in refusal.place) []
