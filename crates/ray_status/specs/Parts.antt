-- Words that private contracts cite: no page of definitions.
use Rattle.std.specs.Prelude.{ℕ, List, [], Option, Bool, false, not, map}
use Rattle.std.specs.List.{list_any}
use Rattle.std.specs.Map.{values_of}
use Rattle.std.specs.Option.{option_map_or}
use Rattle.ray_cmd.specs.declared.info.Info.{Info}
use Rattle.ray_flags.specs.Flags.{has_bits}
use Rattle.ray_ranges.specs.declared.place.Place.{Place}
use Rattle.ray_ranges.specs.Places.{Placements}
use Rattle.ray_rules.specs.Ids.{Ids, look}
use Rattle.ray_rules.specs.Ranges.{meets, place_of}
use Rattle.ray_rules.specs.Status.{Status}
use Rattle.ray_rules.specs.declared.byte_range.ByteRange.{ByteRange}
use Rattle.ray_rules.specs.declared.live_buffer.LiveBuffer.{LiveBuffer}
use Rattle.ray_rules.specs.declared.live_structure.LiveStructure.{LiveStructure}
use Rattle.ray_rules.specs.Structures.{structure_range}

-- the ids that an info may refer to, none where there is no info
abbrev pub uses_if : Option Info → List ℕ
uses_if info = option_map_or (λ (i : Info). i.uses) info []

-- whether the buffer of an id lacks some of these bits of its usage. One that isn't live lacks none
abbrev pub lacks_bits : Status → ℕ → ℕ → Bool
lacks_bits z bits id = option_map_or (λ (b : LiveBuffer). not (has_bits b.usage.0 bits)) (look z.buffers id) false

-- the place in which a structure stands
abbrev pub structure_place : LiveStructure → Place
structure_place structure = place_of (structure_range structure)

-- the ids of structures, each with the place in which its structure stands
abbrev pub places_of : Ids LiveStructure → Placements
places_of structures = map (λ e. (e.0, structure_place e.1)) structures

-- whether bytes share one with a structure
abbrev pub overlaps_one : Ids LiveStructure → ByteRange → Bool
overlaps_one structures r = list_any (λ (s : LiveStructure). meets r (structure_range s)) (values_of structures)
