-- The numbers that are asked of structures, where each of them has one.
use Rattle.std.proofs.Common.{ℕ, ◌≡◌, List, [], ◌∷◌, Option, Some, None, refl, ap}
use Rattle.std.specs.Prelude.{map, IsSome, unwrap_or}
use Rattle.std.specs.List.{flat_map}
use Rattle.byteorder.specs.Endian.{little_bytes}
use Rattle.ray_cmd.specs.declared.asked.Asked.{Asked}
use Rattle.ray_action.specs.Memory.{Memory, number_before}
use Rattle.ray_action.specs.Outcomes.{Gives, Bytes, number_of, numbers_of, property_outcome}
use Rattle.ray_action.specs.Seeing.{see_structure}
use Rattle.ray_device.specs.Fetching.{number_told}

before-some : (found : Option ℕ) (rest : Option (List ℕ)) → IsSome (number_before found rest) → IsSome rest
before-some None rest s = absurd cc
before-some (Some n) None s = absurd cc
before-some (Some n) (Some rest) s = refl

before-is : (found : Option ℕ) (rest : Option (List ℕ)) (told : List ℕ) → IsSome (number_before found rest) → rest ≡ Some told
    → number_before found rest ≡ Some (unwrap_or found 0 ∷ told)
before-is None rest told s e = absurd cc
before-is (Some n) rest told s e = ap (number_before (Some n)) e

numbers-told : (what : Asked) (m : Memory) (ids : List ℕ) → IsSome (numbers_of what (map (see_structure m) ids))
    → numbers_of what (map (see_structure m) ids) ≡ Some (map (number_told what m) ids)
numbers-told what m [] s = refl
numbers-told what m (id ∷ ids) s =
    before-is (number_of what (see_structure m id)) (numbers_of what (map (see_structure m) ids)) (map (number_told what m) ids) s
    (numbers-told what m ids (before-some (number_of what (see_structure m id)) (numbers_of what (map (see_structure m) ids)) s))

pub told_numbers : (what : Asked) (m : Memory) (ids : List ℕ) → IsSome (numbers_of what (map (see_structure m) ids))
    → property_outcome (numbers_of what (map (see_structure m) ids)) ≡ Gives (Bytes (flat_map (little_bytes 8) (map (number_told what m) ids)))
told_numbers what m ids s = ap property_outcome (numbers-told what m ids s)
