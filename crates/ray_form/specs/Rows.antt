-- Geometries one after the other: that they fill the bytes, how many elements they have together, and what they say.
-- (Own: the layout.)
use Rattle.std.specs.Prelude.{ℕ, zero, suc, ◌+◌, ◌==◌, ◌&&◌, Bool, if◌then◌else◌, Option, Some, None, List, [], ◌∷◌, length, drop}
use Rattle.ray_geometries.specs.declared.geometry.Geometry.{Geometry}
use Rattle.ray_form.specs.Heads.{count_in, geometry_size, is_whole, is_geometry, geometry_in}

-- what follows the first geometry
unfoldable pub after_first : List ℕ → List ℕ
after_first rest = drop (geometry_size rest) rest

-- whether n geometries of one kind fill the bytes, exactly
abbrev pub are_geometries : ℕ → ℕ → List ℕ → Bool
are_geometries kind zero rest = length rest == 0
are_geometries kind (suc n) rest = is_geometry kind rest && are_geometries kind n (after_first rest)

-- how many elements n geometries have together
abbrev pub total_in : ℕ → List ℕ → ℕ
total_in zero rest = 0
total_in (suc n) rest = count_in rest + total_in n (after_first rest)

-- the same where n geometries of this kind fill the bytes
abbrev pub row_total : ℕ → ℕ → List ℕ → Option ℕ
row_total kind n rest = if are_geometries kind n rest then Some (total_in n rest) else None

-- how many bytes the first n geometries take; those that are whole, where not all are
abbrev pub row_size : ℕ → List ℕ → ℕ
row_size zero rest = 0
row_size (suc n) rest = if is_whole rest then geometry_size rest + row_size n (after_first rest) else 0

-- one value in front of others, where all are there
abbrev pub with_first : {X : Type 0} → Option X → Option (List X) → Option (List X)
with_first (Some x) (Some xs) = Some (x ∷ xs)
with_first (Some x) None = None
with_first None others = None

-- the first n geometries, where each of their elements stands for a primitive
abbrev pub geometries_in : ℕ → List ℕ → Option (List Geometry)
geometries_in zero rest = Some []
geometries_in (suc n) rest = with_first (geometry_in rest) (geometries_in n (after_first rest))
