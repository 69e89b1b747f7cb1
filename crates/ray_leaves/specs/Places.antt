-- Where a primitive stands in its structure. (Own.)
use Rattle.std.specs.Prelude.{ℕ}
use Rattle.ray_leaves.specs.declared.prim_place.PrimPlace.{PrimPlace}

-- the place of the primitive of a number in the geometry of a number
abbrev pub place_of : ℕ → ℕ → PrimPlace
place_of geometry primitive = record { geometry = geometry; primitive = primitive }
