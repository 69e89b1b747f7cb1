-- How all spaces share one line of numbers; what the set of places keeps, and no clause of a public
-- call. (Own.)
use Rattle.std.specs.Prelude.{◌≡◌, ◌<◌, ◌≤◌, ◌^◌, ℕ, ◌+◌, ◌*◌, false, List, [], ◌∷◌, map}
use Rattle.std.specs.List.{list_any}
use Rattle.ray_ranges.specs.declared.range.Range.{Range}
use Rattle.ray_ranges.specs.declared.place.Place.{Place}
use Rattle.ray_ranges.specs.Apart.{HaveTheSame}
use Rattle.ray_ranges.specs.Places.{overlaps}

-- each space has 2^66 addresses of its own, more than any place of 64-bit numbers needs
abbrev pub address : ℕ → ℕ → ℕ
address space byte = space * 2 ^ 66 + byte

-- the addresses of a place
abbrev pub addresses_of : Place → Range
addresses_of place = record {
  from = address place.space place.from;
  end = address place.space (place.from + place.size);
}

-- the addresses of a whole space
abbrev pub all_addresses : ℕ → Range
all_addresses space = record { from = address space 0; end = address (space + 1) 0 }

-- a place isn't empty, and has its addresses within its space
pub record IsPlace (place : Place) : Type 0 where
  pub some : 0 < place.size
  pub fits : place.from + place.size ≤ 2 ^ 66

-- no place shares a byte with a later one, and each is within its space
abbrev pub AreSeparate : List Place → Type 0
AreSeparate [] = Unit {0}
AreSeparate (place ∷ places) =
    IsPlace place × (list_any (overlaps place) places ≡ false) × AreSeparate places

-- the ranges that are taken are the addresses of the places
pub record AreTaken (places : List Place) (ranges : List Range) : Type 0 where
  pub separate : AreSeparate places
  pub taken : HaveTheSame ranges (map addresses_of places)
