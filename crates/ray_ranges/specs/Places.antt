-- Where things stand: each in one space, as a buffer, from one byte on. (Own; memory that backs an
-- acceleration structure is a range of bytes of one buffer, as VkAccelerationStructureCreateInfoKHR
-- says.)
use Rattle.std.specs.Prelude.{ℕ, ◌+◌, Bool, ◌==◌, ◌&&◌, List, Option, length, take, slice_index_or}
use Rattle.std.specs.List.{list_any, position, range_with_len}
use Rattle.std.specs.Map.{lookup, values_of, remove_entry}
use Rattle.std.specs.BTreeMap.{is_at, insert_entry}
use Rattle.std.specs.Ordering.{nat_cmp}
use Rattle.ray_ranges.specs.declared.range.Range.{Range}
use Rattle.ray_ranges.specs.declared.place.Place.{Place}
use Rattle.ray_ranges.specs.Meeting.{meets}

-- the bytes of a place in its space
abbrev pub bytes_of : Place → Range
bytes_of place = record { from = place.from; end = place.from + place.size }

-- two places share a byte: they are in one space, where their bytes meet
abbrev pub overlaps : Place → Place → Bool
overlaps a b = a.space == b.space && meets (bytes_of a) (bytes_of b)

-- the ids of what is placed, in order, each with its place
abbrev pub Placements : Type 0
Placements = List (ℕ × Place)

-- the place of an id
abbrev pub place_at : ℕ → Placements → Option Place
place_at id placed = lookup (is_at (nat_cmp id)) placed

-- one thing more is placed
abbrev pub with_place : ℕ → Place → Placements → Placements
with_place id place placed = insert_entry nat_cmp placed id place

-- all that is placed but this id
abbrev pub without_place : ℕ → Placements → Placements
without_place id placed = remove_entry (is_at (nat_cmp id)) placed

-- a place shares a byte with that of some id
abbrev pub overlaps_any : Placements → Place → Bool
overlaps_any placed place = list_any (overlaps place) (values_of placed)

-- something is placed in this space
abbrev pub holds_any : Placements → ℕ → Bool
holds_any placed space = list_any (λ place. place.space == space) (values_of placed)

-- place number k, and an empty one where there is none
abbrev pub place_number : List Place → ℕ → Place
place_number places k = slice_index_or places k (record { space = 0; from = 0; size = 0 })

-- place number k shares a byte with one that stands before it
abbrev pub overlaps_before : List Place → ℕ → Bool
overlaps_before places k = list_any (overlaps (place_number places k)) (take k places)

-- the least number of a place that shares a byte with one that stands before it
abbrev pub first_overlapping : List Place → Option ℕ
first_overlapping places = position (overlaps_before places) (range_with_len 0 (length places))
