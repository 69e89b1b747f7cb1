-- The first range of a list that meets another. (Own; valid usage of copy commands asks that no
-- destination of a region meets another's, or a source.)
use Rattle.std.specs.Prelude.{ℕ, Bool, List, [], ◌++◌, length, take, slice_index_or, Option}
use Rattle.std.specs.List.{position, range_with_len}
use Rattle.ray_ranges.specs.declared.range.Range.{Range}
use Rattle.ray_ranges.specs.Meeting.{meets_any}

-- range number k, and an empty range where there is none
abbrev pub range_at : List Range → ℕ → Range
range_at ranges k = slice_index_or ranges k (record { from = 0; end = 0 })

-- range number k meets one of the others, or one that stands before it
abbrev pub meets_before : List Range → List Range → ℕ → Bool
meets_before ranges others k = meets_any (others ++ take k ranges) (range_at ranges k)

-- the least number of a range that meets one of the others, or one that stands before it
abbrev pub first_meeting : List Range → List Range → Option ℕ
first_meeting ranges others = position (meets_before ranges others) (range_with_len 0 (length ranges))

-- the least number of a range that meets one that stands before it
abbrev pub first_meeting_earlier : List Range → Option ℕ
first_meeting_earlier ranges = first_meeting ranges []

-- the least number of a range that meets one of the others
abbrev pub first_meeting_any : List Range → List Range → Option ℕ
first_meeting_any ranges others = position (meets_any others) ranges
