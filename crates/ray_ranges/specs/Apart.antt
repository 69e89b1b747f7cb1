-- Ranges that stand in order and apart, as a set of disjoint ranges holds them. (Own.)
use Rattle.std.specs.Prelude.{◌≡◌, ◌<◌, ◌≤◌, ℕ, Bool, not, ◌==◌, List, [], ◌∷◌}
use Rattle.std.specs.List.{filter, list_any}
use Rattle.ray_ranges.specs.declared.range.Range.{Range}

-- in order, each range begins where the one before it ends or above, the first at `least` or above,
-- and none is empty
abbrev pub AreApart : ℕ → List Range → Type 0
AreApart least [] = Unit {0}
AreApart least (range ∷ ranges) =
    (least ≤ range.from) × (range.from < range.end) × AreApart range.end ranges

-- two lists have the same ranges: each test finds one in both or in none
abbrev pub HaveTheSame : List Range → List Range → Type 0
HaveTheSame some others = (test : Range → Bool) → list_any test some ≡ list_any test others

-- the range begins at this number
abbrev pub begins_at : ℕ → Range → Bool
begins_at from range = range.from == from

-- the ranges that don't begin at this number
abbrev pub without : ℕ → List Range → List Range
without from ranges = filter (λ range. not (begins_at from range)) ranges

-- the range of an entry: its key is where it begins, its value where it ends
abbrev pub range_of : ℕ × ℕ → Range
range_of entry = record { from = entry.0; end = entry.1 }
