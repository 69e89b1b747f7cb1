-- What the searches of lists go by, and no clause of a public call: a union, and a sweep over the ranges of
-- two lists. (Own.)
use Rattle.std.specs.Prelude.{◌≡◌, ◌≤◌, ℕ, nat_le, nat_lt, ◌&&◌, ◌||◌, Bool, true, false, List, [], ◌∷◌, ◌++◌, map, if◌then◌else◌}
use Rattle.std.specs.List.{sum_by}
use Rattle.ray_ranges.specs.declared.range.Range.{Range}
use Rattle.ray_ranges.specs.declared.sweep.Swept.{Swept}
use Rattle.ray_ranges.specs.Meeting.{has, covers}

-- a list has the numbers of another, and those of one more range
abbrev pub HasAlso : Range → List Range → List Range → Type 0
HasAlso range old new = (n : ℕ) → covers new n ≡ (has n range || covers old n)

-- a range of the one list, and of the other
abbrev pub own : Range → Swept
own range = record { range = range; is_other = false }

abbrev pub other : Range → Swept
other range = record { range = range; is_other = true }

-- all of both
abbrev pub swept : List Range → List Range → List Swept
swept ranges others = map own ranges ++ map other others

-- the greater of two numbers
abbrev pub greater : ℕ → ℕ → ℕ
greater a b = if nat_lt a b then b else a

-- each range that isn't empty begins at or above the ends of the own ones before it, and an own one also
-- at or above those of the others before it
abbrev pub ascend_from : ℕ → ℕ → List Swept → Bool
ascend_from ends other_ends [] = true
ascend_from ends other_ends (s ∷ rest) =
    if nat_lt s.range.from s.range.end then
    nat_le ends s.range.from
    && (if s.is_other then ascend_from ends (greater other_ends s.range.end) rest
    else nat_le other_ends s.range.from && ascend_from s.range.end other_ends rest)
    else ascend_from ends other_ends rest

-- how many ranges have a number
abbrev pub count_at : ℕ → List Range → ℕ
count_at n ranges = sum_by (λ range. if has n range then 1 else 0) ranges

-- no number is in two of these ranges, or in one of them and one of the others
pub record AreFree (ranges others : List Range) : Type 0 where
  pub once : (n : ℕ) → count_at n ranges ≤ 1
  pub apart : (n : ℕ) → 1 ≤ count_at n ranges → count_at n others ≡ 0
