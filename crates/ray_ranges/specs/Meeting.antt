-- Ranges of whole numbers, and when two of them meet. (Own.)
use Rattle.std.specs.Prelude.{◌≡◌, ℕ, nat_le, nat_lt, Bool, true, not, ◌&&◌, List}
use Rattle.std.specs.List.{list_any}
use Rattle.ray_ranges.specs.declared.range.Range.{Range}

-- a number is in a range from its beginning on, and below its end
abbrev pub has : ℕ → Range → Bool
has n range = nat_le range.from n && nat_lt n range.end

-- two ranges meet: each begins below the end of the other, and neither is empty
abbrev pub meets : Range → Range → Bool
meets a b = nat_lt a.from b.end && nat_lt b.from a.end && nat_lt a.from a.end && nat_lt b.from b.end

-- some number is in both
abbrev pub ShareNumber : Range → Range → Type 0
ShareNumber a b = (n : ℕ) × (has n a ≡ true) × (has n b ≡ true)

-- a number is in some range of a list
abbrev pub covers : List Range → ℕ → Bool
covers ranges n = list_any (has n) ranges

-- a range meets some range of a list
abbrev pub meets_any : List Range → Range → Bool
meets_any ranges range = list_any (meets range) ranges

-- a list has the numbers of another, but none of those of a range
abbrev pub HasNoMore : Range → List Range → List Range → Type 0
HasNoMore range old new = (n : ℕ) → covers new n ≡ (covers old n && not (has n range))
