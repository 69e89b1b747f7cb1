-- Words that private contracts cite: the ranks of wave numbers.
use Rattle.std.specs.Prelude.{ℕ, List, map, nat_lt, take}
use Rattle.std.specs.List.{count_by}

-- the rank of a number: how many of so many are less
unfoldable pub rank_in : List ℕ → ℕ → ℕ
rank_in numbers number = count_by (λ other. nat_lt other number) numbers

-- the ranks of the first n numbers among these
abbrev pub ranks_of : List ℕ → ℕ → List ℕ
ranks_of numbers n = map (rank_in (take n numbers)) (take n numbers)
