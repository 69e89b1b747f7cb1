-- Cells: an axis is cut at the numbers where ranges begin, so that two ranges meet exactly where they
-- have a cell in common. (Own.)
use Rattle.std.specs.Prelude.{ℕ, ◌+◌, nat_lt, ◌==◌, Bool, if◌then◌else◌, List, [], ◌∷◌}
use Rattle.std.specs.List.{list_any}
use Rattle.ray_marks.specs.Rising.{is_in}
use Rattle.ray_ranges.specs.declared.range.Range.{Range}

-- the cell in which a number stands: how many numbers begin a range below it
unfoldable pub cell_of : List ℕ → ℕ → ℕ
cell_of [] p = 0
cell_of (s ∷ starts) p = (if nat_lt s p then 1 else 0) + cell_of starts p

-- a range begins at a number
abbrev pub is_start : List ℕ → ℕ → Bool
is_start starts p = list_any (λ s. s == p) starts

-- a cell is in a range
abbrev pub has_cell : List ℕ → Range → ℕ → Bool
has_cell starts r c = is_in (cell_of starts r.from) (cell_of starts r.end) c
