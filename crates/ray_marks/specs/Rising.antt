-- Marks of cells: what a range of cells is given, and the greatest in it. (Own.)
use Rattle.std.specs.Prelude.{◌≡◌, ◌<◌, ◌≤◌, ◌⊎◌, ℕ, Bool, nat_le, nat_lt, max, ◌&&◌, if◌then◌else◌, List, slice_index}

-- the mark of a cell, where these are the marks of all cells in order
abbrev pub mark_of : List ℕ → ℕ → ℕ
mark_of marks c = slice_index marks c

-- a cell is in a range from its start on, and below its end
abbrev pub is_in : ℕ → ℕ → ℕ → Bool
is_in start end c = nat_le start c && nat_lt c end

-- cells in a range have this mark, and all others the mark that they had
abbrev pub is_marked : ℕ → ℕ → ℕ → ℕ → ℕ → ℕ
is_marked start end value old c = if is_in start end c then value else old

-- the greatest mark above a limit in a range of cells: none of them is above both, and it is above the
-- limit and one of them has it, or it is 0
pub record IsGreatest (marks : List ℕ) (limit start end : ℕ) (greatest : ℕ) : Type 0 where
  pub most : (c : ℕ) → start ≤ c → c < end → mark_of marks c ≤ max limit greatest
  pub there :
      (greatest ≡ 0) ⊎ ((c : ℕ) × (start ≤ c) × (c < end) × (mark_of marks c ≡ greatest) × (limit < greatest))
