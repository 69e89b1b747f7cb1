-- Marks that are kept once there are any. (Own.)
use Rattle.std.specs.Prelude.{◌≡◌, ◌≤◌, ◌^◌, ℕ, List, Option, Some, None, length, replicate}

-- the marks of so many cells: 0 of each where none was made
abbrev pub marks_in : ℕ → Option (List ℕ) → List ℕ
marks_in cells None = replicate cells 0
marks_in cells (Some marks) = marks

-- marks that were made are of as many cells, of which there are at most 2^32
pub record IsMade (cells : ℕ) (made : Option (List ℕ)) : Type 0 where
  pub few : cells ≤ 2 ^ 32
  pub many : length (marks_in cells made) ≡ cells
