use Rattle.std.specs.Prelude.{◌≡◌, ℕ, Option, ◌≤◌, List, drop, Some}

-- the first bytes of those that were left are gone, at most so many, and the others are left (own)
abbrev pub LeavesAllBut : ℕ → List ℕ → Option (List ℕ) → Type 0
LeavesAllBut most bytes after = (count : ℕ) × (count ≤ most) × (after ≡ Some (drop count bytes))
