use Rattle.std.specs.Prelude.{◌≡◌, ℕ, Option, List, ◌++◌, take, Some}

-- a write took the first bytes of a piece, so many as it counts: they stand after what was taken before (own)
abbrev pub TakesFirst : List ℕ → Option (List ℕ) → ℕ → List ℕ → Type 0
TakesFirst bytes after count piece = after ≡ Some (bytes ++ take count piece)
