use Rattle.std.specs.Prelude.{◌≡◌, ℕ, Option, ◌≤◌, List, ◌++◌, length, take, Some}

-- some first bytes of a piece, all of them or fewer, stand after what was taken before (own)
abbrev pub TakesSome : List ℕ → Option (List ℕ) → List ℕ → Type 0
TakesSome bytes after piece = (count : ℕ) × (count ≤ length piece) × (after ≡ Some (bytes ++ take count piece))
