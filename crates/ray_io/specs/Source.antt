use Rattle.std.specs.Prelude.{◌≡◌, ℕ, Option, ◌≤◌, List, length, take, drop, Some}

-- a read gave the first bytes of those that were left, so many as it counts: the others are left, and what was given lies at the front of the place read into (own)
pub record GivesFirst (bytes : List ℕ) (after : Option (List ℕ)) (count : ℕ) (into : List ℕ) : Type 0 where
  pub within : count ≤ length bytes
  pub others : after ≡ Some (drop count bytes)
  pub given : take count into ≡ take count bytes
