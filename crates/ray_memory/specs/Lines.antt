-- Text that is written from its end. Private contracts alone cite it: no page of definitions. (Own.)
use Rattle.std.specs.Prelude.{ℕ, ◌≡◌, ◌≤◌, ◌+◌, ◌++◌, List, drop, length}

-- a text was written so that it ends at a place, and begins at another, at most so many bytes before
pub record IsPut (text : List ℕ) (most end : ℕ) (before after : List ℕ) (begin : ℕ) : Type 0 where
  pub written : drop begin after ≡ text ++ drop end before
  pub within : begin ≤ end
  pub near : end ≤ begin + most
  pub sized : length after ≡ length before
