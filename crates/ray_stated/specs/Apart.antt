-- Numbers of which none stands twice, which no clause of a public call speaks of. (Own.)
use Rattle.std.specs.Prelude.{◌<◌, ◌≤◌, ℕ, List}
use Rattle.std.specs.List.{All}
use Rattle.ray_tree.specs.Trees.{times}

-- numbers are below a limit, and none stands twice
pub record AreApart (limit : ℕ) (numbers : List ℕ) : Type 0 where
  pub below : All (λ p. p < limit) numbers
  pub once : (p : ℕ) → times p numbers ≤ 1
