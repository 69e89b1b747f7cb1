-- A word that a reader of the public contracts needs not: the number that a chain of snapshots stands for.
use Rattle.std.specs.Prelude.{ℕ, ◌+◌}
use Rattle.ray_geom.specs.declared.count.Count.{Count}
use Rattle.ray_geom.specs.declared.count.Count.TheVariants.{Zero}
use Rattle.ray_geom.specs.declared.count.Count.TheBlock.{Next'}

-- how many steps a count holds (own)
abbrev pub count_of : Count → ℕ
count_of Zero = 0
count_of (Next' s rest) = count_of rest + 1
