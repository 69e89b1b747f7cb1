use Rattle.std.proofs.Common.{◌≡◌}
use Rattle.ray_scene.specs.Grid.{ray_words, words_below}
use Rattle.ray_scene.proofs.grid.rays_words.Given as goal

abbrev pub invariant-loop-r : goal.invariant-loop-r
invariant-loop-r l = l.words.items ≡ words_below (ray_words l.side) l.r
