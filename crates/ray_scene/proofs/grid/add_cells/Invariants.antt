use Rattle.std.proofs.Common.{◌≡◌, ◌++◌}
use Rattle.ray_scene.specs.Grid.{cell_words, words_below}
use Rattle.ray_scene.proofs.grid.add_cells.Given as goal

abbrev pub invariant-loop-n : goal.invariant-loop-n
invariant-loop-n l = l.words.items ≡ l.fn.words.items ++ words_below (cell_words l.side) l.n
