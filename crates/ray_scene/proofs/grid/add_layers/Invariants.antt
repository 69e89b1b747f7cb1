use Rattle.std.proofs.Common.{◌≡◌, ◌++◌}
use Rattle.ray_scene.specs.Grid.{layer_words, words_below}
use Rattle.ray_scene.proofs.grid.add_layers.Given as goal

abbrev pub invariant-loop-layer : goal.invariant-loop-layer
invariant-loop-layer l = l.words.items ≡ l.fn.words.items ++ words_below (layer_words l.side) l.layer
