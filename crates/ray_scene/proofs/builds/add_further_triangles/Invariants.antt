use Rattle.std.proofs.Common.{◌≡◌, ◌++◌, string_bytes}
use Rattle.ray_scene.specs.Grid.{words_below}
use Rattle.ray_scene.specs.Text.{next_triangles}
use Rattle.ray_scene.proofs.builds.add_further_triangles.Given as goal

abbrev pub invariant-loop-layer : goal.invariant-loop-layer
invariant-loop-layer l =
    string_bytes l.text ≡ string_bytes l.fn.text ++ words_below (next_triangles l.side l.layers) l.layer
