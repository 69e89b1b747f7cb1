use Rattle.std.proofs.Common.{◌++◌, ◌∙◌, ap}
use Rattle.ray_scene.specs.Grid.{layer_words}
use Rattle.ray_scene.proofs.Words.{more_words}
use Rattle.ray_scene.proofs.grid.add_layers.Goals as goal

pub loop-layer-preserved : goal.loop-layer-preserved
loop-layer-preserved c =
    c.in_ok-add_layer.ensures
    ∙ (ap (λ ws. ws ++ layer_words c.args.side c.loop-layer.layer) c.loop-layer.invariant
    ∙ more_words c.args.words.now.items (layer_words c.args.side) c.loop-layer.layer)
