use Rattle.std.proofs.Common.{◌++◌, ◌∙◌}
use Rattle.ray_scene.specs.Grid.{vertex_words}
use Rattle.ray_scene.proofs.Words.{more_words}
use Rattle.ray_scene.proofs.grid.add_layer.Goals as goal

pub loop-n-preserved : goal.loop-n-preserved
loop-n-preserved c =
    c.in_ok-extend_from_slice.ensures.items
    ∙ ((λ i. c.loop-n.invariant i ++ c.vertex.ensures i)
    ∙ more_words c.args.words.now.items (vertex_words c.args.side c.args.layer) c.loop-n.n)
