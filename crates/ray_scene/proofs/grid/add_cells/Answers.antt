use Rattle.std.proofs.Common.{◌++◌, ◌∙◌}
use Rattle.ray_scene.specs.Grid.{cell_words}
use Rattle.ray_scene.proofs.Words.{more_words}
use Rattle.ray_scene.proofs.grid.add_cells.Goals as goal

pub loop-n-preserved : goal.loop-n-preserved
loop-n-preserved c =
    c.in_ok-extend_from_slice.ensures.items
    ∙ ((λ i. c.loop-n.invariant i ++ c.cell.ensures i)
    ∙ more_words c.args.words.now.items (cell_words c.args.side) c.loop-n.n)
