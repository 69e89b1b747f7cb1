use Rattle.std.proofs.Common.{◌++◌, ◌∙◌, sym}
use Rattle.ray_scene.specs.Grid.{ray_words}
use Rattle.ray_scene.proofs.Words.{words_below_more}
use Rattle.ray_scene.proofs.grid.rays_words.Goals as goal

pub loop-r-preserved : goal.loop-r-preserved
loop-r-preserved c =
    c.in_ok-extend_from_slice.ensures.items
    ∙ ((λ i. c.loop-r.invariant i ++ c.ray.ensures i)
    ∙ sym (words_below_more (ray_words c.args.side) c.loop-r.r))
