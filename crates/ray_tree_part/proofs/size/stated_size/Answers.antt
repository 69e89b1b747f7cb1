use Rattle.std.proofs.Common.{◌+◌, ◌*◌, ◌∙◌}
use Rattle.ray_tree_part.proofs.NodeCounts.{stated_length}
use Rattle.ray_tree_part.proofs.size.stated_size.Goals as goal

pub returns : goal.returns
returns c items few many =
    (λ i. 8 + 32 * c.from.ensures i + 4 * c.from-2.ensures i)
    ∙ stated_length items c.args.active c.nodes_over.result few many c.nodes_over.ensures
