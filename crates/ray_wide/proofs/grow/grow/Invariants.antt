use Rattle.std.proofs.Common.{◌≡◌, ◌≤◌, length}
use Rattle.ray_wide.specs.Cuts.{IsGrowing, left_over}
use Rattle.ray_wide.proofs.grow.grow.Given as goal

abbrev pub invariant-loop-nodes : goal.invariant-loop-nodes
invariant-loop-nodes l =
    IsGrowing l.tree.nodes l.nodes.items l.tops.items × (length l.fn.tops.items ≤ length l.tops.items) × (length l.fn.tops.items ≡ 0 → length l.tops.items ≡ 0)

abbrev pub decreases-loop-nodes : goal.decreases-loop-nodes
decreases-loop-nodes l = left_over l.tree.nodes l.nodes.items l.tops.items
