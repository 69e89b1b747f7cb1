use Rattle.std.proofs.Common.{◌≡◌, ◌-◌, ◌<◌, length}
use Rattle.ray_tree.specs.Shapes.{levels}
use Rattle.ray_tree.specs.Trees.{shape_at}
use Rattle.ray_climb.specs.declared.rule.Half.TheVariants.{Held, Stored}
use Rattle.ray_climb.specs.declared.rule.Hand.TheVariants.{At}
use Rattle.ray_climb.specs.Steps.{knows, without}
use Rattle.ray_climb.proofs.ascent.climb.Given as goal

-- the first step is told its leaf and the high half of the leaf's box
abbrev pub ghosts-begin : goal.ghosts-begin
ghosts-begin a = record { leaf = a.at.leaf; high = a.at.high }

-- the hand is at a node, of whose box the low half is stored
abbrev pub invariant-loop-at : goal.invariant-loop-at
invariant-loop-at l =
    (l.seat.table_id ≡ l.fn.seat.table_id)
    × (l.at.leaf ≡ l.leaf)
    × (l.at.node < length l.refit.tree.nodes)
    × (l.seat.me ≡ (knows (without l.leaf l.fn.seat.me.0.todo) l.fn.seat.me.0.done (At l.at.leaf l.at.node (Stored l.at.low) (Held l.at.high)), l.fn.seat.me.1))

-- each node is higher than the one before
abbrev pub decreases-loop-at : goal.decreases-loop-at
decreases-loop-at l = length l.refit.tree.nodes - levels (shape_at l.refit.tree l.at.node)
