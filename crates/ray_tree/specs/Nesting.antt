-- How the nodes of a tree over items stand to each other and to the items.
use Rattle.std.specs.Prelude.{◌≡◌, ◌+◌, ◌<◌, ◌≤◌, ℕ, Option, Some, List, length, take, drop}
use Rattle.ray_geom.specs.Boxes.{BoxValue, IsPart}
use Rattle.ray_tree.specs.declared.node.Node.TheVariants.{Inner}
use Rattle.ray_tree.specs.Shapes.{Shape, Gone, Tip, Fork, node_at, holds, levels}
use Rattle.ray_tree.specs.Trees.{TreeValue, shape_at, box_at, item_at, item_box, times, active}

-- the boxes of a node's two children are in its own
pub record AreInParent (tree : TreeValue) (n l r : ℕ) (d : BoxValue) : Type 0 where
  pub left : IsPart (box_at tree d l) (box_at tree d n)
  pub right : IsPart (box_at tree d r) (box_at tree d n)

-- so it is at each node with children
pub record AreNested (tree : TreeValue) : Type 0 where
  pub each : (n l r : ℕ) (d : BoxValue) → n < length tree.nodes → node_at tree.nodes n ≡ Inner l r → AreInParent tree n l r d

-- the box of an item is in the box of each node above it, the leaf where it stands being one of these
pub record AreAround (tree : TreeValue) (items : List (Option BoxValue)) : Type 0 where
  pub each : (n at : ℕ) (d box : BoxValue) → n < length tree.nodes → 0 < holds at (shape_at tree n) →
      item_box items (item_at tree at) ≡ Some box → IsPart box (box_at tree d n)

-- how often an item stands in the leaves from a node down
abbrev pub stands : List ℕ → ℕ → Shape → ℕ
stands order p Gone = 0
stands order p (Tip node first count) = times p (take count (drop first order))
stands order p (Fork node left right) = stands order p left + stands order p right

-- each active item stands in one leaf, and nothing else does
pub record AreApart (tree : TreeValue) (items : List (Option BoxValue)) : Type 0 where
  pub each : (p : ℕ) → stands tree.order p (shape_at tree 0) ≡ active items p

-- no way down has more nodes than there are
pub record IsLow (tree : TreeValue) : Type 0 where
  pub low : levels (shape_at tree 0) ≤ length tree.nodes
