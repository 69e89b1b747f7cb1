-- Nodes that wait, the last one first, while the leaves of a tree are listed; no clause of a public call speaks
-- of them. (Own.)
use Rattle.std.specs.Prelude.{◌≡◌, ◌+◌, ◌<◌, ℕ, List, [], ◌∷◌, ◌++◌}
use Rattle.ray_tree.specs.declared.node.Node.{Node}
use Rattle.ray_tree.specs.declared.leaves.Wait.{Wait}
use Rattle.ray_tree.specs.Shapes.{Shape, Gone, Tip, Fork, shape_in, tips}

-- what is from a node that waits down
abbrev pub below : List Node → Wait → Shape
below nodes wait = shape_in wait.levels nodes wait.at

-- the leaves below all that wait
abbrev pub tips_below : List Node → List Wait → List ℕ
tips_below nodes [] = []
tips_below nodes (wait ∷ waits) = tips_below nodes waits ++ tips (below nodes wait)

-- how many nodes there are in a shape, too long a way down being one
abbrev pub weight : Shape → ℕ
weight Gone = 1
weight (Tip node first count) = 1
weight (Fork node left right) = 1 + (weight left + weight right)

-- and below all that wait
abbrev pub weight_below : List Node → List Wait → ℕ
weight_below nodes [] = 0
weight_below nodes (wait ∷ waits) = weight (below nodes wait) + weight_below nodes waits

-- what waits and what is listed, before and after a node that waited was seen: the leaves in all are the same, and
-- less is below what waits
pub record IsStep (nodes : List Node) (wait : Wait) (waits0 : List Wait) (leaves0 : List ℕ) (waits1 : List Wait) (leaves1 : List ℕ) : Type 0 where
  pub same : leaves1 ++ tips_below nodes waits1 ≡ leaves0 ++ (tips (below nodes wait) ++ tips_below nodes waits0)
  pub less : weight_below nodes waits1 < weight (below nodes wait) + weight_below nodes waits0
