-- What is found from a node of a tree down is what is found of the items there, from the leftmost leaf on.
use Rattle.std.proofs.Common.{ℕ, ◌≡◌, ◌+◌, Option, List, refl, ◌∙◌}
use Rattle.ray_geom.specs.Boxes.{BoxValue}
use Rattle.ray_tree.specs.Shapes.{Shape, Gone, Tip, Fork}
use Rattle.ray_tree.specs.Trees.{TreeValue, TreeOver, shape_at, times, active}
use Rattle.ray_tree.specs.Nesting.{stands}
use Rattle.ray_tree.proofs.Nested.{are_apart}
use Rattle.ray_tree.specs.Trees.{items_below}
use Rattle.ray_candidates.proofs.Spread.{times-append}

-- a number stands in the leaves as often as among the items from the left
stands-items : (p : ℕ) (order : List ℕ) (s : Shape) → times p (items_below order s) ≡ stands order p s
stands-items p order Gone = refl
stands-items p order (Tip node first count) = refl
stands-items p order (Fork node left right) =
    times-append p (items_below order left) (items_below order right)
    ∙ (λ i. stands-items p order left i + stands-items p order right i)

-- each active item stands there once, and no other number does
pub items-once : (tree : TreeValue) (items : List (Option BoxValue)) → TreeOver tree items → (p : ℕ)
    → times p (items_below tree.order (shape_at tree 0)) ≡ active items p
items-once tree items over p = stands-items p tree.order (shape_at tree 0) ∙ (are_apart tree items over).each p
