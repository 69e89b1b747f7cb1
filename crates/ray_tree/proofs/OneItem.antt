-- The tree over one item, of a leaf alone.
use Rattle.std.proofs.Common.{◌<◌, ◌≤◌, ℕ, zero, suc, Option, Some, List, [], ◌∷◌, refl, arith}
use Rattle.std.proofs.lemmas.Bool.Decides.{nat_tests}
use Rattle.std.proofs.lemmas.List.Elements.{All-nil, All-cons}
use Rattle.ray_geom.specs.Boxes.{BoxValue}
use Rattle.ray_tree.specs.declared.node.Node.{Node}
use Rattle.ray_tree.specs.declared.node.Node.TheVariants.{Leaf}
use Rattle.ray_tree.specs.Trees.{tree_value, TreeOver}
use Rattle.ray_tree.specs.Local.{IsActive, IsLocalAt}
use Rattle.ray_tree.specs.Plans.{Few}
use Rattle.ray_tree.proofs.Spelled.{shape_of_plan}
use Rattle.ray_tree.proofs.Counting.{one}
use Rattle.ray_tree.proofs.LeastLists.{least_one}
use Rattle.ray_tree.proofs.Locals.{tree_over}

at_most_one : (q : ℕ) → one q 0 ≤ 1
at_most_one q = grind (arith, nat_tests)

local : (b : BoxValue) (n : ℕ) → n < 1 → IsLocalAt (Some b ∷ []) (0 ∷ []) (b ∷ []) (Leaf 0 1 ∷ []) n
local b zero small d = least_one b
local b (suc n) small d = absurd (omega arith)

pub one_tree : (b : BoxValue) → TreeOver (tree_value (Leaf 0 1 ∷ []) (b ∷ []) (0 ∷ [])) (Some b ∷ [])
one_tree b =
    let nodes : List Node = Leaf 0 1 ∷ [] in
    let items : List (Option BoxValue) = Some b ∷ [] in
    let order : List ℕ = 0 ∷ [] in
    tree_over (tree_value nodes (b ∷ []) order) items
    (shape_of_plan nodes (b ∷ []) order (Few 1) refl refl (omega arith, omega arith) refl (λ q. omega (arith, at_most_one q)))
    (record { many = refl; each = All-cons (IsActive items) 0 [] refl (All-nil (IsActive items)) })
    (record { each = local b })
