-- The tree that is read, and that there is none.
use Rattle.std.proofs.Common.{ℕ, ◌≡◌, List, Option, Some, None, Result, Ok, Err, refl, sym, ap, ◌∙◌}
use Rattle.std.specs.Prelude.{option_and_then}
use Rattle.ray_geom.specs.Boxes.{BoxValue}
use Rattle.ray_tree.specs.Trees.{TreeValue}
use Rattle.ray_stated.specs.declared.stored.StoredNode.{StoredNode}
use Rattle.ray_stated.specs.declared.tree_fault.TreeFault.{TreeFault}
use Rattle.ray_stated.specs.declared.tree_fault.TreeFault.TheVariants.{NotTree, NoMemory}
use Rattle.ray_stated.specs.Stored.{IsCarried}
use Rattle.ray_stated.specs.Carried.{CarriedAsSaid, IsRead, carried}
use Rattle.ray_tree_part.specs.TreeParts.{nodes_in, order_in, tree_in, IsSpelled, IsNone}

spelled : (items : List (Option BoxValue)) (part : List ℕ) (nodes : List StoredNode) (order : List ℕ) → nodes_in part ≡ Some nodes → order ≡ order_in part
    → tree_in items part ≡ carried nodes order items
unfolding tree_in
spelled items part nodes order p q = λ i. option_and_then (λ ns. carried ns (sym q i) items) (p i)

none_carried : (nodes : List StoredNode) (order : List ℕ) (items : List (Option BoxValue)) (found : Option TreeValue) → carried nodes order items ≡ found
    → CarriedAsSaid nodes order items → ((t : TreeValue) → IsCarried nodes order items t → ⊥) → found ≡ None
none_carried nodes order items None e said none = refl
none_carried nodes order items (Some t) e said none = absurd (none t ((said t).0 e))

pub found : (items : List (Option BoxValue)) (part : List ℕ) (nodes : List StoredNode) (order : List ℕ) (r : Result TreeValue TreeFault)
    → nodes_in part ≡ Some nodes → order ≡ order_in part → CarriedAsSaid nodes order items → IsRead nodes order items r → IsSpelled items part r
found items part nodes order (Ok t) p q said is = spelled items part nodes order p q ∙ (said t).1 is
found items part nodes order (Err NotTree) p q said is =
    spelled items part nodes order p q ∙ none_carried nodes order items (carried nodes order items) refl said is
found items part nodes order (Err NoMemory) p q said is = tt

-- no nodes are there
none_spelled : (items : List (Option BoxValue)) (part : List ℕ) → nodes_in part ≡ None → tree_in items part ≡ None
unfolding tree_in
none_spelled items part e = ap (option_and_then (λ ns. carried ns (order_in part) items)) e

pub missing : (items : List (Option BoxValue)) (part : List ℕ) (fault : TreeFault) → IsNone (nodes_in part) fault → IsSpelled items part (Err fault)
missing items part NotTree is = none_spelled items part is
missing items part NoMemory is = tt
