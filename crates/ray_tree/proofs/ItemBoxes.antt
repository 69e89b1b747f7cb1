-- The boxes of a list of items, one item after the other, and when the box of a node is so.
use Rattle.std.proofs.Common.{◌≡◌, ◌∙◌, ◌+◌, ◌<◌, ◌↔◌, ◌++◌, ℕ, Bool, Option, Some, List, [], ◌∷◌, length, take, get_or, refl, sym, ap, subst, append_assoc}
use Rattle.std.specs.Prelude.{IsTrue}
use Rattle.std.specs.Option.{option_to_list}
use Rattle.std.proofs.lemmas.List.{take_more, get_or_default}
use Rattle.ray_geom.specs.Boxes.{BoxValue}
use Rattle.ray_geom.specs.Equality.{box_eq, box_eq-identical}
use Rattle.ray_geom.specs.LeastBoxes.{HoldsBoxes, IsLeast, union_of}
use Rattle.ray_tree.specs.declared.node.Node.{Node}
use Rattle.ray_tree.specs.declared.node.Node.TheVariants.{Leaf, Inner}
use Rattle.ray_tree.specs.Shapes.{node_at}
use Rattle.ray_tree.specs.Trees.{item_box, boxes_of, boxes_in}
use Rattle.ray_tree.specs.Local.{IsLocal, IsLocalAt}
use Rattle.ray_tree.proofs.LeastLists.{least_append, least_one, same_least}

boxes_of-append : (items : List (Option BoxValue)) (ps qs : List ℕ) → boxes_of items (ps ++ qs) ≡ boxes_of items ps ++ boxes_of items qs
boxes_of-append items [] qs = refl
boxes_of-append items (p ∷ ps) qs =
    ap (λ l. option_to_list (item_box items p) ++ l) (boxes_of-append items ps qs)
    ∙ sym (append_assoc (option_to_list (item_box items p)) (boxes_of items ps) (boxes_of items qs))

boxes_of-one : (items : List (Option BoxValue)) (p : ℕ) (b : BoxValue) → item_box items p ≡ Some b → boxes_of items (p ∷ []) ≡ b ∷ []
boxes_of-one items p b e = ap (λ o. option_to_list o ++ []) e

boxes_of-more : (items : List (Option BoxValue)) (ps : List ℕ) (i : ℕ) (b : BoxValue) → i < length ps → item_box items (get_or ps i 0) ≡ Some b
    → boxes_of items (take (i + 1) ps) ≡ boxes_of items (take i ps) ++ (b ∷ [])
boxes_of-more items ps i b small e =
    ap (boxes_of items) (take_more ps i 0 small)
    ∙ boxes_of-append items (take i ps) (get_or ps i 0 ∷ [])
    ∙ ap (λ l. boxes_of items (take i ps) ++ l) (boxes_of-one items (get_or ps i 0) b e)

pub least_more : (items : List (Option BoxValue)) (ps : List ℕ) (i : ℕ) (a b : BoxValue) → i < length ps → item_box items (get_or ps i 0) ≡ Some b
    → IsLeast (HoldsBoxes (boxes_of items (take i ps))) a → IsLeast (HoldsBoxes (boxes_of items (take (i + 1) ps))) (union_of a b)
least_more items ps i a b small e least =
    subst (λ l. IsLeast (HoldsBoxes l) (union_of a b)) (sym (boxes_of-more items ps i b small e))
    (least_append (boxes_of items (take i ps)) (b ∷ []) a b least (least_one b))

pub least_first : (items : List (Option BoxValue)) (ps : List ℕ) (b : BoxValue) → 0 < length ps → item_box items (get_or ps 0 0) ≡ Some b
    → IsLeast (HoldsBoxes (boxes_of items (take 1 ps))) b
least_first items ps b some e = subst (λ l. IsLeast (HoldsBoxes l) b) (sym (boxes_of-more items ps 0 b some e)) (least_one b)

-- two boxes that are so of one node are the same
same_local : (items : List (Option BoxValue)) (order : List ℕ) (boxes : List BoxValue) (a b : BoxValue) (node : Node)
    → IsLocal items order boxes a node → IsLocal items order boxes b node → a ≡ b
same_local items order boxes a b (Leaf first count) p q = same_least (boxes_in items order first count) a b p q
same_local items order boxes a b (Inner l r) p q = p a ∙ sym (q a)

-- so a box is so exactly where it is the one that was made
pub is_local : (items : List (Option BoxValue)) (order : List ℕ) (boxes : List BoxValue) (nodes : List Node) (n : ℕ) (box made : BoxValue) (r : Bool)
    → n < length boxes → box ≡ get_or boxes n box → IsLocal items order boxes made (node_at nodes n) → r ≡ box_eq box made
    → IsTrue r ↔ IsLocalAt items order boxes nodes n
is_local items order boxes nodes n box made r small is local e = (
  λ h d.
      let same = (box_eq-identical box made).0 (subst IsTrue e h) in
      subst (λ b. IsLocal items order boxes b (node_at nodes n)) (sym same ∙ is ∙ get_or_default boxes n box d small) local,
  λ h. subst IsTrue (sym e) ((box_eq-identical box made).1 (same_local items order boxes box made (node_at nodes n)
      (subst (λ b. IsLocal items order boxes b (node_at nodes n)) (sym is) (h box)) local)),
)
