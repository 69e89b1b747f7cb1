-- The items of a leaf: each is active, and its box is in that of the leaf.
use Rattle.std.proofs.Common.{◌≡◌, ◌∙◌, refl, ap, subst, ℕ, zero, suc, ◌<◌, if◌then◌else◌, Option, Some, None, is_some, List, [], ◌∷◌, ◌++◌, All, length, take, drop, inl, inr, arith}
use Rattle.std.specs.List.{flat_map}
use Rattle.std.specs.Option.{option_to_list}
use Rattle.std.proofs.lemmas.List.Elements.{All-head}
use Rattle.std.proofs.lemmas.List.Concat.{flat_map-cons}
use Rattle.ray_geom.specs.Boxes.{BoxValue, IsPart}
use Rattle.ray_geom.specs.LeastBoxes.{HoldsBoxes}
use Rattle.ray_tree.specs.declared.node.Node.{Node}
use Rattle.ray_tree.specs.declared.node.Node.TheVariants as nodes
use Rattle.ray_tree.specs.Shapes.{Shape, node_at}
use Rattle.ray_tree.specs.Trees.{TreeValue, TreeOver, box_at, item_box, boxes_of, boxes_below}
use Rattle.ray_tree.specs.Local.{IsActive}
use Rattle.ray_tree.proofs.Counting.{has_items}
use Rattle.ray_tree.proofs.LeastLists.{All-second}
use Rattle.ray_tree.proofs.NodeLaws.{at_leaf}
use Rattle.ray_candidates.specs.Placements.{items_by, items_at}
use Rattle.ray_query.proofs.Orders.{Each-from_All}
use Rattle.ray_query.proofs.Members.{Member, Member-append, Each-member}

-- ---- lists

Member-take : (n : ℕ) (l : List ℕ) (q : ℕ) → Member q (take n l) → Member q l
Member-take zero l q m = absurd m
Member-take (suc n) [] q m = absurd m
Member-take (suc n) (x ∷ l) q (inl same) = inl same
Member-take (suc n) (x ∷ l) q (inr m) = inr (Member-take n l q m)

Member-drop : (n : ℕ) (l : List ℕ) (q : ℕ) → Member q (drop n l) → Member q l
Member-drop zero l q m = m
Member-drop (suc n) [] q m = absurd m
Member-drop (suc n) (x ∷ l) q m = inr (Member-drop n l q m)

-- what is in one of the lists
pub record IsFrom {X Y : Type 0} (f : X → List Y) (xs : List X) (y : Y) : Type 0 where
  pub at : X
  pub from : Member at xs
  pub given : Member y (f at)

pub Member-flat_map : {X Y : Type 0} (f : X → List Y) (xs : List X) (y : Y) → Member y (flat_map f xs) → IsFrom f xs y
Member-flat_map f [] y m = absurd m
Member-flat_map f (x ∷ xs) y m = elim (Member-append (f x) (flat_map f xs) y (subst (Member y) (flat_map-cons f x xs) m)) [
  | inl first ↦ record { at = x; from = inl refl; given = first }
  | inr rest ↦ (let other : IsFrom f xs y = Member-flat_map f xs y rest in record { at = other.at; from = inr other.from; given = other.given })
]

-- ---- items

-- an item that is active, with its box
pub record IsItem (items : List (Option BoxValue)) (q : ℕ) : Type 0 where
  pub box : BoxValue
  pub is_it : item_box items q ≡ Some box

abbrev one_for : Option BoxValue → ℕ
one_for o = if is_some o then 1 else 0

active_item : (items : List (Option BoxValue)) (q : ℕ) → IsActive items q → IsItem items q
active_item items q one = by (item_box items q) refl one
  where
    by : (o : Option BoxValue) → item_box items q ≡ o → one_for o ≡ 1 → IsItem items q
    by None at is = absurd (omega (arith, is))
    by (Some box) at is = record { box = box; is_it = at }

ordered_item : (tree : TreeValue) (items : List (Option BoxValue)) → TreeOver tree items → (q : ℕ) → Member q tree.order → IsItem items q
ordered_item tree items over q m =
    active_item items q (Each-member (IsActive items) tree.order q (Each-from_All (IsActive items) tree.order (has_items tree.order items over.active_once).each) m)

-- each item of a node is one
pub item_at_node : (tree : TreeValue) (items : List (Option BoxValue)) → TreeOver tree items → (n q : ℕ) → Member q (items_at tree n) → IsItem items q
item_at_node tree items over n q m = by (node_at tree.nodes n) m
  where
    by : (node : Node) → Member q (items_by tree.order node) → IsItem items q
    by (nodes.Leaf first count) here = ordered_item tree items over q (Member-drop first tree.order q (Member-take count (drop first tree.order) q here))
    by (nodes.Inner left right) here = absurd here

-- ---- boxes

-- what holds of the boxes of items holds of that of one
listed : (P : BoxValue → Type 0) (items : List (Option BoxValue)) (qs : List ℕ) (q : ℕ) (box : BoxValue) → Member q qs → item_box items q ≡ Some box
    → All P (boxes_of items qs) → P box
listed P items [] q box m is all = absurd m
listed P items (r ∷ qs) q box (inl same) is all =
    All-head P box (boxes_of items qs) (subst (λ o. All P (option_to_list o ++ boxes_of items qs)) (ap (item_box items) same ∙ is) all)
listed P items (r ∷ qs) q box (inr m) is all =
    listed P items qs q box m is (All-second P (option_to_list (item_box items r)) (boxes_of items qs) all)

-- the box of each item of a node is in the node's box
pub box_at_node : (tree : TreeValue) (items : List (Option BoxValue)) → TreeOver tree items → (n q : ℕ) (d box : BoxValue) → n < length tree.nodes
    → Member q (items_at tree n) → item_box items q ≡ Some box → IsPart box (box_at tree d n)
box_at_node tree items over n q d box small m is = by (node_at tree.nodes n) refl m
  where
    by : (node : Node) → node_at tree.nodes n ≡ node → Member q (items_by tree.order node) → IsPart box (box_at tree d n)
    by (nodes.Leaf first count) at here =
        listed (λ x. IsPart x (box_at tree d n)) items (take count (drop first tree.order)) q box here is
        (subst (λ (s : Shape). HoldsBoxes (boxes_below items tree.order s) (box_at tree d n)) (at_leaf tree over.shape n first count small at).shape
        (over.least n d small).holds)
    by (nodes.Inner left right) at here = absurd here
