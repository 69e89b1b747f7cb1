-- Stored nodes and an order carry a tree exactly where what they are read as is one in preorder, and then that one.
use Rattle.std.proofs.Common.{◌≡◌, ◌∙◌, ◌+◌, ◌*◌, ◌<◌, ◌≤◌, ◌++◌, inl, inr, ℕ, Option, List, [], ◌∷◌, length, map, take, get_or, refl, sym, ap, ap₂, subst, arith, length-take-le}
use Rattle.std.specs.Prelude.{◌==◌, if◌then◌else◌}
use Rattle.std.proofs.lemmas.Bool.{eqb-true, ne_eqb, cases_Bool}
use Rattle.std.proofs.lemmas.List.{take_more, length-map}
use Rattle.std.proofs.lemmas.List.Elements.{All-weaker}
use Rattle.ray_geom.specs.Boxes.{BoxValue}
use Rattle.ray_tree.specs.declared.node.Node.{Node}
use Rattle.ray_tree.specs.declared.node.Node.TheVariants.{Leaf, Inner}
use Rattle.ray_tree.specs.Trees.{TreeValue, tree_value, times, IsShape, TreeOver}
use Rattle.ray_tree.specs.Local.{IsActive}
use Rattle.ray_tree.specs.Plans.{Plan, Few, Both, size, places_of, spell, AreSmall}
use Rattle.ray_tree.proofs.Spelled.{length-spell, shape_of_plan}
use Rattle.ray_tree.proofs.Median.{median, once-most}
use Rattle.ray_tree.proofs.Counting.{has_items, active-below}
use Rattle.ray_tree.proofs.Sizes.{over-few}
use Rattle.ray_stated.specs.declared.stored.StoredNode.{StoredNode}
use Rattle.ray_stated.specs.Apart.{AreApart}
use Rattle.ray_stated.specs.Stored.{stored_of, stored_all, IsPreorder, IsEmpty, IsRooted, IsCarried}
use Rattle.ray_stated.specs.Carried.{node_of, nodes_from, read_as}

pub length-nodes_from : (n : ℕ) (stored : List StoredNode) → length (nodes_from n stored) ≡ length stored
length-nodes_from n [] = refl
length-nodes_from n (s ∷ ss) = omega (arith, length-nodes_from (n + 1) ss)

-- one stored node more
nodes-last : (n : ℕ) (ss : List StoredNode) (s : StoredNode) → nodes_from n (ss ++ (s ∷ [])) ≡ nodes_from n ss ++ (node_of (n + length ss) s ∷ [])
nodes-last n [] s = let same : n ≡ n + 0 = omega arith in ap (λ k. node_of k s ∷ []) same
nodes-last n (x ∷ xs) s =
    let same : (n + 1) + length xs ≡ n + length (x ∷ xs) = omega arith in
    ap (λ l. node_of n x ∷ l) (nodes-last (n + 1) xs s ∙ ap (λ k. nodes_from (n + 1) xs ++ (node_of k s ∷ [])) same)

pub nodes_more : (stored : List StoredNode) (i : ℕ) (s : StoredNode) → i < length stored → s ≡ get_or stored i s
    → nodes_from 0 (take (i + 1) stored) ≡ nodes_from 0 (take i stored) ++ (node_of i s ∷ [])
nodes_more stored i s small is =
    let same : 0 + length (take i stored) ≡ i = omega (arith, length-take-le i stored (omega arith)) in
    ap (nodes_from 0) (take_more stored i s small ∙ ap (λ x. take i stored ++ (x ∷ [])) (sym is))
    ∙ nodes-last 0 (take i stored) s
    ∙ ap (λ k. nodes_from 0 (take i stored) ++ (node_of k s ∷ [])) same

-- what is read is stored as it was
stored_node : (n : ℕ) (s : StoredNode) → stored_of (node_of n s) s.bounds ≡ s
stored_node n s = elim (cases_Bool (s.count == 0)) [
  | inl a ↦
      (let none : 0 ≡ s.count = sym (eqb-true s.count 0 a) in
      ap (λ b. stored_of (if b then Inner (n + 1) s.link else Leaf s.link s.count) s.bounds) a
      ∙ (λ i. record { bounds = s.bounds; count = none i; link = s.link }))
  | inr b ↦ ap (λ b. stored_of (if b then Inner (n + 1) s.link else Leaf s.link s.count) s.bounds) b
]

stored_again_from : (n : ℕ) (stored : List StoredNode) → stored_all (nodes_from n stored) (map (λ s. s.bounds) stored) ≡ stored
stored_again_from n [] = refl
stored_again_from n (s ∷ ss) = ap₂ (λ (x : StoredNode) (xs : List StoredNode). x ∷ xs) (stored_node n s) (stored_again_from (n + 1) ss)

-- what is stored of nodes in preorder is read as these nodes
abbrev Follows : ℕ → Node → Type 0
Follows n (Leaf first count) = 0 < count
Follows n (Inner left right) = left ≡ n + 1

abbrev Follow : ℕ → List Node → Type 0
Follow n [] = Unit {0}
Follow n (x ∷ xs) = Follows n x × Follow (n + 1) xs

follow-append : (n m : ℕ) (xs ys : List Node) → m ≡ n + length xs → Follow n xs → Follow m ys → Follow n (xs ++ ys)
follow-append n m [] ys e a b = let same : m ≡ n = omega (arith, e) in subst (λ k. Follow k ys) same b
follow-append n m (x ∷ xs) ys e a b = (a.0, follow-append (n + 1) m xs ys (omega (arith, e)) a.1 b)

follow-spell : (at first : ℕ) (p : Plan) → AreSmall p → Follow at (spell at first p)
follow-spell at first (Few count) small = (small.0, tt)
follow-spell at first (Both l r) small = (
  refl,
  follow-append (at + 1) ((at + 1) + size l) (spell (at + 1) first l) (spell ((at + 1) + size l) (first + places_of l) r)
      (omega (arith, length-spell (at + 1) first l)) (follow-spell (at + 1) first l small.0) (follow-spell ((at + 1) + size l) (first + places_of l) r small.1),
)

plain_again : (n : ℕ) (x : Node) (box : BoxValue) → Follows n x → node_of n (stored_of x box) ≡ x
plain_again n (Leaf first count) box some =
    ap (λ b. if b then Inner (n + 1) first else Leaf first count) (ne_eqb count 0 (λ e. omega arith))
plain_again n (Inner left right) box next = ap (λ l. Inner l right) (sym next)

nodes_again : (n : ℕ) (nodes : List Node) (boxes : List BoxValue) → length boxes ≡ length nodes → Follow n nodes → nodes_from n (stored_all nodes boxes) ≡ nodes
nodes_again n [] boxes long follow = refl
nodes_again n (x ∷ xs) [] long follow = absurd (omega arith)
nodes_again n (x ∷ xs) (b ∷ bs) long follow =
    ap₂ (λ (y : Node) (ys : List Node). y ∷ ys) (plain_again n x b follow.0) (nodes_again (n + 1) xs bs (omega (arith, long)) follow.1)

bounds_of : (x : Node) (box : BoxValue) → (stored_of x box).bounds ≡ box
bounds_of (Leaf first count) box = refl
bounds_of (Inner left right) box = refl

boxes_again : (nodes : List Node) (boxes : List BoxValue) → length boxes ≡ length nodes → map (λ (s : StoredNode). s.bounds) (stored_all nodes boxes) ≡ boxes
boxes_again [] [] long = refl
boxes_again [] (b ∷ bs) long = absurd (omega arith)
boxes_again (x ∷ xs) [] long = absurd (omega arith)
boxes_again (x ∷ xs) (b ∷ bs) long = ap₂ (λ (y : BoxValue) (ys : List BoxValue). y ∷ ys) (bounds_of x b) (boxes_again xs bs (omega (arith, long)))

preorder_follows : (nodes : List Node) (places : ℕ) → IsPreorder nodes places → Follow 0 nodes
preorder_follows nodes places (IsEmpty none full) = subst (Follow 0) (sym none) tt
preorder_follows nodes places (IsRooted s) = subst (Follow 0) (sym s.nodes_are) (follow-spell 0 0 s.plan s.small)

-- so a tree that is carried is what is read
pub carried_is : (stored : List StoredNode) (order : List ℕ) (items : List (Option BoxValue)) (t : TreeValue) → IsCarried stored order items t → t ≡ read_as stored order
carried_is stored order items t h =
    let boxed = h.over.shape.boxed in
    let nodes : nodes_from 0 stored ≡ t.nodes =
    ap (nodes_from 0) h.nodes ∙ nodes_again 0 t.nodes t.boxes boxed (preorder_follows t.nodes (length t.order) h.preorder) in
    let boxes : map (λ (s : StoredNode). s.bounds) stored ≡ t.boxes = ap (map (λ (s : StoredNode). s.bounds)) h.nodes ∙ boxes_again t.nodes t.boxes boxed in
    λ i. tree_value (sym nodes i) (sym boxes i) (sym h.places i)

-- what is read is a tree over the items, in preorder
pub record IsReadable (stored : List StoredNode) (order : List ℕ) (items : List (Option BoxValue)) : Type 0 where
  pub preorder : IsPreorder (nodes_from 0 stored) (length order)
  pub over : TreeOver (read_as stored order) items

pub readable : (stored : List StoredNode) (order : List ℕ) (items : List (Option BoxValue)) (t : TreeValue) → IsCarried stored order items t → IsReadable stored order items
readable stored order items t h =
    let is = carried_is stored order items t h in
    record {
      preorder = subst (λ (u : TreeValue). IsPreorder u.nodes (length u.order)) is h.preorder;
      over = subst (λ (u : TreeValue). TreeOver u items) is h.over;
    }

pub carried_by : (stored : List StoredNode) (order : List ℕ) (items : List (Option BoxValue)) → IsReadable stored order items → IsCarried stored order items (read_as stored order)
carried_by stored order items h = record {
  nodes = sym (stored_again_from 0 stored);
  places = refl;
  preorder = h.preorder;
  over = h.over;
}

-- it has few nodes, and no number twice
pub few_stored : (stored : List StoredNode) (order : List ℕ) (items : List (Option BoxValue)) → IsReadable stored order items → length stored ≤ 2 * length items
few_stored stored order items h = omega (arith, over-few (read_as stored order) items h.over, length-nodes_from 0 stored)

pub apart_by : (stored : List StoredNode) (order : List ℕ) (items : List (Option BoxValue)) → IsReadable stored order items → AreApart (length items) order
apart_by stored order items h =
    let once = h.over.active_once in
    record {
      below = All-weaker (IsActive items) (λ p. p < length items) (λ p a. active-below items p a) order (has_items order items once).each;
      once = once-most order items once;
    }

-- nodes in preorder have the shape of a tree
pub shape_by : (nodes : List Node) (boxes : List BoxValue) (order : List ℕ) → IsPreorder nodes (length order) → length boxes ≡ length nodes
    → ((q : ℕ) → times q order ≤ 1) → IsShape (tree_value nodes boxes order)
shape_by nodes boxes order (IsEmpty none empty) boxed once = (median nodes 0 none (omega arith)).shape boxes order empty boxed once
shape_by nodes boxes order (IsRooted s) boxed once = shape_of_plan nodes boxes order s.plan s.nodes_are s.full s.small boxed once

pub boxed_by : (stored : List StoredNode) → length (map (λ (s : StoredNode). s.bounds) stored) ≡ length (nodes_from 0 stored)
boxed_by stored = length-map stored (λ (s : StoredNode). s.bounds) ∙ sym (length-nodes_from 0 stored)
