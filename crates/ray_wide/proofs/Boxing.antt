-- The boxes on a way down a wide tree are one in the other.
use Rattle.std.proofs.Common.{◌≡◌, ◌∙◌, ◌+◌, ◌<◌, ◌≤◌, ◌++◌, ◌⊎◌, inl, inr, ℕ, zero, suc, true, Option, Some, List, [], ◌∷◌, length, refl, sym, ap, ap₂, subst, arith, append_assoc, append-nil, true≢false}
use Rattle.std.specs.List.{All}
use Rattle.std.proofs.lemmas.Bool.Decides.{nat_tests}
use Rattle.std.proofs.lemmas.List.Elements.{All-get_or}
use Rattle.std.proofs.lemmas.List.Sums.{sum_by-cons, sum_by-append}
use Rattle.ray_geom.specs.Boxes.{BoxValue, IsPart}
use Rattle.ray_tree.specs.declared.node.Node.{Node}
use Rattle.ray_tree.specs.declared.node.Node.TheVariants.{Leaf as LeafNode, Inner as InnerNode}
use Rattle.ray_tree.specs.Shapes.{Shape, Gone, Tip, Fork, node_at, grow, shape_in, inside, visits, holds, tips}
use Rattle.ray_tree.specs.Trees.{TreeValue, IsShape, TreeOver, shape_at, times, box_at, item_at, item_box, boxes_in, boxes_below}
use Rattle.ray_tree.proofs.Under.{shape_suc, shape_zero, found, stable}
use Rattle.ray_tree.proofs.NodeLaws.{whole_at}
use Rattle.ray_tree.proofs.Nested.{are_around}
use Rattle.ray_tree.proofs.LeastLists.{All-first, All-second}
use Rattle.ray_tree.proofs.Counting.{one}
use Rattle.ray_lanes.specs.declared.lanes.Lanes8.{Lanes8}
use Rattle.ray_wide.specs.declared.node.WideRef.{WideRef}
use Rattle.ray_wide.specs.declared.node.WideRef.TheVariants.{Leaf, Inner, Empty}
use Rattle.ray_wide.specs.Subtrees.{leaves_at}
use Rattle.ray_wide.specs.Wides.{WideValue, IsCollapsed, WideOver, IsChild, IsLane, leaves_for, leaves_below, children_in, lanes_in, child_at, is_there, top_at, lane_box}
use Rattle.ray_wide.specs.Ways.{leaves_from, AreInLanes, AreInParents}
use Rattle.ray_wide.proofs.Reaching.{child_reached}

-- the node for which a child stands, which is there
abbrev pub node_for : List ℕ → WideRef → ℕ
node_for tops Empty = 0
node_for tops (Leaf leaf) = leaf.node
node_for tops (Inner w) = top_at tops w

-- what a child is, where there is one
record IsBoxed (tree : TreeValue) (tops : List ℕ) (lanes : Lanes8) (k : ℕ) (c : WideRef) : Type 0 where
  small : node_for tops c < length tree.nodes
  leaves : leaves_for tree.nodes tops c ≡ leaves_at tree.nodes (node_for tops c)
  lane : (d : BoxValue) → lane_box lanes k ≡ box_at tree d (node_for tops c)

is-boxed : (tree : TreeValue) (wide : WideValue) (lanes : Lanes8) (k from : ℕ) (c : WideRef) → IsCollapsed wide tree.nodes
    → IsChild tree.nodes wide.tops from c → IsLane tree wide.tops lanes k c → is_there c ≡ true → IsBoxed tree wide.tops lanes k c
is-boxed tree wide lanes k from Empty over child lane there = absurd (true≢false (sym there))
is-boxed tree wide lanes k from (Leaf leaf) over child lane there = record { small = child.node.small; leaves = refl; lane = lane }
is-boxed tree wide lanes k from (Inner w) over child lane there =
    let topped = over.topped in
    let within = child.1 in
    record { small = (over.each w (omega arith)).top.small; leaves = refl; lane = lane }

boxed-at : (tree : TreeValue) (wide : WideValue) → WideOver wide tree → (w k : ℕ) → w < length wide.nodes → k < 8
    → is_there (child_at (children_in wide.nodes w) k) ≡ true
    → IsBoxed tree wide.tops (lanes_in wide.nodes w) k (child_at (children_in wide.nodes w) k)
boxed-at tree wide over w k small few there =
    let node = over.collapsed.each w small in
    let eight = node.eight in
    is-boxed tree wide (lanes_in wide.nodes w) k (w + 1) (child_at (children_in wide.nodes w) k) over.collapsed
    (All-get_or (IsChild tree.nodes wide.tops (w + 1)) (children_in wide.nodes w) k Empty (omega arith) node.each)
    (over.lanes w k small few) there

-- a leaf is visited
is_node : (n m : ℕ) → 0 < one n m → 0 < inside n m 1
is_node n m h = grind (arith, nat_tests)

either : (a b : ℕ) → 0 < a + b → (0 < a) ⊎ (0 < b)
either zero b h = inr (omega arith)
either (suc a) b h = inl (omega arith)

are-visited : (s : Shape) (n : ℕ) → 0 < times n (tips s) → 0 < visits n s
are-visited Gone n h = absurd (omega arith)
are-visited (Tip node first count) n h = is_node n node (omega (arith, h, sum_by-cons (one n) node []))
are-visited (Fork node l r) n h =
    elim (either (times n (tips l)) (times n (tips r)) (omega (arith, h, sum_by-append (one n) (tips l) (tips r)))) [
      | inl a ↦ omega (arith, are-visited l n a)
      | inr b ↦ omega (arith, are-visited r n b)
    ]

-- its places are among those of a subtree that has it
held-below : (tree : TreeValue) → IsShape tree → (t n at : ℕ) → t < length tree.nodes → 0 < times n (leaves_at tree.nodes t)
    → holds at (shape_at tree n) ≤ holds at (shape_at tree t)
held-below tree shape t n at small there =
    let w = whole_at tree shape t small in
    let p = found tree.nodes (length tree.nodes) t n w.ends (are-visited (shape_at tree t) n there) in
    omega (arith, ap (holds at) (stable tree.nodes p.depth (length tree.nodes) n p.within p.ends), p.holds_fewer at)

-- the item of a leaf is in the box of a child from which a way leads there
there-is : (nodes : List Node) (tops : List ℕ) (n : ℕ) (c : WideRef) → 0 < times n (leaves_for nodes tops c) → is_there c ≡ true
there-is nodes tops n Empty h = absurd (omega arith)
there-is nodes tops n (Leaf m) h = refl
there-is nodes tops n (Inner w) h = refl

in-lane : (tree : TreeValue) (wide : WideValue) (items : List (Option BoxValue)) → TreeOver tree items → WideOver wide tree → (w k n at : ℕ) (box : BoxValue)
    → w < length wide.nodes → k < 8 → 0 < times n (leaves_from wide (child_at (children_in wide.nodes w) k)) → 0 < holds at (shape_at tree n)
    → item_box items (item_at tree at) ≡ Some box → IsPart box (lane_box (lanes_in wide.nodes w) k)
in-lane tree wide items tree_over over w k n at box small few way held is =
    let c = child_at (children_in wide.nodes w) k in
    let node = over.collapsed.each w small in
    let eight = node.eight in
    let child = All-get_or (IsChild tree.nodes wide.tops (w + 1)) (children_in wide.nodes w) k Empty (omega arith) node.each in
    let same = child_reached tree wide tree_over.shape over.collapsed (w + 1) c child in
    let way1 : 0 < times n (leaves_for tree.nodes wide.tops c) = subst (λ l. 0 < times n l) same way in
    let boxed = boxed-at tree wide over w k small few (there-is tree.nodes wide.tops n c way1) in
    let t = node_for wide.tops c in
    let more = held-below tree tree_over.shape t n at boxed.small (subst (λ l. 0 < times n l) boxed.leaves way1) in
    subst (IsPart box) (sym (boxed.lane box)) ((are_around tree items tree_over).each t at box box boxed.small (omega (arith, more, held)) is)

pub are_in_lanes : (tree : TreeValue) (wide : WideValue) (items : List (Option BoxValue)) → TreeOver tree items → WideOver wide tree → AreInLanes wide tree items
are_in_lanes tree wide items tree_over over = record {
  each = λ w k n at box small few way held is. in-lane tree wide items tree_over over w k n at box small few way held is;
}

-- the boxes below a node are those of its leaves
leaf_boxes : List (Option BoxValue) → List ℕ → Node → List BoxValue
leaf_boxes items order (LeafNode first count) = boxes_in items order first count
leaf_boxes items order (InnerNode l r) = []

boxes_by : List (Option BoxValue) → List ℕ → List Node → List ℕ → List BoxValue
boxes_by items order nodes [] = []
boxes_by items order nodes (n ∷ ns) = leaf_boxes items order (node_at nodes n) ++ boxes_by items order nodes ns

by-append : (items : List (Option BoxValue)) (order : List ℕ) (nodes : List Node) (ns ms : List ℕ)
    → boxes_by items order nodes (ns ++ ms) ≡ boxes_by items order nodes ns ++ boxes_by items order nodes ms
unfolding boxes_by
by-append items order nodes [] ms = refl
by-append items order nodes (n ∷ ns) ms =
    let here = leaf_boxes items order (node_at nodes n) in
    ap (λ l. here ++ l) (by-append items order nodes ns ms) ∙ sym (append_assoc here (boxes_by items order nodes ns) (boxes_by items order nodes ms))

by-grown : (items : List (Option BoxValue)) (order : List ℕ) (nodes : List Node) (k m : ℕ) (node : Node) → node_at nodes m ≡ node
    → ((c : ℕ) → boxes_below items order (shape_in k nodes c) ≡ boxes_by items order nodes (tips (shape_in k nodes c)))
    → boxes_below items order (grow (shape_in k nodes) m node) ≡ boxes_by items order nodes (tips (grow (shape_in k nodes) m node))
unfolding boxes_by leaf_boxes
by-grown items order nodes k m (LeafNode first count) is deeper =
    sym (append-nil (boxes_in items order first count)) ∙ ap (λ n. leaf_boxes items order n ++ []) (sym is)
by-grown items order nodes k m (InnerNode l r) is deeper =
    ap₂ (λ a b. a ++ b) (deeper l) (deeper r) ∙ sym (by-append items order nodes (tips (shape_in k nodes l)) (tips (shape_in k nodes r)))

by-tips : (items : List (Option BoxValue)) (order : List ℕ) (nodes : List Node) (k m : ℕ)
    → boxes_below items order (shape_in k nodes m) ≡ boxes_by items order nodes (tips (shape_in k nodes m))
unfolding boxes_by
by-tips items order nodes zero m =
    ap (boxes_below items order) (shape_zero nodes m) ∙ sym (ap (λ (s : Shape). boxes_by items order nodes (tips s)) (shape_zero nodes m))
by-tips items order nodes (suc k) m =
    ap (boxes_below items order) (shape_suc k nodes m)
    ∙ by-grown items order nodes k m (node_at nodes m) refl (λ c. by-tips items order nodes k c)
    ∙ sym (ap (λ (s : Shape). boxes_by items order nodes (tips s)) (shape_suc k nodes m))

-- what holds of the boxes below all children holds of those below each
of-child : (P : BoxValue → Type 0) (items : List (Option BoxValue)) (order : List ℕ) (nodes : List Node) (tops : List ℕ) (cs : List WideRef) (j : ℕ) → j < length cs
    → All P (boxes_by items order nodes (leaves_below nodes tops cs)) → All P (boxes_by items order nodes (leaves_for nodes tops (child_at cs j)))
of-child P items order nodes tops [] j small all = absurd (omega arith)
of-child P items order nodes tops (c ∷ cs) zero small all =
    All-first P (boxes_by items order nodes (leaves_for nodes tops c)) (boxes_by items order nodes (leaves_below nodes tops cs))
    (subst (All P) (by-append items order nodes (leaves_for nodes tops c) (leaves_below nodes tops cs)) all)
of-child P items order nodes tops (c ∷ cs) (suc j) small all =
    of-child P items order nodes tops cs j (omega arith)
    (All-second P (boxes_by items order nodes (leaves_for nodes tops c)) (boxes_by items order nodes (leaves_below nodes tops cs))
    (subst (All P) (by-append items order nodes (leaves_for nodes tops c) (leaves_below nodes tops cs)) all))

-- the box of a child of a wide node is in that of the node's subtree
in-top : (tree : TreeValue) (wide : WideValue) (items : List (Option BoxValue)) → TreeOver tree items → WideOver wide tree → (v j : ℕ) (d : BoxValue)
    → v < length wide.nodes → j < 8 → is_there (child_at (children_in wide.nodes v) j) ≡ true
    → IsPart (lane_box (lanes_in wide.nodes v) j) (box_at tree d (top_at wide.tops v))
in-top tree wide items tree_over over v j d small few there =
    let nodes = tree.nodes in
    let order = tree.order in
    let cs = children_in wide.nodes v in
    let node = over.collapsed.each v small in
    let eight = node.eight in
    let boxed = boxed-at tree wide over v j small few there in
    let t = node_for wide.tops (child_at cs j) in
    let top = top_at wide.tops v in
    let outer = box_at tree d top in
    let P : BoxValue → Type 0 = λ b. IsPart b outer in
    let all : All P (boxes_by items order nodes (leaves_at nodes top)) =
    subst (All P) (by-tips items order nodes (length nodes) top) (tree_over.least top d node.top.small).holds in
    let part : All P (boxes_by items order nodes (leaves_for nodes wide.tops (child_at cs j))) =
    of-child P items order nodes wide.tops cs j (omega arith) (subst (λ l. All P (boxes_by items order nodes l)) (sym node.whole) all) in
    let below : All P (boxes_below items order (shape_at tree t)) =
    subst (All P) (sym (by-tips items order nodes (length nodes) t)) (subst (λ l. All P (boxes_by items order nodes l)) boxed.leaves part) in
    subst P (sym (boxed.lane d)) ((tree_over.least t d boxed.small).least outer below)

in-parent : (tree : TreeValue) (wide : WideValue) (items : List (Option BoxValue)) → TreeOver tree items → WideOver wide tree → (w k v j : ℕ)
    → w < length wide.nodes → k < 8 → child_at (children_in wide.nodes w) k ≡ Inner v → j < 8
    → is_there (child_at (children_in wide.nodes v) j) ≡ true
    → IsPart (lane_box (lanes_in wide.nodes v) j) (lane_box (lanes_in wide.nodes w) k)
in-parent tree wide items tree_over over w k v j small few is lane there =
    let node = over.collapsed.each w small in
    let eight = node.eight in
    let topped = over.collapsed.topped in
    let child : IsChild tree.nodes wide.tops (w + 1) (Inner v) =
    subst (IsChild tree.nodes wide.tops (w + 1)) is (All-get_or (IsChild tree.nodes wide.tops (w + 1)) (children_in wide.nodes w) k Empty (omega arith) node.each) in
    let within = child.1 in
    let mine = lane_box (lanes_in wide.nodes v) j in
    let outer : IsLane tree wide.tops (lanes_in wide.nodes w) k (Inner v) = subst (IsLane tree wide.tops (lanes_in wide.nodes w) k) is (over.lanes w k small few) in
    subst (IsPart mine) (sym (outer mine)) (in-top tree wide items tree_over over v j mine (omega arith) lane there)

pub are_in_parents : (tree : TreeValue) (wide : WideValue) (items : List (Option BoxValue)) → TreeOver tree items → WideOver wide tree → AreInParents wide tree
are_in_parents tree wide items tree_over over = record {
  top = λ v j d small few there. in-top tree wide items tree_over over v j d small few there;
  each = λ w k v j small few is lane there. in-parent tree wide items tree_over over w k v j small few is lane there;
}
