-- The laws of a walk's parts that are about boxes: what is found at a node is held by its box, and a node's box nests those of the nodes below it.
use Rattle.std.proofs.Common.{◌≡◌, refl, sym, subst, ℕ, ◌<◌, Option, Some, None, List, [], ◌∷◌, All, length, inl, inr, arith}
use Rattle.std.proofs.lemmas.List.Elements.{All-nil, All-cons}
use Rattle.ray_geom.specs.declared.ratio.Ratio.{Ratio}
use Rattle.ray_tree.specs.declared.node.Node.{Node}
use Rattle.ray_tree.specs.declared.node.Node.TheVariants as nodes
use Rattle.ray_tree.specs.Shapes.{node_at}
use Rattle.ray_tree.specs.Trees.{TreeValue}
use Rattle.ray_nearest.specs.declared.node.WalkNode.{WalkNode}
use Rattle.ray_nearest.specs.declared.node.WalkNode.TheVariants.{TopInner, TopLeaf, Inner, Leaf}
use Rattle.ray_nearest.specs.Parts.{Nests}
use Rattle.ray_query.specs.Limits.{Holds}
use Rattle.ray_query.specs.Limits.{IsInOrder}
use Rattle.ray_walk.specs.Traced.{Traced, placement_at, top_ref_by, top_ref, ref_by, ref, root_in, roots_by, roots_of, top_children, children, children_of, below, finds, entry, top_entry, bottom_entry, IsNode, IsTopNode, IsBottomNode}
use Rattle.ray_candidates.specs.Placements.{Placement, items_at}
use Rattle.ray_candidates.specs.Placements.{IsWellPlaced}
use Rattle.ray_walk.specs.Sound.{IsWalkable}
use Rattle.ray_query.proofs.Members.{Member, Each-from_members, All-from_Each}
use Rattle.ray_walk.proofs.WellPlaced.{well_placed}
use Rattle.ray_candidates.proofs.Aligned.{are_aligned}
use Rattle.ray_candidates.proofs.LeafItems.{IsFrom, Member-flat_map}
use Rattle.ray_walk.proofs.LeafHolds.{ArePlaced, holds_leaf, in_order_leaf}
use Rattle.ray_walk.proofs.Seam.{nests_root}
use Rattle.ray_walk.proofs.InnerNests.{AreNestedTop, AreNestedBottom, nests_top, nests_bottom}

-- ---- what is found

pub are_placed : (s : Traced) → IsWalkable s → ArePlaced s
are_placed s w = record {
  well = λ i p is. well_placed s i p w.top w.standing w.bottoms is;
  aligned = λ i p is. are_aligned p.bottom.geometries;
}

pub holds_at : (s : Traced) → IsWalkable s → (n : WalkNode) → IsNode s n → All (Holds (entry s n)) (finds s n)
holds_at s w (TopInner n) node = All-nil (Holds (top_entry s n))
holds_at s w (TopLeaf n) node = All-nil (Holds (top_entry s n))
holds_at s w (Inner i n) node = All-nil (Holds (bottom_entry s i n))
holds_at s w (Leaf i n) node = holds_leaf s i n w.ray (are_placed s w) node

pub in_order_at : (s : Traced) → IsWalkable s → (n : WalkNode) → IsNode s n → All IsInOrder (finds s n)
in_order_at s w (TopInner n) node = All-nil IsInOrder
in_order_at s w (TopLeaf n) node = All-nil IsInOrder
in_order_at s w (Inner i n) node = All-nil IsInOrder
in_order_at s w (Leaf i n) node = in_order_leaf s i n w.ray (are_placed s w) node

-- ---- what is below

-- the entry of a node by its number
entry_top_by : (s : Traced) (n : ℕ) (node : Node) → entry s (top_ref_by n node) ≡ top_entry s n
entry_top_by s n (nodes.Leaf first count) = refl
entry_top_by s n (nodes.Inner left right) = refl

pub entry_top_ref : (s : Traced) (tree : TreeValue) (n : ℕ) → entry s (top_ref tree n) ≡ top_entry s n
entry_top_ref s tree n = entry_top_by s n (node_at tree.nodes n)

entry_by : (s : Traced) (i n : ℕ) (node : Node) → entry s (ref_by i n node) ≡ bottom_entry s i n
entry_by s i n (nodes.Leaf first count) = refl
entry_by s i n (nodes.Inner left right) = refl

pub entry_ref : (s : Traced) (i : ℕ) (tree : TreeValue) (n : ℕ) → entry s (ref i tree n) ≡ bottom_entry s i n
entry_ref s i tree n = entry_by s i n (node_at tree.nodes n)

abbrev NestsIn : Traced → Option Ratio → WalkNode → Type 0
NestsIn s outer c = Nests outer (entry s c)

below_top : (s : Traced) → IsWalkable s → (n : ℕ) → IsTopNode s n → All (NestsIn s (top_entry s n)) (top_children s.top.tree (node_at s.top.tree.nodes n))
below_top s w n node = by (node_at s.top.tree.nodes n) refl
  where
    by : (x : Node) → node_at s.top.tree.nodes n ≡ x → All (NestsIn s (top_entry s n)) (top_children s.top.tree x)
    by (nodes.Leaf first count) at = All-nil (NestsIn s (top_entry s n))
    by (nodes.Inner l r) at =
        let both : AreNestedTop s n l r = nests_top s n l r w.over node.there at in
        All-cons (NestsIn s (top_entry s n)) (top_ref s.top.tree l) (top_ref s.top.tree r ∷ [])
        (subst (Nests (top_entry s n)) (sym (entry_top_ref s s.top.tree l)) both.left)
        (All-cons (NestsIn s (top_entry s n)) (top_ref s.top.tree r) []
        (subst (Nests (top_entry s n)) (sym (entry_top_ref s s.top.tree r)) both.right)
        (All-nil (NestsIn s (top_entry s n))))

below_bottom : (s : Traced) → IsWalkable s → (i n : ℕ) → IsBottomNode s i n → All (NestsIn s (bottom_entry s i n)) (children_of i n (placement_at s i))
below_bottom s w i n node =
    subst (λ (o : Option Placement). All (NestsIn s (bottom_entry s i n)) (children_of i n o)) (sym node.is_it)
    (by (node_at node.placement.bottom.tree.nodes n) refl)
  where
    by : (x : Node) → node_at node.placement.bottom.tree.nodes n ≡ x → All (NestsIn s (bottom_entry s i n)) (children i node.placement.bottom.tree x)
    by (nodes.Leaf first count) at = All-nil (NestsIn s (bottom_entry s i n))
    by (nodes.Inner l r) at =
        let tree = node.placement.bottom.tree in
        let well : IsWellPlaced node.placement = well_placed s i node.placement w.top w.standing w.bottoms node.is_it in
        let both : AreNestedBottom s i n l r = nests_bottom s i n l r node.placement node.is_it well.sound node.there at in
        All-cons (NestsIn s (bottom_entry s i n)) (ref i tree l) (ref i tree r ∷ [])
        (subst (Nests (bottom_entry s i n)) (sym (entry_ref s i tree l)) both.left)
        (All-cons (NestsIn s (bottom_entry s i n)) (ref i tree r) []
        (subst (Nests (bottom_entry s i n)) (sym (entry_ref s i tree r)) both.right)
        (All-nil (NestsIn s (bottom_entry s i n))))

-- the root of a placement
root_nests : (s : Traced) → IsWalkable s → (n i : ℕ) → IsTopNode s n → Member i (items_at s.top.tree n) → (c : WalkNode)
    → (o : Option Placement) → placement_at s i ≡ o → Member c (roots_by i o) → NestsIn s (top_entry s n) c
root_nests s w n i node m c None at here = absurd here
root_nests s w n i node m c (Some p) at here = by p.bottom.tree.nodes refl here
  where
    by : (ns : List Node) → p.bottom.tree.nodes ≡ ns → Member c (root_in ns (ref i p.bottom.tree 0)) → NestsIn s (top_entry s n) c
    by [] is none = absurd none
    by (x ∷ xs) is (inl same) =
        subst (NestsIn s (top_entry s n)) same
        (subst (Nests (top_entry s n)) (sym (entry_ref s i p.bottom.tree 0))
        (nests_root s n i p w node.there m at (subst (λ (l : List Node). 0 < length l) (sym is) (omega arith))))
    by (x ∷ xs) is (inr none) = absurd none

below_leaf : (s : Traced) → IsWalkable s → (n : ℕ) → IsTopNode s n → All (NestsIn s (top_entry s n)) (below s (TopLeaf n))
below_leaf s w n node =
    All-from_Each (NestsIn s (top_entry s n)) (below s (TopLeaf n))
    (Each-from_members (NestsIn s (top_entry s n)) (below s (TopLeaf n)) (λ c m.
    let from : IsFrom (roots_of s) (items_at s.top.tree n) c = Member-flat_map (roots_of s) (items_at s.top.tree n) c m in
    root_nests s w n from.at node from.from c (placement_at s from.at) refl from.given))

pub nests_below : (s : Traced) → IsWalkable s → (n : WalkNode) → IsNode s n → All (λ c. Nests (entry s n) (entry s c)) (below s n)
nests_below s w (TopInner n) node = below_top s w n node
nests_below s w (TopLeaf n) node = below_leaf s w n node
nests_below s w (Inner i n) node = below_bottom s w i n node
nests_below s w (Leaf i n) node = All-nil (NestsIn s (bottom_entry s i n))
