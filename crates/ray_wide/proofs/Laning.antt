-- The lanes of wide nodes, made anew.
use Rattle.std.proofs.Common.{◌≡◌, ◌∙◌, ◌+◌, ◌<◌, ◌≤◌, ◌^◌, ◌-◌, ℕ, zero, suc, pos, negsuc, List, [], ◌∷◌, length, map, get_or, refl, sym, ap, subst, arith, cond, true, nat_lt}
use Rattle.std.specs.List.{All}
use Rattle.std.proofs.lemmas.Bool.Decides.{nat_tests}
use Rattle.std.proofs.lemmas.List.{get_or-map, get_or_default, length-map}
use Rattle.std.proofs.lemmas.List.Elements.{All-get_or, All-from_get_or}
use Rattle.ray_geom.specs.Boxes.{BoxValue, box_value}
use Rattle.ray_lanes.specs.Overlap.{of_box}
use Rattle.ray_lanes.specs.Padding.{IsPadded}
use Rattle.ray_tree.specs.Trees.{TreeValue, box_at, IsShape}
use Rattle.ray_wide.specs.declared.node.WideRef.{WideRef}
use Rattle.ray_wide.specs.declared.node.WideRef.TheVariants.{Leaf, Inner, Empty}
use Rattle.ray_wide.specs.declared.node.WideNode.{WideNode}
use Rattle.ray_wide.specs.declared.fill.Lane.{Lane}
use Rattle.ray_wide.specs.Subtrees.{IsInnerNode}
use Rattle.ray_wide.specs.Wides.{wide_value, child_at, children_in, lanes_in, top_at, lane_box, IsChild, IsNodeOver, IsLane, IsCollapsed, WideOver, IsSameButLanes}
use Rattle.ray_tree.specs.Trees.{no_box}
use Rattle.ray_wide.specs.Lanes.{padded_lane, lane_of, lane_at, lane_for, lanes_for, lanes_by, filled}

-- a lane of several beside each other
abbrev box_of_lane : Lane → BoxValue
box_of_lane l = box_value (record { x = l.lo_x; y = l.lo_y; z = l.lo_z }) (record { x = l.hi_x; y = l.hi_y; z = l.hi_z })

lane-beside : (lanes : List Lane) (k : ℕ) → k < length lanes → lane_box (lanes_by lanes) k ≡ box_of_lane (get_or lanes k padded_lane)
lane-beside lanes k small = λ i. box_value
    (record {
      x = get_or-map (λ (l : Lane). l.lo_x) lanes k padded_lane (pos 0) small i;
      y = get_or-map (λ (l : Lane). l.lo_y) lanes k padded_lane (pos 0) small i;
      z = get_or-map (λ (l : Lane). l.lo_z) lanes k padded_lane (pos 0) small i;
    })
    (record {
      x = get_or-map (λ (l : Lane). l.hi_x) lanes k padded_lane (pos 0) small i;
      y = get_or-map (λ (l : Lane). l.hi_y) lanes k padded_lane (pos 0) small i;
      z = get_or-map (λ (l : Lane). l.hi_z) lanes k padded_lane (pos 0) small i;
    })

padded-beside : (lanes : List Lane) (k : ℕ) → k < length lanes → get_or lanes k padded_lane ≡ padded_lane → IsPadded (lanes_by lanes) k
padded-beside lanes k small is = record { begins = begins; ends = ends }
  where
    begins : (axis : ℕ) → axis < 3 → of_box (lanes_by lanes).lo axis k ≡ pos (2 ^ 31 - 1)
    begins zero h = get_or-map (λ (l : Lane). l.lo_x) lanes k padded_lane (pos 0) small ∙ ap (λ (l : Lane). l.lo_x) is
    begins (suc zero) h = get_or-map (λ (l : Lane). l.lo_y) lanes k padded_lane (pos 0) small ∙ ap (λ (l : Lane). l.lo_y) is
    begins (suc (suc zero)) h = get_or-map (λ (l : Lane). l.lo_z) lanes k padded_lane (pos 0) small ∙ ap (λ (l : Lane). l.lo_z) is
    begins (suc (suc (suc axis))) h = absurd (omega arith)

    ends : (axis : ℕ) → axis < 3 → of_box (lanes_by lanes).hi axis k ≡ negsuc (2 ^ 31 - 1)
    ends zero h = get_or-map (λ (l : Lane). l.hi_x) lanes k padded_lane (pos 0) small ∙ ap (λ (l : Lane). l.hi_x) is
    ends (suc zero) h = get_or-map (λ (l : Lane). l.hi_y) lanes k padded_lane (pos 0) small ∙ ap (λ (l : Lane). l.hi_y) is
    ends (suc (suc zero)) h = get_or-map (λ (l : Lane). l.hi_z) lanes k padded_lane (pos 0) small ∙ ap (λ (l : Lane). l.hi_z) is
    ends (suc (suc (suc axis))) h = absurd (omega arith)

-- the lane of a node there is
small-test : (n many : ℕ) → n < many → nat_lt n many ≡ true
small-test n many h = grind (arith, nat_tests)

lane-is : (tree : TreeValue) (n : ℕ) → n < length tree.nodes → lane_at tree n ≡ lane_of (box_at tree no_box n)
unfolding lane_at
lane-is tree n small = ap (λ b. cond b (lane_of (box_at tree no_box n)) padded_lane) (small-test n (length tree.nodes) small)

box-is : (tree : TreeValue) (d : BoxValue) (n : ℕ) → length tree.boxes ≡ length tree.nodes → n < length tree.nodes → box_of_lane (lane_at tree n) ≡ box_at tree d n
box-is tree d n boxed small = ap box_of_lane (lane-is tree n small) ∙ get_or_default tree.boxes n no_box d (omega arith)

-- the lane of each child
is-lane : (tree : TreeValue) (tops : List ℕ) (from : ℕ) (children : List WideRef) (k : ℕ) (c : WideRef) → length tree.boxes ≡ length tree.nodes
    → All (IsInnerNode tree.nodes) tops → k < length children → child_at children k ≡ c → IsChild tree.nodes tops from c
    → IsLane tree tops (lanes_by (lanes_for tree tops children)) k c
is-lane tree tops from children k c boxed inner small is child = by c is child
  where
    there : k < length (lanes_for tree tops children)
    there = omega (arith, length-map children (lane_for tree tops))

    at : (c : WideRef) → child_at children k ≡ c → get_or (lanes_for tree tops children) k padded_lane ≡ lane_for tree tops c
    at c e = get_or-map (lane_for tree tops) children k Empty padded_lane small ∙ ap (lane_for tree tops) e

    by : (c : WideRef) → child_at children k ≡ c → IsChild tree.nodes tops from c → IsLane tree tops (lanes_by (lanes_for tree tops children)) k c
    by Empty e h = padded-beside (lanes_for tree tops children) k there (at Empty e)
    by (Leaf leaf) e h = λ d.
        lane-beside (lanes_for tree tops children) k there ∙ ap box_of_lane (at (Leaf leaf) e) ∙ box-is tree d leaf.node boxed h.node.small
    by (Inner w) e h = λ d.
        lane-beside (lanes_for tree tops children) k there ∙ ap box_of_lane (at (Inner w) e)
        ∙ box-is tree d (top_at tops w) boxed (All-get_or (IsInnerNode tree.nodes) tops w 0 h.1 inner).small

-- the nodes made anew have the same children
pub same-children : (tree : TreeValue) (tops : List ℕ) (nodes : List WideNode)
    → map (λ (n : WideNode). n.children) (map (filled tree tops) nodes) ≡ map (λ (n : WideNode). n.children) nodes
same-children tree tops [] = refl
same-children tree tops (n ∷ ns) = ap (λ t. n.children ∷ t) (same-children tree tops ns)

lanes-are : (tree : TreeValue) (tops : List ℕ) (nodes : List WideNode) (w : ℕ) → w < length nodes
    → lanes_in (map (filled tree tops) nodes) w ≡ lanes_by (lanes_for tree tops (children_in nodes w))
lanes-are tree tops [] w small = absurd (omega arith)
lanes-are tree tops (n ∷ ns) zero small = refl
lanes-are tree tops (n ∷ ns) (suc w) small = lanes-are tree tops ns w (omega arith)

pub refitted : (tree : TreeValue) (root : WideRef) (tops : List ℕ) (nodes nodes1 : List WideNode) → IsShape tree
    → IsCollapsed (wide_value root nodes tops) tree.nodes → nodes1 ≡ map (filled tree tops) nodes → WideOver (wide_value root nodes1 tops) tree
refitted tree root tops nodes nodes1 shape over is =
    subst (λ ns. WideOver (wide_value root ns tops) tree) (sym is) (record { collapsed = collapsed; lanes = lanes })
  where
    anew : List WideNode
    anew = map (filled tree tops) nodes

    long : length anew ≡ length nodes
    long = length-map nodes (filled tree tops)

    below : (w : ℕ) → w < length anew → w < length nodes
    below w h = omega (arith, h, long)

    same : (w : ℕ) → children_in anew w ≡ children_in nodes w
    same w = ap (λ cs. get_or cs w []) (same-children tree tops nodes)

    few : length anew ≤ length tree.nodes
    few = let f : length nodes ≤ length tree.nodes = over.few in omega (arith, f, long)

    topped : length tops ≡ length nodes
    topped = over.topped

    collapsed : IsCollapsed (wide_value root anew tops) tree.nodes
    collapsed = record {
      root = over.root;
      topped = over.topped ∙ sym long;
      few = few;
      each = λ w small. subst (IsNodeOver tree.nodes tops w) (sym (same w)) (over.each w (below w small));
    }

    inner : All (IsInnerNode tree.nodes) tops
    inner = All-from_get_or (IsInnerNode tree.nodes) tops 0 (λ w small. (over.each w (omega (arith, topped))).top)

    lanes : (w k : ℕ) → w < length anew → k < 8 → IsLane tree tops (lanes_in anew w) k (child_at (children_in anew w) k)
    lanes w k small lane =
        let node = over.each w (below w small) in
        let cs = children_in nodes w in
        let eight = node.eight in
        let inside : k < length cs = omega arith in
        subst (λ ls. IsLane tree tops ls k (child_at (children_in anew w) k)) (sym (lanes-are tree tops nodes w (below w small)))
        (subst (λ xs. IsLane tree tops (lanes_by (lanes_for tree tops cs)) k (child_at xs k)) (sym (same w))
        (is-lane tree tops (w + 1) cs k (child_at cs k) shape.boxed inner inside refl
        (All-get_or (IsChild tree.nodes tops (w + 1)) cs k Empty inside node.each)))

pub same_but_lanes : (tree : TreeValue) (root : WideRef) (tops : List ℕ) (nodes nodes1 : List WideNode) → nodes1 ≡ map (filled tree tops) nodes
    → IsSameButLanes (wide_value root nodes tops) (wide_value root nodes1 tops)
same_but_lanes tree root tops nodes nodes1 is =
    subst (λ ns. IsSameButLanes (wide_value root nodes tops) (wide_value root ns tops)) (sym is)
    (record { root = refl; tops = refl; children = same-children tree tops nodes })
