-- The walk of what a ray is traced through: its parts keep the laws of parts, and what it answers is the answer of the trace.
use Rattle.std.proofs.Common.{ℕ, ◌≡◌, ◌+◌, ◌^◌, ◌++◌, ◌<◌, ◌≤◌, Option, Some, None, List, [], ◌∷◌, length, refl, sym, ap, subst, arith}
use Rattle.std.specs.Prelude.{All}
use Rattle.std.specs.List.{flat_map}
use Rattle.std.proofs.lemmas.List.Elements.{All-nil, All-cons, All-tail}
use Rattle.std.proofs.lemmas.List.Concat.{flat_map-cons}
use Rattle.ray_tree.specs.declared.node.Node.{Node}
use Rattle.ray_tree.specs.declared.node.Node.TheVariants as nodes
use Rattle.ray_tree.specs.Shapes.{Shape, Gone, Tip, Fork, gone, node_at}
use Rattle.ray_tree.specs.Trees.{TreeOver, shape_at}
use Rattle.ray_tree.specs.Waits.{weight}
use Rattle.ray_tree.proofs.NodeLaws.{at_inner}
use Rattle.ray_tree.proofs.Sizes.{over-few, size-is, size_of}
use Rattle.ray_geometries.specs.Contents.{total_of}
use Rattle.ray_bottom.specs.Trees as bottoms
use Rattle.ray_bottom.proofs.Places.{items-few}
use Rattle.ray_nearest.specs.declared.node.WalkNode.{WalkNode}
use Rattle.ray_nearest.specs.declared.node.WalkNode.TheVariants.{TopInner, TopLeaf, Inner, Leaf}
use Rattle.ray_nearest.specs.Parts.{AreParts, IsBelow, Nests}
use Rattle.ray_nearest.specs.Scene.{IsQuiet}
use Rattle.ray_walk.specs.Sound.{IsWalkable}
use Rattle.ray_walk.specs.Traced.{Traced, IsNode, below, children, children_of, entry, parts_of, placement_at, rank, rank_of_placement, ref, ref_by, root_in, roots_by, roots_of, top_children, top_ref, top_ref_by}
use Rattle.ray_candidates.specs.Placements.{Placement, items_at}
use Rattle.ray_walk.proofs.WellPlaced.{is_placement}
use Rattle.ray_walk.proofs.NodesHold.{holds_at, in_order_at, nests_below}

-- ---- ranks

weight-size : (t : Shape) → gone t ≡ 0 → weight t ≡ size_of t
weight-size Gone ends = absurd (omega (arith, ends))
weight-size (Tip node first count) ends = refl
weight-size (Fork node l r) ends =
    let left = weight-size l (omega (arith, ends)) in
    let right = weight-size r (omega (arith, ends)) in
    omega (arith, left, right)

-- a bottom structure has fewer nodes than the rank of a top one is above
bottom-light : (b : bottoms.BottomWithTree) → TreeOver b.tree (bottoms.items_of b.geometries) → total_of b.geometries ≤ 2 ^ 20 → 0 < length b.tree.nodes
    → weight (shape_at b.tree 0) < 2 ^ 22
bottom-light b over few some =
    let light = weight-size (shape_at b.tree 0) (over.shape.ends some) in
    let size = size-is b.tree over.shape some in
    let nodes = over-few b.tree (bottoms.items_of b.geometries) over in
    let items = items-few b.geometries in
    omega (arith, light, size, nodes, items, few)

-- a shape has some weight
weighs : (t : Shape) → 0 < weight t
weighs Gone = omega arith
weighs (Tip node first count) = omega arith
weighs (Fork node l r) = omega arith

pub All-append : {X : Type 0} (P : X → Type 0) (xs ys : List X) → All P xs → All P ys → All P (xs ++ ys)
All-append P [] ys one other = other
All-append P (x ∷ xs) ys one other = All-cons P x (xs ++ ys) (one 0 x (omega arith)) (All-append P xs ys (All-tail P x xs one) other)

module _ (s : Traced) (w : IsWalkable s) where
  -- a known node with a rank that is lower
  record IsLower (n c : WalkNode) : Type 0 where
    known : IsNode s c
    lower : rank s c < rank s n

  top-known : (n : ℕ) (node : Node) → n < length s.top.tree.nodes → IsNode s (top_ref_by n node)
  top-known n (nodes.Leaf first count) there = record { there = there }
  top-known n (nodes.Inner l r) there = record { there = there }

  top-rank : (n : ℕ) (node : Node) → rank s (top_ref_by n node) ≡ 2 ^ 22 + weight (shape_at s.top.tree n)
  top-rank n (nodes.Leaf first count) = refl
  top-rank n (nodes.Inner l r) = refl

  bottom-known : (i n : ℕ) (node : Node) (p : Placement) → placement_at s i ≡ Some p → n < length p.bottom.tree.nodes → IsNode s (ref_by i n node)
  bottom-known i n (nodes.Leaf first count) p is there = record { placement = p; is_it = is; there = there }
  bottom-known i n (nodes.Inner l r) p is there = record { placement = p; is_it = is; there = there }

  bottom-rank : (i n : ℕ) (node : Node) (p : Placement) → placement_at s i ≡ Some p → rank s (ref_by i n node) ≡ weight (shape_at p.bottom.tree n)
  bottom-rank i n (nodes.Leaf first count) p is = ap (rank_of_placement n) is
  bottom-rank i n (nodes.Inner l r) p is = ap (rank_of_placement n) is

  -- the nodes right below each are known, and of lower rank
  lower-top : (n : ℕ) (node : Node) → node_at s.top.tree.nodes n ≡ node → n < length s.top.tree.nodes → (m : WalkNode)
      → rank s m ≡ 2 ^ 22 + weight (shape_at s.top.tree n) → All (IsLower m) (top_children s.top.tree node)
  lower-top n (nodes.Leaf first count) e there m is = All-nil (IsLower m)
  lower-top n (nodes.Inner l r) e there m is =
      let tree = s.top.tree in
      let at = at_inner tree w.over.shape n l r there e in
      let heavy : weight (shape_at tree n) ≡ 1 + (weight (shape_at tree l) + weight (shape_at tree r)) = ap weight at.shape in
      let left = top-rank l (node_at tree.nodes l) in
      let right = top-rank r (node_at tree.nodes r) in
      let some_left = weighs (shape_at tree l) in
      let some_right = weighs (shape_at tree r) in
      All-cons (IsLower m) (top_ref tree l) (top_ref tree r ∷ [])
      (record { known = top-known l (node_at tree.nodes l) at.left; lower = omega (arith, heavy, left, is, some_right) })
      (All-cons (IsLower m) (top_ref tree r) []
      (record { known = top-known r (node_at tree.nodes r) at.right; lower = omega (arith, heavy, right, is, some_left) })
      (All-nil (IsLower m)))

  lower-bottom : (i n : ℕ) (p : Placement) (node : Node) → placement_at s i ≡ Some p → node_at p.bottom.tree.nodes n ≡ node → n < length p.bottom.tree.nodes
      → (m : WalkNode) → rank s m ≡ weight (shape_at p.bottom.tree n) → All (IsLower m) (children i p.bottom.tree node)
  lower-bottom i n p (nodes.Leaf first count) placed e there m is = All-nil (IsLower m)
  lower-bottom i n p (nodes.Inner l r) placed e there m is =
      let tree = p.bottom.tree in
      let over = (w.bottoms.each p.instance.id p.bottom (is_placement s i p placed).stands).over in
      let at = at_inner tree over.shape n l r there e in
      let heavy : weight (shape_at tree n) ≡ 1 + (weight (shape_at tree l) + weight (shape_at tree r)) = ap weight at.shape in
      let left = bottom-rank i l (node_at tree.nodes l) p placed in
      let right = bottom-rank i r (node_at tree.nodes r) p placed in
      let some_left = weighs (shape_at tree l) in
      let some_right = weighs (shape_at tree r) in
      All-cons (IsLower m) (ref i tree l) (ref i tree r ∷ [])
      (record { known = bottom-known i l (node_at tree.nodes l) p placed at.left; lower = omega (arith, heavy, left, is, some_right) })
      (All-cons (IsLower m) (ref i tree r) []
      (record { known = bottom-known i r (node_at tree.nodes r) p placed at.right; lower = omega (arith, heavy, right, is, some_left) })
      (All-nil (IsLower m)))

  lower-root : (j : ℕ) (o : Option Placement) → placement_at s j ≡ o → (m : WalkNode) → 2 ^ 22 ≤ rank s m → All (IsLower m) (roots_by j o)
  lower-root j None e m high = All-nil (IsLower m)
  lower-root j (Some p) e m high = by p.bottom.tree.nodes refl
    where
      by : (ns : List Node) → p.bottom.tree.nodes ≡ ns → All (IsLower m) (root_in ns (ref j p.bottom.tree 0))
      by [] is = All-nil (IsLower m)
      by (x ∷ xs) is =
          let many = ap length is in
          let some : 0 < length p.bottom.tree.nodes = omega (arith, many) in
          let sound = w.bottoms.each p.instance.id p.bottom (is_placement s j p e).stands in
          let light = bottom-light p.bottom sound.over sound.limits.primitives some in
          let ranked = bottom-rank j 0 (node_at p.bottom.tree.nodes 0) p e in
          All-cons (IsLower m) (ref j p.bottom.tree 0) []
          (record { known = bottom-known j 0 (node_at p.bottom.tree.nodes 0) p e some; lower = omega (arith, light, ranked, high) })
          (All-nil (IsLower m))

  lower-roots : (xs : List ℕ) (m : WalkNode) → 2 ^ 22 ≤ rank s m → All (IsLower m) (flat_map (roots_of s) xs)
  lower-roots [] m high = All-nil (IsLower m)
  lower-roots (j ∷ xs) m high =
      subst (λ ns. All (IsLower m) ns) (sym (flat_map-cons (roots_of s) j xs))
      (All-append (IsLower m) (roots_of s j) (flat_map (roots_of s) xs) (lower-root j (placement_at s j) refl m high) (lower-roots xs m high))

  lower-below : (n : WalkNode) → IsNode s n → All (IsLower n) (below s n)
  lower-below (TopInner n) known = lower-top n (node_at s.top.tree.nodes n) refl known.there (TopInner n) refl
  lower-below (TopLeaf n) known = lower-roots (items_at s.top.tree n) (TopLeaf n) (omega arith)
  lower-below (Inner i n) known =
      subst (λ o. All (IsLower (Inner i n)) (children_of i n o)) (sym known.is_it)
      (lower-bottom i n known.placement (node_at known.placement.bottom.tree.nodes n) known.is_it refl known.there (Inner i n) (ap (rank_of_placement n) known.is_it))
  lower-below (Leaf i n) known = All-nil (IsLower (Leaf i n))

  both : (n : WalkNode) (cs : List WalkNode) → All (IsLower n) cs → All (λ c. Nests (entry s n) (entry s c)) cs → All (IsBelow (IsNode s) (parts_of s) n) cs
  both n cs lower nests = λ k d small.
      let l = lower k d small in
      record { known = l.known; lower = l.lower; nests = nests k d small }

  pub are-parts : AreParts (IsNode s) (parts_of s)
  are-parts = record {
    roots = top-root s.top.tree.nodes refl;
    below = λ n known. both n (below s n) (lower-below n known) (nests_below s w n known);
    holds = holds_at s w;
    in_order = in_order_at s w;
    quiet = quiet;
  }
    where
      quiet : (n : WalkNode) → IsQuiet (parts_of s).tests n
      quiet (TopInner n) = refl
      quiet (TopLeaf n) = refl
      quiet (Inner i n) = refl
      quiet (Leaf i n) = tt

      top-root : (ns : List Node) → s.top.tree.nodes ≡ ns → All (IsNode s) (root_in ns (top_ref s.top.tree 0))
      top-root [] is = All-nil (IsNode s)
      top-root (x ∷ xs) is =
          let many = ap length is in
          All-cons (IsNode s) (top_ref s.top.tree 0) [] (top-known 0 (node_at s.top.tree.nodes 0) (omega (arith, many))) (All-nil (IsNode s))
