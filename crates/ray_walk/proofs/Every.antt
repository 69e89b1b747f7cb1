-- What is found from a node of a tree down, as what is found of the items there from the left.
use Rattle.std.proofs.Common.{ℕ, zero, suc, ◌≡◌, ◌+◌, ◌++◌, ◌<◌, Some, List, [], ◌∷◌, length, refl, sym, ap, ◌∙◌, arith}
use Rattle.std.specs.List.{flat_map}
use Rattle.std.proofs.lemmas.List.{append-nil}
use Rattle.std.proofs.lemmas.List.Concat.{flat_map-cons}
use Rattle.std.proofs.lemmas.Grind.{flat_map-append}
use Rattle.ray_tree.specs.declared.node.Node.{Node}
use Rattle.ray_tree.specs.declared.node.Node.TheVariants as nodes
use Rattle.ray_tree.specs.Shapes.{node_at}
use Rattle.ray_tree.specs.Trees.{IsShape, shape_at}
use Rattle.ray_tree.specs.Waits.{weight}
use Rattle.ray_tree.proofs.NodeLaws.{at_leaf, at_inner}
use Rattle.ray_tree.specs.Trees.{items_below}
use Rattle.ray_query.specs.declared.found.Found.{Found}
use Rattle.ray_nearest.specs.declared.node.WalkNode.{WalkNode}
use Rattle.ray_nearest.specs.declared.node.WalkNode.TheVariants.{TopInner, TopLeaf, Inner, Leaf}
use Rattle.ray_nearest.specs.Parts.{AreParts, scene_of}
use Rattle.ray_nearest.proofs.Growing.{every}
use Rattle.ray_walk.specs.Traced.{Traced, IsNode, placement_at, parts_of, ref, ref_by, top_ref, top_ref_by, roots_of, children, children_of, top_children, found_of_item, found_in_leaf}
use Rattle.ray_candidates.specs.Placements.{Placement, items_at, items_by}

-- two lists, one after the other
pub two : {X Y : Type 0} (F : X → List Y) (a b : X) → flat_map F (a ∷ b ∷ []) ≡ F a ++ F b
two F a b = flat_map-cons F a (b ∷ []) ∙ ap (λ ys. F a ++ ys) (flat_map-cons F b [] ∙ append-nil (F b))

pub flat-flat : {X Y Z : Type 0} (G : Y → List Z) (F : X → List Y) (xs : List X) → flat_map G (flat_map F xs) ≡ flat_map (λ x. flat_map G (F x)) xs
flat-flat G F [] = refl
flat-flat G F (x ∷ xs) =
    ap (flat_map G) (flat_map-cons F x xs)
    ∙ (flat_map-append G (F x) (flat_map F xs)
    ∙ (ap (λ ys. flat_map G (F x) ++ ys) (flat-flat G F xs) ∙ sym (flat_map-cons (λ y. flat_map G (F y)) x xs)))

module _ (s : Traced) (parts : AreParts (IsNode s) (parts_of s)) where
  abbrev pub all : WalkNode → List Found
  all n = (scene_of (parts_of s)).every n

  -- ---- the structure of an instance

  module _ (i : ℕ) (p : Placement) (placed : placement_at s i ≡ Some p) (shape : IsShape p.bottom.tree) where
    bottom_leaf : (n first count : ℕ) → n < length p.bottom.tree.nodes → node_at p.bottom.tree.nodes n ≡ nodes.Leaf first count
        → all (Leaf i n) ≡ flat_map (found_of_item s i p) (items_below p.bottom.tree.order (shape_at p.bottom.tree n))
    bottom_leaf n first count there e =
        let F = found_of_item s i p in
        let order = p.bottom.tree.order in
        every (IsNode s) (parts_of s) parts (Leaf i n) (record { placement = p; is_it = placed; there = there })
        ∙ (append-nil (found_in_leaf s i n (placement_at s i))
        ∙ (ap (found_in_leaf s i n) placed
        ∙ (ap (λ node. flat_map F (items_by order node)) e
        ∙ ap (λ t. flat_map F (items_below order t)) (sym (at_leaf p.bottom.tree shape n first count there e).shape))))

    bottom_inner : (n l r : ℕ) → n < length p.bottom.tree.nodes → node_at p.bottom.tree.nodes n ≡ nodes.Inner l r
        → all (ref i p.bottom.tree l) ≡ flat_map (found_of_item s i p) (items_below p.bottom.tree.order (shape_at p.bottom.tree l))
        → all (ref i p.bottom.tree r) ≡ flat_map (found_of_item s i p) (items_below p.bottom.tree.order (shape_at p.bottom.tree r))
        → all (Inner i n) ≡ flat_map (found_of_item s i p) (items_below p.bottom.tree.order (shape_at p.bottom.tree n))
    bottom_inner n l r there e left right =
        let F = found_of_item s i p in
        let tree = p.bottom.tree in
        every (IsNode s) (parts_of s) parts (Inner i n) (record { placement = p; is_it = placed; there = there })
        ∙ (ap (λ o. flat_map all (children_of i n o)) placed
        ∙ (ap (λ node. flat_map all (children i tree node)) e
        ∙ (two all (ref i tree l) (ref i tree r)
        ∙ ((λ j. left j ++ right j)
        ∙ (sym (flat_map-append F (items_below tree.order (shape_at tree l)) (items_below tree.order (shape_at tree r)))
        ∙ ap (λ t. flat_map F (items_below tree.order t)) (sym (at_inner tree shape n l r there e).shape))))))

    bottom_by : (k n : ℕ) (node : Node) → node_at p.bottom.tree.nodes n ≡ node → n < length p.bottom.tree.nodes → weight (shape_at p.bottom.tree n) < suc k
        → ((m : ℕ) → m < length p.bottom.tree.nodes → weight (shape_at p.bottom.tree m) < k
        → all (ref i p.bottom.tree m) ≡ flat_map (found_of_item s i p) (items_below p.bottom.tree.order (shape_at p.bottom.tree m)))
        → all (ref_by i n node) ≡ flat_map (found_of_item s i p) (items_below p.bottom.tree.order (shape_at p.bottom.tree n))
    bottom_by k n (nodes.Leaf first count) e there small rest = bottom_leaf n first count there e
    bottom_by k n (nodes.Inner l r) e there small rest =
        let at = at_inner p.bottom.tree shape n l r there e in
        let heavy : weight (shape_at p.bottom.tree n) ≡ 1 + (weight (shape_at p.bottom.tree l) + weight (shape_at p.bottom.tree r)) = ap weight at.shape in
        bottom_inner n l r there e (rest l at.left (omega (arith, heavy, small))) (rest r at.right (omega (arith, heavy, small)))

    bottom_up : (k n : ℕ) → n < length p.bottom.tree.nodes → weight (shape_at p.bottom.tree n) < k
        → all (ref i p.bottom.tree n) ≡ flat_map (found_of_item s i p) (items_below p.bottom.tree.order (shape_at p.bottom.tree n))
    bottom_up zero n there small = absurd (omega (arith, small))
    bottom_up (suc k) n there small = bottom_by k n (node_at p.bottom.tree.nodes n) refl there small (bottom_up k)

    pub bottom-every : (n : ℕ) → n < length p.bottom.tree.nodes
        → all (ref i p.bottom.tree n) ≡ flat_map (found_of_item s i p) (items_below p.bottom.tree.order (shape_at p.bottom.tree n))
    bottom-every n there = bottom_up (suc (weight (shape_at p.bottom.tree n))) n there (omega arith)

  -- ---- the top structure

  -- all that is found of an instance
  abbrev pub of_instance : ℕ → List Found
  of_instance j = flat_map all (roots_of s j)

  module _ (shape : IsShape s.top.tree) where
    top_leaf : (n first count : ℕ) → n < length s.top.tree.nodes → node_at s.top.tree.nodes n ≡ nodes.Leaf first count
        → all (TopLeaf n) ≡ flat_map of_instance (items_below s.top.tree.order (shape_at s.top.tree n))
    top_leaf n first count there e =
        let tree = s.top.tree in
        every (IsNode s) (parts_of s) parts (TopLeaf n) (record { there = there })
        ∙ (flat-flat all (roots_of s) (items_at tree n)
        ∙ (ap (λ node. flat_map of_instance (items_by tree.order node)) e
        ∙ ap (λ t. flat_map of_instance (items_below tree.order t)) (sym (at_leaf tree shape n first count there e).shape)))

    top_inner : (n l r : ℕ) → n < length s.top.tree.nodes → node_at s.top.tree.nodes n ≡ nodes.Inner l r
        → all (top_ref s.top.tree l) ≡ flat_map of_instance (items_below s.top.tree.order (shape_at s.top.tree l))
        → all (top_ref s.top.tree r) ≡ flat_map of_instance (items_below s.top.tree.order (shape_at s.top.tree r))
        → all (TopInner n) ≡ flat_map of_instance (items_below s.top.tree.order (shape_at s.top.tree n))
    top_inner n l r there e left right =
        let tree = s.top.tree in
        every (IsNode s) (parts_of s) parts (TopInner n) (record { there = there })
        ∙ (ap (λ node. flat_map all (top_children tree node)) e
        ∙ (two all (top_ref tree l) (top_ref tree r)
        ∙ ((λ j. left j ++ right j)
        ∙ (sym (flat_map-append of_instance (items_below tree.order (shape_at tree l)) (items_below tree.order (shape_at tree r)))
        ∙ ap (λ t. flat_map of_instance (items_below tree.order t)) (sym (at_inner tree shape n l r there e).shape)))))

    top_by : (k n : ℕ) (node : Node) → node_at s.top.tree.nodes n ≡ node → n < length s.top.tree.nodes → weight (shape_at s.top.tree n) < suc k
        → ((m : ℕ) → m < length s.top.tree.nodes → weight (shape_at s.top.tree m) < k
        → all (top_ref s.top.tree m) ≡ flat_map of_instance (items_below s.top.tree.order (shape_at s.top.tree m)))
        → all (top_ref_by n node) ≡ flat_map of_instance (items_below s.top.tree.order (shape_at s.top.tree n))
    top_by k n (nodes.Leaf first count) e there small rest = top_leaf n first count there e
    top_by k n (nodes.Inner l r) e there small rest =
        let at = at_inner s.top.tree shape n l r there e in
        let heavy : weight (shape_at s.top.tree n) ≡ 1 + (weight (shape_at s.top.tree l) + weight (shape_at s.top.tree r)) = ap weight at.shape in
        top_inner n l r there e (rest l at.left (omega (arith, heavy, small))) (rest r at.right (omega (arith, heavy, small)))

    top_up : (k n : ℕ) → n < length s.top.tree.nodes → weight (shape_at s.top.tree n) < k
        → all (top_ref s.top.tree n) ≡ flat_map of_instance (items_below s.top.tree.order (shape_at s.top.tree n))
    top_up zero n there small = absurd (omega (arith, small))
    top_up (suc k) n there small = top_by k n (node_at s.top.tree.nodes n) refl there small (top_up k)

    pub top-every : (n : ℕ) → n < length s.top.tree.nodes
        → all (top_ref s.top.tree n) ≡ flat_map of_instance (items_below s.top.tree.order (shape_at s.top.tree n))
    top-every n there = top_up (suc (weight (shape_at s.top.tree n))) n there (omega arith)
