-- What is given of the leaves of a scene, from the left, is the same by the nodes of the binary trees and by those of the wide ones.
use Rattle.std.proofs.Common.{ℕ, ◌≡◌, ◌++◌, ◌<◌, Option, Some, None, List, [], ◌∷◌, length, refl, sym, ap, ◌∙◌}
use Rattle.std.specs.List.{flat_map}
use Rattle.std.proofs.lemmas.List.{append-nil}
use Rattle.std.proofs.lemmas.List.Concat.{flat_map-cons}
use Rattle.ray_tree.specs.declared.node.Node.{Node}
use Rattle.ray_tree.specs.declared.node.Node.TheVariants as nodes
use Rattle.ray_tree.specs.Shapes.{node_at}
use Rattle.ray_tree.specs.Trees.{IsShape}
use Rattle.ray_wide.specs.declared.node.WideLeaf.{WideLeaf}
use Rattle.ray_wide.specs.declared.node.WideRef.{WideRef}
use Rattle.ray_wide.specs.declared.node.WideRef.TheVariants as wides
use Rattle.ray_wide.specs.Wides.{WideOver, children_in}
use Rattle.ray_nearest.specs.declared.node.WalkNode.{WalkNode}
use Rattle.ray_nearest.specs.declared.node.WalkNode.TheVariants.{TopInner, TopLeaf, Inner, Leaf}
use Rattle.ray_nearest.specs.Parts.{AreParts, SceneParts, all_from}
use Rattle.ray_nearest.proofs.Growing as growing
use Rattle.ray_walk.specs.declared.level.Level.TheVariants.{World, Object}
use Rattle.ray_walk.specs.Sound.{IsWalkable}
use Rattle.ray_walk.specs.Traced.{IsNode, Traced, children, children_of, parts_of, placement_at, ref, ref_by, root_in, roots_by, roots_of, top_children, top_ref, top_ref_by}
use Rattle.ray_candidates.specs.Placements.{Placement, items_at}
use Rattle.ray_walk.specs.WideScene.{IsWideNode, below_by, child, root_by, wide_parts, wide_roots}
use Rattle.ray_walk.proofs.Every.{flat-flat, two}
use Rattle.ray_walk.proofs.WellPlaced.{is_placement}
use Rattle.ray_walk.proofs.WideLeaves.{binary-leaves, flat-one, roots-same, wide-leaves}

-- only leaves of bottom structures give something
pub record AreOfLeaves {Y : Type 0} (h : WalkNode → List Y) : Type 0 where
  pub top_inner : (n : ℕ) → h (TopInner n) ≡ []
  pub top_leaf : (n : ℕ) → h (TopLeaf n) ≡ []
  pub inner : (i n : ℕ) → h (Inner i n) ≡ []

-- what is given from a node down
abbrev pub given : {Y : Type 0} → SceneParts → (WalkNode → List Y) → WalkNode → List Y
given p h n = flat_map h (all_from p n)

-- is what it gives itself, and what those below it give
given-is : {Y : Type 0} (Known : WalkNode → Type 0) (p : SceneParts) → AreParts Known p → (h : WalkNode → List Y) (n : WalkNode) → Known n
    → given p h n ≡ h n ++ flat_map (given p h) (p.below n)
given-is Known p parts h n known =
    ap (flat_map h) (growing.all Known p parts n known)
    ∙ (flat_map-cons h n (flat_map (all_from p) (p.below n))
    ∙ ap (λ ys. h n ++ ys) (flat-flat h (all_from p) (p.below n)))

-- of a node that gives nothing itself
given-below : {Y : Type 0} (Known : WalkNode → Type 0) (p : SceneParts) → AreParts Known p → (h : WalkNode → List Y) (n : WalkNode) → Known n
    → h n ≡ [] → given p h n ≡ flat_map (given p h) (p.below n)
given-below Known p parts h n known none = given-is Known p parts h n known ∙ ap (λ ys. ys ++ flat_map (given p h) (p.below n)) none

flat-same : {X Y : Type 0} (F G : X → List Y) (xs : List X) → ((x : X) → F x ≡ G x) → flat_map F xs ≡ flat_map G xs
flat-same F G [] each = refl
flat-same F G (x ∷ xs) each = flat_map-cons F x xs ∙ ((λ i. each x i ++ flat-same F G xs each i) ∙ sym (flat_map-cons G x xs))

module _ {Y : Type 0} (s : Traced) (w : IsWalkable s) (binary : AreParts (IsNode s) (parts_of s)) (broad : AreParts (IsWideNode s) (wide_parts s))
    (hb hw : WalkNode → List Y) (of_b : AreOfLeaves hb) (of_w : AreOfLeaves hw) (same : (i n : ℕ) → hw (Leaf i n) ≡ hb (Leaf i n)) where
  abbrev from_b : WalkNode → List Y
  from_b = given (parts_of s) hb

  abbrev from_w : WalkNode → List Y
  from_w = given (wide_parts s) hw

  -- ---- the structure of an instance

  module _ (i : ℕ) (p : Placement) (placed : placement_at s i ≡ Some p) (shape : IsShape p.bottom.tree) (over : WideOver p.bottom.wide p.bottom.tree) where
    leaf-b : (n : ℕ) → n < length p.bottom.tree.nodes → from_b (Leaf i n) ≡ hb (Leaf i n)
    leaf-b n there =
        given-is (IsNode s) (parts_of s) binary hb (Leaf i n) (record { placement = p; is_it = placed; there = there }) ∙ append-nil (hb (Leaf i n))

    ref-leaf : (n first count : ℕ) → n < length p.bottom.tree.nodes → node_at p.bottom.tree.nodes n ≡ nodes.Leaf first count
        → from_b (ref i p.bottom.tree n) ≡ hb (Leaf i n)
    ref-leaf n first count there e = ap (λ (node : Node). from_b (ref_by i n node)) e ∙ leaf-b n there

    ref-inner : (n l r : ℕ) → n < length p.bottom.tree.nodes → node_at p.bottom.tree.nodes n ≡ nodes.Inner l r
        → from_b (ref i p.bottom.tree n) ≡ from_b (ref i p.bottom.tree l) ++ from_b (ref i p.bottom.tree r)
    ref-inner n l r there e =
        ap (λ (node : Node). from_b (ref_by i n node)) e
        ∙ (given-below (IsNode s) (parts_of s) binary hb (Inner i n) (record { placement = p; is_it = placed; there = there }) (of_b.inner i n)
        ∙ (ap (λ (o : Option Placement). flat_map from_b (children_of i n o)) placed
        ∙ (ap (λ (node : Node). flat_map from_b (children i p.bottom.tree node)) e ∙ two from_b (ref i p.bottom.tree l) (ref i p.bottom.tree r))))

    child-leaf : (leaf : WideLeaf) → leaf.node < length p.bottom.tree.nodes → flat_map from_w (child (Object i) (wides.Leaf leaf)) ≡ hb (Leaf i leaf.node)
    child-leaf leaf there =
        let n = leaf.node in
        flat-one from_w (Leaf i n)
        ∙ (given-is (IsWideNode s) (wide_parts s) broad hw (Leaf i n) (record { placement = p; is_it = placed; there = there })
        ∙ (append-nil (hw (Leaf i n)) ∙ same i n))

    child-inner : (v : ℕ) → v < length p.bottom.wide.nodes
        → flat_map from_w (child (Object i) (wides.Inner v)) ≡ flat_map (λ (c : WideRef). flat_map from_w (child (Object i) c)) (children_in p.bottom.wide.nodes v)
    child-inner v there =
        flat-one from_w (Inner i v)
        ∙ (given-below (IsWideNode s) (wide_parts s) broad hw (Inner i v) (record { placement = p; is_it = placed; there = there }) (of_w.inner i v)
        ∙ (ap (λ (o : Option Placement). flat_map from_w (below_by i v o)) placed ∙ flat-flat from_w (child (Object i)) (children_in p.bottom.wide.nodes v)))

    root-placed : flat_map from_w (child (Object i) p.bottom.wide.root) ≡ flat_map from_b (root_in p.bottom.tree.nodes (ref i p.bottom.tree 0))
    root-placed =
        let tree = p.bottom.tree in
        let wide = p.bottom.wide in
        roots-same tree wide over.collapsed (λ (c : WideRef). flat_map from_w (child (Object i) c)) (λ n. hb (Leaf i n)) refl
        (wide-leaves tree wide shape over.collapsed (λ (c : WideRef). flat_map from_w (child (Object i) c)) (λ n. hb (Leaf i n)) refl child-leaf child-inner 0)
        from_b (ref i tree 0) (λ some. binary-leaves tree shape (λ n. from_b (ref i tree n)) (λ n. hb (Leaf i n)) ref-leaf ref-inner 0 some)

  pub instance-same : (j : ℕ) → flat_map from_w (wide_roots s j) ≡ flat_map from_b (roots_of s j)
  instance-same j = by (placement_at s j) refl
    where
      by : (o : Option Placement) → placement_at s j ≡ o → flat_map from_w (wide_roots s j) ≡ flat_map from_b (roots_of s j)
      by None is = ap (λ (o : Option Placement). flat_map from_w (root_by j o)) is ∙ sym (ap (λ (o : Option Placement). flat_map from_b (roots_by j o)) is)
      by (Some p) is =
          let sound = w.bottoms.each p.instance.id p.bottom (is_placement s j p is).stands in
          ap (λ (o : Option Placement). flat_map from_w (root_by j o)) is
          ∙ (root-placed j p is sound.over.shape sound.wide ∙ sym (ap (λ (o : Option Placement). flat_map from_b (roots_by j o)) is))

  -- ---- the top structure

  top-leaf-same : (n : ℕ) → n < length s.top.tree.nodes → from_w (TopLeaf n) ≡ from_b (TopLeaf n)
  top-leaf-same n there =
      given-below (IsWideNode s) (wide_parts s) broad hw (TopLeaf n) (record { there = there }) (of_w.top_leaf n)
      ∙ (flat-flat from_w (wide_roots s) (items_at s.top.tree n)
      ∙ (flat-same (λ j. flat_map from_w (wide_roots s j)) (λ j. flat_map from_b (roots_of s j)) (items_at s.top.tree n) instance-same
      ∙ (sym (flat-flat from_b (roots_of s) (items_at s.top.tree n))
      ∙ sym (given-below (IsNode s) (parts_of s) binary hb (TopLeaf n) (record { there = there }) (of_b.top_leaf n)))))

  top-ref-leaf : (n first count : ℕ) → n < length s.top.tree.nodes → node_at s.top.tree.nodes n ≡ nodes.Leaf first count
      → from_b (top_ref s.top.tree n) ≡ from_b (TopLeaf n)
  top-ref-leaf n first count there e = ap (λ (node : Node). from_b (top_ref_by n node)) e

  top-ref-inner : (n l r : ℕ) → n < length s.top.tree.nodes → node_at s.top.tree.nodes n ≡ nodes.Inner l r
      → from_b (top_ref s.top.tree n) ≡ from_b (top_ref s.top.tree l) ++ from_b (top_ref s.top.tree r)
  top-ref-inner n l r there e =
      ap (λ (node : Node). from_b (top_ref_by n node)) e
      ∙ (given-below (IsNode s) (parts_of s) binary hb (TopInner n) (record { there = there }) (of_b.top_inner n)
      ∙ (ap (λ (node : Node). flat_map from_b (top_children s.top.tree node)) e ∙ two from_b (top_ref s.top.tree l) (top_ref s.top.tree r)))

  top-child-leaf : (leaf : WideLeaf) → leaf.node < length s.top.tree.nodes → flat_map from_w (child World (wides.Leaf leaf)) ≡ from_b (TopLeaf leaf.node)
  top-child-leaf leaf there = flat-one from_w (TopLeaf leaf.node) ∙ top-leaf-same leaf.node there

  top-child-inner : (v : ℕ) → v < length s.top.wide.nodes
      → flat_map from_w (child World (wides.Inner v)) ≡ flat_map (λ (c : WideRef). flat_map from_w (child World c)) (children_in s.top.wide.nodes v)
  top-child-inner v there =
      flat-one from_w (TopInner v)
      ∙ (given-below (IsWideNode s) (wide_parts s) broad hw (TopInner v) (record { there = there }) (of_w.top_inner v)
      ∙ flat-flat from_w (child World) (children_in s.top.wide.nodes v))

  -- all that is given is the same
  pub leaves-same : flat_map from_w (child World s.top.wide.root) ≡ flat_map from_b (root_in s.top.tree.nodes (top_ref s.top.tree 0))
  leaves-same =
      let tree = s.top.tree in
      let wide = s.top.wide in
      let L = λ (n : ℕ). from_b (TopLeaf n) in
      roots-same tree wide w.wide.collapsed (λ (c : WideRef). flat_map from_w (child World c)) L refl
      (wide-leaves tree wide w.over.shape w.wide.collapsed (λ (c : WideRef). flat_map from_w (child World c)) L refl top-child-leaf top-child-inner 0)
      from_b (top_ref tree 0) (λ some. binary-leaves tree w.over.shape (λ n. from_b (top_ref tree n)) L top-ref-leaf top-ref-inner 0 some)
