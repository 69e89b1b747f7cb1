-- The scene by wide nodes keeps the laws of parts.
use Rattle.std.proofs.Common.{ℕ, suc, ◌≡◌, ◌+◌, ◌^◌, ◌<◌, ◌≤◌, true, Option, Some, None, List, [], ◌∷◌, length, refl, sym, ap, subst, ◌∙◌, inl, inr, arith}
use Rattle.std.specs.Prelude.{All, option_and_then, slice_index_or}
use Rattle.std.specs.List.{flat_map}
use Rattle.std.proofs.lemmas.List.Elements.{All-nil, All-cons, All-get_or}
use Rattle.std.proofs.lemmas.List.Concat.{flat_map-cons}
use Rattle.ray_geom.specs.declared.ratio.Ratio.{Ratio}
use Rattle.ray_geom.specs.Boxes.{BoxValue, IsPart}
use Rattle.ray_geom.specs.ObjectRay.{ObjectRayValue, object_of}
use Rattle.ray_geom.specs.Transform.{identity_value}
use Rattle.ray_lanes.specs.declared.lanes.Lanes8.{Lanes8}
use Rattle.ray_tree.specs.Trees.{TreeValue, TreeOver, box_at}
use Rattle.ray_tree.proofs.Sizes.{over-few}
use Rattle.ray_wide.specs.declared.node.WideRef.{WideRef}
use Rattle.ray_wide.specs.declared.node.WideRef.TheVariants as wides
use Rattle.ray_wide.specs.Wides.{WideValue, WideOver, IsChild, IsLane, IsRoot, child_at, children_in, is_there, lane_box, lanes_in, top_at}
use Rattle.ray_wide.proofs.Boxing.{are_in_parents, node_for}
use Rattle.ray_bottom.specs.Slots.{IsSound}
use Rattle.ray_bottom.specs.Trees as bottoms
use Rattle.ray_bottom.proofs.Places.{items-few}
use Rattle.ray_top.specs.Trees as tops
use Rattle.ray_nearest.specs.declared.node.WalkNode.{WalkNode}
use Rattle.ray_nearest.specs.declared.node.WalkNode.TheVariants.{TopInner, TopLeaf, Inner, Leaf}
use Rattle.ray_nearest.specs.Parts.{AreParts, IsBelow, Nests}
use Rattle.ray_nearest.specs.Scene.{IsQuiet}
use Rattle.ray_query.proofs.Members.{Member}
use Rattle.ray_walk.specs.declared.level.Level.TheVariants.{World, Object}
use Rattle.ray_walk.specs.Sound.{IsWalkable}
use Rattle.ray_walk.specs.Traced.{IsNode, Traced, bottom_entry, entry_of_placement, placement_at, top_entry}
use Rattle.ray_candidates.specs.Placements.{Placement, entry_in, items_at}
use Rattle.ray_tree.specs.Trees.{no_box}
use Rattle.ray_walk.specs.WideScene.{IsWideNode, below_by, child, narrow, rank_by, root_by, subtree_of, wide_below, wide_entry, wide_parts, wide_roots}
use Rattle.ray_walk.proofs.NodesHold.{holds_at, in_order_at}
use Rattle.ray_walk.proofs.Nesting.{nests_part}
use Rattle.ray_walk.proofs.Seam.{nests_root}
use Rattle.ray_walk.proofs.Walking.{All-append}
use Rattle.ray_walk.proofs.WellPlaced.{is_placement}

-- what holds of what each gives holds of all that they give
All-flat : {X Y : Type 0} (Q : Y → Type 0) (F : X → List Y) (xs : List X) (d : X) → ((k : ℕ) → k < length xs → All Q (F (slice_index_or xs k d))) → All Q (flat_map F xs)
All-flat Q F [] d each = All-nil Q
All-flat Q F (x ∷ xs) d each =
    subst (λ ys. All Q ys) (sym (flat_map-cons F x xs))
    (All-append Q (F x) (flat_map F xs) (each 0 (omega arith)) (All-flat Q F xs d (λ k small. each (suc k) (omega (arith, small)))))

All-given : {X Y : Type 0} (Q : Y → Type 0) (F : X → List Y) (xs : List X) → ((x : X) → Member x xs → All Q (F x)) → All Q (flat_map F xs)
All-given Q F [] each = All-nil Q
All-given Q F (x ∷ xs) each =
    subst (λ ys. All Q ys) (sym (flat_map-cons F x xs))
    (All-append Q (F x) (flat_map F xs) (each x (inl refl)) (All-given Q F xs (λ y m. each y (inr m))))

All-one : {X : Type 0} (Q : X → Type 0) (x : X) → Q x → All Q (x ∷ [])
All-one Q x q = All-cons Q x [] q (All-nil Q)

-- boxes nest by their entries
nested-as : {outer inner : Option Ratio} {o i : Option Ratio} → outer ≡ o → inner ≡ i → Nests o i → Nests outer inner
nested-as {outer} {inner} {o} {i} out within nests = subst (λ x. Nests x inner) (sym out) (subst (Nests o) (sym within) nests)

-- ---- boxes of children

-- the box of a lane is that of the node for which the child there stands
pub lane-is : (tree : TreeValue) (ts : List ℕ) (lanes : Lanes8) (k : ℕ) (c : WideRef) → IsLane tree ts lanes k c → is_there c ≡ true
    → lane_box lanes k ≡ box_at tree no_box (node_for ts c)
lane-is tree ts lanes k wides.Empty lane there = absurd (cc)
lane-is tree ts lanes k (wides.Leaf leaf) lane there = lane no_box
lane-is tree ts lanes k (wides.Inner v) lane there = lane no_box

module _ (tree : TreeValue) (wide : WideValue) (items : List (Option BoxValue)) (tree_over : TreeOver tree items) (over : WideOver wide tree) where
  -- the box of a child is in that of the wide node
  nests-child : (object : ObjectRayValue) (v k : ℕ) → v < length wide.nodes → k < 8 → (c : WideRef) → child_at (children_in wide.nodes v) k ≡ c → is_there c ≡ true
      → Nests (entry_in object (box_at tree no_box (top_at wide.tops v))) (entry_in object (box_at tree no_box (node_for wide.tops c)))
  nests-child object v k small few c is there =
      let outer = box_at tree no_box (top_at wide.tops v) in
      let part = (are_in_parents tree wide items tree_over over).top v k no_box small few (subst (λ (x : WideRef). is_there x ≡ true) (sym is) there) in
      let lane = lane-is tree wide.tops (lanes_in wide.nodes v) k c (subst (IsLane tree wide.tops (lanes_in wide.nodes v) k) is (over.lanes v k small few)) there in
      nests_part object (box_at tree no_box (node_for wide.tops c)) outer (subst (λ (b : BoxValue). IsPart b outer) lane part)

  -- a child is one
  child-is : (v k : ℕ) → v < length wide.nodes → k < 8 → IsChild tree.nodes wide.tops (v + 1) (child_at (children_in wide.nodes v) k)
  child-is v k small few =
      let node = over.collapsed.each v small in
      let eight = node.eight in
      All-get_or (IsChild tree.nodes wide.tops (v + 1)) (children_in wide.nodes v) k wides.Empty (omega (arith, eight, few)) node.each

  -- what holds of all children, one by one
  each-child : {Y : Type 0} (Q : Y → Type 0) (F : WideRef → List Y) (v : ℕ) → v < length wide.nodes
      → ((k : ℕ) → k < 8 → (c : WideRef) → child_at (children_in wide.nodes v) k ≡ c → IsChild tree.nodes wide.tops (v + 1) c → All Q (F c))
      → All Q (flat_map F (children_in wide.nodes v))
  each-child Q F v small each =
      let eight = (over.collapsed.each v small).eight in
      All-flat Q F (children_in wide.nodes v) wides.Empty
      (λ k below. let few : k < 8 = omega (arith, eight, below) in
      each k few (child_at (children_in wide.nodes v) k) refl (child-is v k small few))

-- ---- the scene

-- a bottom structure has few wide nodes
wide-few : (b : bottoms.BottomWithTree) → IsSound b → length b.wide.nodes ≤ 2 ^ 21
wide-few b sound =
    let nodes = over-few b.tree (bottoms.items_of b.geometries) sound.over in
    let items = items-few b.geometries in
    let few = sound.wide.collapsed.few in
    let limit = sound.limits.primitives in
    omega (arith, nodes, items, few, limit)

module _ (s : Traced) (w : IsWalkable s) where
  abbrev IsUnder : WalkNode → WalkNode → Type 0
  IsUnder = IsBelow (IsWideNode s) (wide_parts s)

  sound-at : (i : ℕ) (p : Placement) → placement_at s i ≡ Some p → IsSound p.bottom
  sound-at i p is = w.bottoms.each p.instance.id p.bottom (is_placement s i p is).stands

  -- ---- nodes of the binary trees

  pub narrow-known : (n : WalkNode) → IsWideNode s n → IsNode s (narrow s n)
  narrow-known (TopInner v) known = record { there = (w.wide.collapsed.each v known.there).top.small }
  narrow-known (TopLeaf n) known = known
  narrow-known (Inner i v) known = record {
    placement = known.placement;
    is_it = known.is_it;
    there = subst (λ (o : Option Placement). subtree_of v o < length known.placement.bottom.tree.nodes) (sym known.is_it)
        ((sound-at i known.placement known.is_it).wide.collapsed.each v known.there).top.small;
  }
  narrow-known (Leaf i n) known = known

  entry-inner : (i v : ℕ) (p : Placement) → placement_at s i ≡ Some p → wide_entry s (Inner i v) ≡ entry_of_placement s.ray p (top_at p.bottom.wide.tops v)
  entry-inner i v p is = ap (λ (o : Option Placement). option_and_then (λ (q : Placement). entry_of_placement s.ray q (subtree_of v o)) o) is

  entry-leaf : (i n : ℕ) (p : Placement) → placement_at s i ≡ Some p → wide_entry s (Leaf i n) ≡ entry_of_placement s.ray p n
  entry-leaf i n p is = ap (λ (o : Option Placement). option_and_then (λ (q : Placement). entry_of_placement s.ray q n) o) is

  -- ---- below a wide node of the top structure

  under-top : (v k : ℕ) → v < length s.top.wide.nodes → k < 8 → (c : WideRef) → child_at (children_in s.top.wide.nodes v) k ≡ c
      → IsChild s.top.tree.nodes s.top.wide.tops (v + 1) c → All (IsUnder (TopInner v)) (child World c)
  under-top v k small few wides.Empty is child = All-nil (IsUnder (TopInner v))
  under-top v k small few (wides.Leaf leaf) is child =
      All-one (IsUnder (TopInner v)) (TopLeaf leaf.node) (record {
        known = record { there = child.node.small };
        lower = omega arith;
        nests = nests-child s.top.tree s.top.wide (tops.items_of (tops.without_tree s.top)) w.over w.wide (object_of s.ray identity_value) v k small few (wides.Leaf leaf) is refl;
      })
  under-top v k small few (wides.Inner u) is child =
      let topped = w.wide.collapsed.topped in
      let after = child.0 in
      let within = child.1 in
      All-one (IsUnder (TopInner v)) (TopInner u) (record {
        known = record { there = omega (arith, topped, within) };
        lower = omega (arith, topped, within, after);
        nests = nests-child s.top.tree s.top.wide (tops.items_of (tops.without_tree s.top)) w.over w.wide (object_of s.ray identity_value) v k small few (wides.Inner u) is refl;
      })

  -- ---- below a wide node of the structure of an instance

  module _ (i : ℕ) (p : Placement) (placed : placement_at s i ≡ Some p) (sound : IsSound p.bottom) where
    under-bottom : (v k : ℕ) → v < length p.bottom.wide.nodes → k < 8 → (c : WideRef) → child_at (children_in p.bottom.wide.nodes v) k ≡ c
        → IsChild p.bottom.tree.nodes p.bottom.wide.tops (v + 1) c → All (IsUnder (Inner i v)) (child (Object i) c)
    under-bottom v k small few wides.Empty is child = All-nil (IsUnder (Inner i v))
    under-bottom v k small few (wides.Leaf leaf) is child =
        let rank = ap (rank_by v) placed in
        All-one (IsUnder (Inner i v)) (Leaf i leaf.node) (record {
          known = record { placement = p; is_it = placed; there = child.node.small };
          lower = omega (arith, rank);
          nests = nested-as (entry-inner i v p placed) (entry-leaf i leaf.node p placed)
              (nests-child p.bottom.tree p.bottom.wide (bottoms.items_of p.bottom.geometries) sound.over sound.wide (object_of s.ray p.instance.matrix) v k small few (wides.Leaf leaf) is refl);
        })
    under-bottom v k small few (wides.Inner u) is child =
        let topped = sound.wide.collapsed.topped in
        let after = child.0 in
        let within = child.1 in
        let rank = ap (rank_by v) placed in
        let lower = ap (rank_by u) placed in
        All-one (IsUnder (Inner i v)) (Inner i u) (record {
          known = record { placement = p; is_it = placed; there = omega (arith, topped, within) };
          lower = omega (arith, rank, lower, topped, within, after);
          nests = nested-as (entry-inner i v p placed) (entry-inner i u p placed)
              (nests-child p.bottom.tree p.bottom.wide (bottoms.items_of p.bottom.geometries) sound.over sound.wide (object_of s.ray p.instance.matrix) v k small few (wides.Inner u) is refl);
        })

  -- ---- below a leaf of the top structure

  -- the root of the structure of an instance that stands there
  module _ (n : ℕ) (there : n < length s.top.tree.nodes) (j : ℕ) (m : Member j (items_at s.top.tree n)) (p : Placement) (placed : placement_at s j ≡ Some p) where
    under-root : (c : WideRef) → IsRoot p.bottom.tree.nodes p.bottom.wide.tops c → All (IsUnder (TopLeaf n)) (child (Object j) c)
    under-root wides.Empty root = All-nil (IsUnder (TopLeaf n))
    under-root (wides.Leaf leaf) (is, first, few) =
        let small : 0 < length p.bottom.tree.nodes = subst (λ q. q < length p.bottom.tree.nodes) first is.node.small in
        All-one (IsUnder (TopLeaf n)) (Leaf j leaf.node) (record {
          known = record { placement = p; is_it = placed; there = is.node.small };
          lower = omega arith;
          nests = subst (λ q. Nests (top_entry s n) (bottom_entry s j q)) (sym first) (nests_root s n j p w there m placed small);
        })
    under-root (wides.Inner v) (top, first, some, start) =
        let sound = sound-at j p placed in
        let many = wide-few p.bottom sound in
        let topped = sound.wide.collapsed.topped in
        let rank = ap (rank_by v) placed in
        let at : subtree_of v (placement_at s j) ≡ 0 = ap (subtree_of v) placed ∙ (ap (top_at p.bottom.wide.tops) first ∙ start) in
        All-one (IsUnder (TopLeaf n)) (Inner j v) (record {
          known = record { placement = p; is_it = placed; there = omega (arith, topped, first, some) };
          lower = omega (arith, rank, many);
          nests = subst (λ q. Nests (top_entry s n) (bottom_entry s j q)) (sym at) (nests_root s n j p w there m placed top.small);
        })

  under-instance : (n : ℕ) → n < length s.top.tree.nodes → (j : ℕ) → Member j (items_at s.top.tree n) → All (IsUnder (TopLeaf n)) (wide_roots s j)
  under-instance n there j m = by (placement_at s j) refl
    where
      by : (o : Option Placement) → placement_at s j ≡ o → All (IsUnder (TopLeaf n)) (root_by j o)
      by None is = All-nil (IsUnder (TopLeaf n))
      by (Some p) is = under-root n there j m p is p.bottom.wide.root (sound-at j p is).wide.collapsed.root

  -- ---- all nodes

  under : (n : WalkNode) → IsWideNode s n → All (IsUnder n) (wide_below s n)
  under (TopInner v) known =
      each-child s.top.tree s.top.wide (tops.items_of (tops.without_tree s.top)) w.over w.wide (IsUnder (TopInner v)) (child World) v known.there
      (λ k few c is child. under-top v k known.there few c is child)
  under (TopLeaf n) known = All-given (IsUnder (TopLeaf n)) (wide_roots s) (items_at s.top.tree n) (λ j m. under-instance n known.there j m)
  under (Inner i v) known =
      let p = known.placement in
      let sound = sound-at i p known.is_it in
      subst (λ (o : Option Placement). All (IsUnder (Inner i v)) (below_by i v o)) (sym known.is_it)
      (each-child p.bottom.tree p.bottom.wide (bottoms.items_of p.bottom.geometries) sound.over sound.wide (IsUnder (Inner i v)) (child (Object i)) v known.there
      (λ k few c is one. under-bottom i p known.is_it sound v k known.there few c is one))
  under (Leaf i n) known = All-nil (IsUnder (Leaf i n))

  top-known : (c : WideRef) → IsRoot s.top.tree.nodes s.top.wide.tops c → All (IsWideNode s) (child World c)
  top-known wides.Empty root = All-nil (IsWideNode s)
  top-known (wides.Leaf leaf) (is, first, few) =
      All-one (IsWideNode s) (TopLeaf leaf.node) (record { there = is.node.small })
  top-known (wides.Inner v) (top, first, some, start) =
      let topped = w.wide.collapsed.topped in
      All-one (IsWideNode s) (TopInner v) (record { there = omega (arith, topped, first, some) })

  pub are-wide-parts : AreParts (IsWideNode s) (wide_parts s)
  are-wide-parts = record {
    roots = top-known s.top.wide.root w.wide.collapsed.root;
    below = under;
    holds = λ n known. holds_at s w (narrow s n) (narrow-known n known);
    in_order = λ n known. in_order_at s w (narrow s n) (narrow-known n known);
    quiet = quiet-wide;
  }
    where
      quiet-wide : (n : WalkNode) → IsQuiet (wide_parts s).tests n
      quiet-wide (TopInner n) = refl
      quiet-wide (TopLeaf n) = refl
      quiet-wide (Inner i n) = refl
      quiet-wide (Leaf i n) = tt
