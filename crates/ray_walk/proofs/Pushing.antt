-- What the calls of a scene add to the turns that wait.
use Rattle.std.proofs.Common.{ℕ, zero, suc, ◌≡◌, ◌+◌, ◌++◌, ◌<◌, ◌≤◌, Option, Some, None, List, [], ◌∷◌, length, map, take, drop, slice_index_or, refl, sym, ap, subst, ◌∙◌, inl, arith}
use Rattle.std.specs.Prelude.{All, false, option_map, option_and_then}
use Rattle.std.specs.List.{flat_map}
use Rattle.std.proofs.lemmas.List.{append-nil, drop-map, length-map, take-map, take_more}
use Rattle.std.proofs.lemmas.List.Concat.{flat_map-cons}
use Rattle.std.proofs.lemmas.List.Elements.{All-nil, All-cons, All-head, All-tail}
use Rattle.std.proofs.lemmas.List.Folds.{flat_map-map}
use Rattle.std.proofs.lemmas.List.Sorted.{IsPermutation-refl}
use Rattle.std.proofs.lemmas.Grind.{flat_map-append}
use Rattle.ray_geom.specs.declared.ratio.Ratio.{Ratio}
use Rattle.ray_geom.specs.ObjectRay.{object_of}
use Rattle.ray_geom.specs.Transform.{identity_value}
use Rattle.ray_prune.specs.declared.reach.Reach.{Reach}
use Rattle.ray_prune.specs.BoxReach.{IsSameReach}
use Rattle.ray_tree.specs.declared.node.Node.{Node}
use Rattle.ray_tree.specs.declared.node.Node.TheVariants as nodes
use Rattle.ray_tree.specs.Shapes.{node_at}
use Rattle.ray_tree.specs.Trees.{box_at}
use Rattle.ray_wide.specs.declared.node.WideRef.{WideRef}
use Rattle.ray_wide.specs.declared.node.WideRef.TheVariants as wides
use Rattle.ray_wide.specs.Wides.{top_at}
use Rattle.ray_bottom.specs.Trees.{place_at, places_below, places_by}
use Rattle.ray_nearest.specs.declared.node.WalkNode.{WalkNode}
use Rattle.ray_nearest.specs.declared.node.WalkNode.TheVariants.{TopInner, TopLeaf, Inner, Leaf}
use Rattle.ray_nearest.specs.declared.turn.Turn.{Turn}
use Rattle.ray_nearest.specs.Adding.{Adds, AddsFound, AddsNode, AddsNodes, AddsOne, HasValue, IsOpened}
use Rattle.ray_query.specs.Limits.{is_open}
use Rattle.ray_nearest.proofs.Added.{Adds-append, IsOpened-inner, IsOpened-leaf, each_itself, passed_by}
use Rattle.ray_walk.specs.declared.level.Level.{Level}
use Rattle.ray_walk.specs.declared.level.Level.TheVariants.{World, Object}
use Rattle.ray_walk.specs.declared.trees.Trees.{Trees}
use Rattle.ray_walk.specs.Aims.{AddsThrough, AreLeftOut, entry_by, entry_through}
use Rattle.ray_walk.specs.Scenes.{AddsFoundAt, AddsWide}
use Rattle.ray_walk.specs.WideScene.{child, inner_at, leaf_at, narrow, subtree_of, wide_below, wide_entry, wide_scene}
use Rattle.ray_walk.proofs.LeftOut.{entry-inner, entry-leaf}
use Rattle.ray_walk.specs.Traced.{Traced, entry, entry_of_placement, finds, found_at_place, found_in_leaf, placement_at, tests, tests_in_leaf}
use Rattle.ray_candidates.specs.Placements.{Placement, entry_in, items_at, items_by}
use Rattle.ray_tree.specs.Trees.{no_box}

-- ---- entries

-- where a box is reached, its entry has that value; where it isn't, it isn't met
pub same-entry : (reach : Reach) (o : Option Reach) → IsSameReach (Some reach) o → HasValue (option_map (λ (r : Reach). r.entry) o) reach.entry
same-entry reach None same = absurd same
same-entry reach (Some a) (entry, exit) = entry

-- the turn of one node as that of another with the same entry
other : (limit o : Option Ratio) (E : WalkNode → Option Ratio) (node m : WalkNode) (old new : List Turn) → node ≡ m → o ≡ E m
    → AddsOne (AddsNode limit (λ x. o) node) old new → AddsOne (AddsNode limit E m) old new
other limit o E node m old new same entry added =
    subst (λ e. AddsOne (AddsNode limit (λ x. e) m) old new) entry (subst (λ x. AddsOne (AddsNode limit (λ y. o) x) old new) same added)

-- the turns of nodes, by equal entries
pub Adds-as : (limit : Option Ratio) (E F : WalkNode → Option Ratio) (xs : List WalkNode) → All (λ n. E n ≡ F n) xs → (old new : List Turn)
    → Adds (AddsNode limit E) xs old new → Adds (AddsNode limit F) xs old new
Adds-as limit E F [] same old new added = added
Adds-as limit E F (x ∷ xs) same old new (mid, first, rest) =
    let P = λ (n : WalkNode). E n ≡ F n in
    (mid, other limit (E x) F x x old mid refl (All-head P x xs same) (moved first), Adds-as limit E F xs (All-tail P x xs same) mid new rest)
  where
    moved : AddsOne (AddsNode limit E x) old mid → AddsOne (AddsNode limit (λ y. E x) x) old mid
    moved one = one

-- ---- the children of a wide node, and the root

module _ (t : Trees) (limit : Option Ratio) (old new : List Turn) where
  pub pushed-leaf : (n : ℕ) (node : WalkNode) → node ≡ leaf_at t.level n
      → AddsOne (AddsNode limit (λ m. entry_in t.ray.now (box_at t.tree.now no_box n)) node) old new → AddsThrough limit t (leaf_at t.level n ∷ []) old new
  pushed-leaf n node is one = (
    new,
    other limit (entry_in t.ray.now (box_at t.tree.now no_box n)) (entry_through t) node (leaf_at t.level n) old new is
        (sym (entry-leaf t.tree.now t.wide.now t.ray.now t.level n)) one,
    IsPermutation-refl new,
  )

  pub pushed-inner : (w top : ℕ) (node : WalkNode) → node ≡ inner_at t.level w → top ≡ top_at t.wide.now.tops w
      → AddsOne (AddsNode limit (λ m. entry_in t.ray.now (box_at t.tree.now no_box top)) node) old new → AddsThrough limit t (inner_at t.level w ∷ []) old new
  pushed-inner w top node is at one = (
    new,
    other limit (entry_in t.ray.now (box_at t.tree.now no_box top)) (entry_through t) node (inner_at t.level w) old new is
        (ap (λ n. entry_in t.ray.now (box_at t.tree.now no_box n)) at ∙ sym (entry-inner t.tree.now t.wide.now t.ray.now t.level w)) one,
    IsPermutation-refl new,
  )

  -- none is added of those that are left out
  pub left-out : (ns : List WalkNode) → AreLeftOut limit t ns → (turns : List Turn) → AddsThrough limit t ns turns turns
  left-out [] out turns = IsPermutation-refl turns
  left-out (n ∷ ns) out turns =
      let P = λ (m : WalkNode). is_open limit (entry_through t m) ≡ false in
      (turns, ([], inl (refl, All-head P n ns out), IsPermutation-refl turns), left-out ns (All-tail P n ns out) turns)

-- ---- in a scene

-- children are what F makes of a level: those of a wide node, or the root
module _ (s : Traced) (t : Trees) (limit : Option Ratio) (old new : List Turn) (F : Level → List WalkNode) where
  pub through-object : (i : ℕ) (p : Placement) → t.tree.now ≡ p.bottom.tree → t.wide.now ≡ p.bottom.wide → t.ray.now ≡ object_of s.ray p.instance.matrix
      → t.level ≡ Object i
      → All (λ n. entry_by p.bottom.tree p.bottom.wide (object_of s.ray p.instance.matrix) n ≡ wide_entry s n) (F (Object i))
      → AddsThrough limit t (F t.level) old new → AddsWide limit s (F (Object i)) old new
  through-object i p tree wide ray level same added =
      Adds-as limit (entry_by p.bottom.tree p.bottom.wide (object_of s.ray p.instance.matrix)) (wide_entry s) (F (Object i)) same old new
      (subst (λ (E : WalkNode → Option Ratio). Adds (AddsNode limit E) (F (Object i)) old new) (λ j. entry_by (tree j) (wide j) (ray j))
      (subst (λ (l : Level). AddsThrough limit t (F l) old new) level added))

-- the entries of these trees are those of the scene
abbrev pub IsOfWorld : Traced → WalkNode → Type 0
IsOfWorld s n = entry_by s.top.tree s.top.wide (object_of s.ray identity_value) n ≡ wide_entry s n

abbrev pub IsOfObject : Traced → Placement → WalkNode → Type 0
IsOfObject s p n = entry_by p.bottom.tree p.bottom.wide (object_of s.ray p.instance.matrix) n ≡ wide_entry s n

pub world-entries : (s : Traced) (c : WideRef) → All (IsOfWorld s) (child World c)
world-entries s wides.Empty = All-nil (IsOfWorld s)
world-entries s (wides.Leaf leaf) = All-cons (IsOfWorld s) (TopLeaf leaf.node) [] refl (All-nil (IsOfWorld s))
world-entries s (wides.Inner w) = All-cons (IsOfWorld s) (TopInner w) [] refl (All-nil (IsOfWorld s))

pub object-entries : (s : Traced) (i : ℕ) (p : Placement) → placement_at s i ≡ Some p → (c : WideRef)
    → All (IsOfObject s p) (child (Object i) c)
object-entries s i p is wides.Empty = All-nil (IsOfObject s p)
object-entries s i p is (wides.Leaf leaf) =
    All-cons (IsOfObject s p) (Leaf i leaf.node) []
    (sym (ap (λ (o : Option Placement). option_and_then (λ (q : Placement). entry_of_placement s.ray q leaf.node) o) is)) (All-nil (IsOfObject s p))
object-entries s i p is (wides.Inner w) =
    All-cons (IsOfObject s p) (Inner i w) [] (sym (ap (λ (o : Option Placement). option_and_then (λ (q : Placement). entry_of_placement s.ray q (subtree_of w o)) o) is)) (All-nil (IsOfObject s p))

-- ---- one after the other

-- the step of a loop over a list, each with a list of its own
pub Adds-flat : {X Y : Type 0} (P : Y → List Turn → Type 0) (F : X → List Y) (xs : List X) (k : ℕ) (d : X) (old mid new : List Turn) → k < length xs
    → Adds P (flat_map F (take k xs)) old mid → Adds P (F (slice_index_or xs k d)) mid new → Adds P (flat_map F (take (k + 1) xs)) old new
Adds-flat P F xs k d old mid new small before one =
    let y = slice_index_or xs k d in
    let more : flat_map F (take (k + 1) xs) ≡ flat_map F (take k xs) ++ F y =
    ap (flat_map F) (take_more xs k d small) ∙ (flat_map-append F (take k xs) (y ∷ [])
    ∙ ap (λ ys. flat_map F (take k xs) ++ ys) (flat_map-cons F y [] ∙ append-nil (F y))) in
    subst (λ ys. Adds P ys old new) (sym more) (Adds-append P (flat_map F (take k xs)) (F y) old mid new before one)

-- the children from a number on that are left out add nothing
pub Adds-skip : (t : Trees) (limit : Option Ratio) (cs : List WideRef) (d : WideRef) (old now : List Turn) (k n : ℕ) → k + n ≤ length cs
    → ((j : ℕ) → k ≤ j → j < k + n → AreLeftOut limit t (child t.level (slice_index_or cs j d)))
    → AddsThrough limit t (flat_map (child t.level) (take k cs)) old now
    → AddsThrough limit t (flat_map (child t.level) (take (k + n) cs)) old now
Adds-skip t limit cs d old now k zero within out before =
    subst (λ m. AddsThrough limit t (flat_map (child t.level) (take m cs)) old now) (omega arith) before
Adds-skip t limit cs d old now k (suc n) within out before =
    subst (λ m. AddsThrough limit t (flat_map (child t.level) (take m cs)) old now) (omega arith)
    (Adds-flat (AddsNode limit (entry_through t)) (child t.level) cs (k + n) d old now now (omega (arith, within))
    (Adds-skip t limit cs d old now k n (omega (arith, within)) (λ j from below. out j from (omega (arith, below))) before)
    (left-out t limit old now (child t.level (slice_index_or cs (k + n) d)) (out (k + n) (omega arith) (omega arith)) now))

-- ---- what is found

-- the places of a leaf are those of its items
leaf-places : (p : Placement) (node : Node) → places_by (map (place_at p.bottom.geometries) p.bottom.tree.order) node
    ≡ map (place_at p.bottom.geometries) (items_by p.bottom.tree.order node)
leaf-places p (nodes.Leaf first count) =
    let f = place_at p.bottom.geometries in
    ap (take count) (drop-map f first p.bottom.tree.order) ∙ take-map f count (drop first p.bottom.tree.order)
leaf-places p (nodes.Inner l r) = refl

module _ (s : Traced) (i n : ℕ) (p : Placement) (is : placement_at s i ≡ Some p) where
  pub leaf-finds : flat_map (found_at_place s i p) (places_below p.bottom n) ≡ finds s (Leaf i n)
  leaf-finds =
      ap (flat_map (found_at_place s i p)) (leaf-places p (node_at p.bottom.tree.nodes n))
      ∙ (flat_map-map (found_at_place s i p) (place_at p.bottom.geometries) (items_at p.bottom.tree n)
      ∙ sym (ap (found_in_leaf s i n) is))

  pub leaf-tests : length (places_below p.bottom n) ≡ tests s (Leaf i n)
  leaf-tests =
      ap length (leaf-places p (node_at p.bottom.tree.nodes n))
      ∙ (length-map (items_at p.bottom.tree n) (place_at p.bottom.geometries)
      ∙ sym (ap (tests_in_leaf n) is))

-- ---- a node is opened

module _ (s : Traced) (limit : Option Ratio) (old new : List Turn) where
  pub opened-inner : (n : WalkNode) → finds s (narrow s n) ≡ [] → AddsNodes limit (wide_scene s) (wide_below s n) old new → IsOpened limit (wide_scene s) n old new
  unfolding wide_scene
  opened-inner n none added = IsOpened-inner limit (wide_scene s) n old new none added

  -- a node at which nothing is found stands for itself where those below it are added
  pub passed-alone : (n : WalkNode) → finds s (narrow s n) ≡ [] → AddsNodes limit (wide_scene s) (wide_below s n) old new
      → AddsNodes limit (wide_scene s) (n ∷ []) old new
  unfolding wide_scene
  passed-alone n none added =
      passed_by limit (wide_scene s) [] [] n old new none (λ turns. IsPermutation-refl turns) (λ turns. IsPermutation-refl turns) added

  -- each of the nodes below for itself
  pub below-itself : (ns : List WalkNode) → AddsWide limit s ns old new → AddsNodes limit (wide_scene s) ns old new
  unfolding wide_scene
  below-itself ns added = each_itself limit (wide_scene s) ns old new added

  pub opened-leaf : (i n : ℕ) (p : Placement) → placement_at s i ≡ Some p → AddsFoundAt limit s i p (places_below p.bottom n) old new
      → IsOpened limit (wide_scene s) (Leaf i n) old new
  unfolding wide_scene
  opened-leaf i n p is added =
      IsOpened-leaf limit (wide_scene s) (Leaf i n) old new refl (subst (λ fs. Adds (AddsFound limit) fs old new) (leaf-finds s i n p is) added)

-- how many primitives are tested at a node, as the scene says it
pub same-tests : (s : Traced) (n : WalkNode) (now later : ℕ) → later ≡ now + tests s (narrow s n) → later ≡ now + (wide_scene s).tests n
unfolding wide_scene
same-tests s n now later steps = steps

-- the walk begins at the root of the top structure
pub begun : (s : Traced) (old new : List Turn) → AddsNodes None (wide_scene s) (child World s.top.wide.root) old new
    → AddsNodes None (wide_scene s) (wide_scene s).roots old new
unfolding wide_scene
begun s old new added = added
