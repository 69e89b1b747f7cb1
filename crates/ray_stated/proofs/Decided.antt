-- The tests by which `carried` gives a tree hold exactly where what is read is one, and what is carried is low.
use Rattle.std.proofs.Common.{◌≡◌, ◌∙◌, ◌+◌, ◌<◌, ◌≤◌, ◌↔◌, ◌⊎◌, inl, inr, ℕ, zero, suc, max, Bool, true, false, cond, Option, Some, None, List, length, refl, sym, ap, ap₂, subst, arith}
use Rattle.std.specs.Prelude.{◌==◌, ◌&&◌, ◌^◌, is_some, if◌then◌else◌, Result, Ok, Err}
use Rattle.std.specs.Bool.{Decides}
use Rattle.std.specs.List.{All, list_all}
use Rattle.std.proofs.lemmas.Bool.{and_from, and_parts}
use Rattle.std.proofs.lemmas.Bool.Decides.{Decides-eqb, Decides-below_and}
use Rattle.std.proofs.lemmas.List.{get_or_default, get_or_past}
use Rattle.std.proofs.lemmas.List.Elements.{All-weaker}
use Rattle.std.proofs.lemmas.List.Sums.{AllPass-from_list_all, list_all-from_AllPass}
use Rattle.std.proofs.lemmas.Option.{none-some}
use Rattle.ray_geom.specs.Boxes.{BoxValue}
use Rattle.ray_geom.specs.Equality.{box_eq, box_eq-identical}
use Rattle.ray_geom.specs.LeastBoxes.{HoldsBoxes, IsLeast, union_of}
use Rattle.ray_tree.specs.declared.node.Node.{Node}
use Rattle.ray_tree.specs.declared.node.Node.TheVariants.{Leaf, Inner}
use Rattle.ray_tree.specs.Shapes.{node_at, levels}
use Rattle.ray_tree.specs.Trees.{TreeValue, shape_at, box_at, item_box, boxes_in, times, active, TreeOver}
use Rattle.ray_tree.specs.Local.{IsActive, IsFit, IsLocal, AreLocal}
use Rattle.ray_tree.specs.Plans.{Plan, Few, Both, size, places_of, label, halves}
use Rattle.ray_tree.proofs.Spelled.{shape_of_spell, levels-label}
use Rattle.ray_tree.proofs.Halved.{halved}
use Rattle.ray_tree.proofs.Median.{median, once-most, order-few}
use Rattle.ray_tree.proofs.Counting.{has_items, either}
use Rattle.ray_tree.proofs.Locals.{tree_over, over_has, over_local, fit_at}
use Rattle.ray_tree.proofs.LeastLists.{same_least}
use Rattle.ray_stated.specs.declared.stored.StoredNode.{StoredNode}
use Rattle.ray_stated.specs.declared.tree_fault.TreeFault.{TreeFault}
use Rattle.ray_stated.specs.declared.tree_fault.TreeFault.TheVariants.{NotTree, NoMemory}
use Rattle.ray_stated.specs.Order.{stated_order}
use Rattle.ray_tree.specs.Trees.{no_box}
use Rattle.ray_stated.specs.Stated.{leaf_box, halved_tree}
use Rattle.ray_stated.specs.Stored.{stored_all, IsPreorder, IsEmpty, IsRooted, IsCarried}
use Rattle.ray_stated.specs.Carried.{read_as, in_preorder, all_below, each_once, due_box, all_due, is_tree, carried, IsRead, StatedIsCarried, IsReadBack}
use Rattle.ray_stated.proofs.LeafBoxes.{leaf_least}
use Rattle.ray_stated.proofs.Numbers.{holds_of}
use Rattle.ray_stated.proofs.Ordered.{stated_once}
use Rattle.ray_stated.proofs.Planned.{over_halved, halved-nodes, halved-order}
use Rattle.ray_stated.proofs.Walks.{is_preorder, preorder_is}
use Rattle.ray_stated.proofs.Reading.{IsReadable, readable, carried_by, carried_is, shape_by, boxed_by}

-- a test of each number below one
below_decides : (test : ℕ → Bool) (P : ℕ → Type 0) → ((k : ℕ) → Decides (test k) (P k)) → (n : ℕ) → Decides (all_below n test) ((k : ℕ) → k < n → P k)
below_decides test P each n = Decides-below_and test P (λ k. all_below k test) each refl (λ k. refl) n

-- each active item stands there once
none_active : (items : List (Option BoxValue)) (p : ℕ) → length items ≤ p → active items p ≡ 0
none_active items p le = ap {B = ℕ} (λ o. cond (is_some o) 1 0) (get_or_past items p None le)

counts : (b : Bool) → ◌≡◌ {A = ℕ} (cond b 1 0) 1 → b ≡ true
counts true h = refl
counts false h = absurd (omega (arith, h))

pub once_from : (items : List (Option BoxValue)) (order : List ℕ) → each_once items order ≡ true → (p : ℕ) → times p order ≡ active items p
once_from items order h p =
    let parts = and_parts (list_all (λ q. is_some (item_box items q)) order) (all_below (length items) (λ q. times q order == active items q)) h in
    let each = (below_decides (λ q. times q order == active items q) (λ q. times q order ≡ active items q) (λ q. Decides-eqb (times q order) (active items q)) (length items)).0 parts.1 in
    let all : All (IsActive items) order =
    All-weaker (λ q. is_some (item_box items q) ≡ true) (IsActive items) (λ q some. ap {B = ℕ} (λ b. cond b 1 0) some) order
    (AllPass-from_list_all (λ q. is_some (item_box items q)) order parts.0) in
    elim (either p (length items)) [
      | inl lt ↦ each p lt
      | inr le ↦ elim (either 0 (times p order)) [
        | inl some ↦ absurd (let is : active items p ≡ 1 = holds_of (IsActive items) p order all some in omega (arith, is, none_active items p le))
        | inr none ↦ omega (arith, none, none_active items p le)
      ]
    ]

pub once_to : (items : List (Option BoxValue)) (order : List ℕ) → ((p : ℕ) → times p order ≡ active items p) → each_once items order ≡ true
once_to items order once =
    and_from (list_all (λ q. is_some (item_box items q)) order) (all_below (length items) (λ q. times q order == active items q))
    (list_all-from_AllPass (λ q. is_some (item_box items q)) order
    (All-weaker (IsActive items) (λ q. is_some (item_box items q) ≡ true) (λ q one. counts (is_some (item_box items q)) one) order (has_items order items once).each))
    ((below_decides (λ q. times q order == active items q) (λ q. times q order ≡ active items q) (λ q. Decides-eqb (times q order) (active items q)) (length items)).1 (λ q lt. once q))

-- a node has the box that is due to it
module _ (items : List (Option BoxValue)) (order : List ℕ) (boxes : List BoxValue) (all : All (IsActive items) order) where
  local_of : (node : Node) (box : BoxValue) → IsFit (length order) (length boxes) node → box ≡ due_box items order boxes node → IsLocal items order boxes box node
  local_of (Leaf first count) box fit is = subst (IsLeast (HoldsBoxes (boxes_in items order first count))) (sym is) (leaf_least items order first count fit.0 fit.2 all)
  local_of (Inner left right) box fit is = λ other.
      is ∙ ap₂ union_of (get_or_default boxes left no_box other fit.0) (get_or_default boxes right no_box other fit.1)

  due_of : (node : Node) (box : BoxValue) → IsFit (length order) (length boxes) node → IsLocal items order boxes box node → box ≡ due_box items order boxes node
  due_of (Leaf first count) box fit local =
      same_least (boxes_in items order first count) box (leaf_box items order first count) local (leaf_least items order first count fit.0 fit.2 all)
  due_of (Inner left right) box fit local = local no_box

due_decides : (items : List (Option BoxValue)) (t : TreeValue) (n : ℕ)
    → Decides (box_eq (box_at t no_box n) (due_box items t.order t.boxes (node_at t.nodes n))) (box_at t no_box n ≡ due_box items t.order t.boxes (node_at t.nodes n))
due_decides items t n = box_eq-identical (box_at t no_box n) (due_box items t.order t.boxes (node_at t.nodes n))

module _ (stored : List StoredNode) (order : List ℕ) (items : List (Option BoxValue)) where
  all_decides : Decides (all_due items (read_as stored order)) ((n : ℕ) → n < length (read_as stored order).nodes
      → box_at (read_as stored order) no_box n ≡ due_box items order (read_as stored order).boxes (node_at (read_as stored order).nodes n))
  all_decides =
      let t = read_as stored order in
      below_decides (λ n. box_eq (box_at t no_box n) (due_box items t.order t.boxes (node_at t.nodes n)))
      (λ n. box_at t no_box n ≡ due_box items t.order t.boxes (node_at t.nodes n)) (due_decides items t) (length t.nodes)

  pub tree_to : is_tree items (read_as stored order) ≡ true → IsReadable stored order items
  tree_to h =
      let t = read_as stored order in
      let outer = and_parts (in_preorder t.nodes (length order)) (each_once items order && all_due items t) h in
      let inner = and_parts (each_once items order) (all_due items t) outer.1 in
      let pre = is_preorder t.nodes (length order) outer.0 in
      let once = once_from items order inner.0 in
      let has = has_items order items once in
      let shape = shape_by t.nodes t.boxes order pre (boxed_by stored) (once-most order items once) in
      let due = all_decides.0 inner.1 in
      let local : AreLocal items order t.boxes t.nodes = record {
        each = λ n small d.
            let low : n < length t.boxes = omega (arith, boxed_by stored, small) in
            let fit : IsFit (length order) (length t.boxes) (node_at t.nodes n) =
            subst (λ m. IsFit (length order) m (node_at t.nodes n)) (sym (boxed_by stored)) (fit_at t shape n small) in
            local_of items order t.boxes has.each (node_at t.nodes n) (box_at t d n) fit (get_or_default t.boxes n d no_box low ∙ due n small);
      } in
      record { preorder = pre; over = tree_over t items shape has local }

  pub tree_from : IsReadable stored order items → is_tree items (read_as stored order) ≡ true
  tree_from r =
      let t = read_as stored order in
      let has = over_has t items r.over in
      let local = over_local t items r.over in
      and_from (in_preorder t.nodes (length order)) (each_once items order && all_due items t) (preorder_is t.nodes (length order) r.preorder)
      (and_from (each_once items order) (all_due items t) (once_to items order r.over.active_once)
      (all_decides.1
      (λ n small.
      let fit : IsFit (length order) (length t.boxes) (node_at t.nodes n) =
      subst (λ m. IsFit (length order) m (node_at t.nodes n)) (sym (boxed_by stored)) (fit_at t r.over.shape n small) in
      due_of items order t.boxes has.each (node_at t.nodes n) (box_at t no_box n) fit (local.each n small no_box))))

  -- so `carried` gives what is carried
  given : (b : Bool) (u t : TreeValue) → (if b then Some u else None) ≡ Some t → (b ≡ true) × (u ≡ t)
  given true u t h = (refl, some_same u t h)
    where
      some_same : (x y : TreeValue) → Some x ≡ Some y → x ≡ y
      some_same x y e = cc
  given false u t h = absurd (none-some t h)

  pub carried_said : (t : TreeValue) → (carried stored order items ≡ Some t) ↔ IsCarried stored order items t
  carried_said t = (
    λ h.
        let parts = given (is_tree items (read_as stored order)) (read_as stored order) t h in
        subst (IsCarried stored order items) parts.1 (carried_by stored order items (tree_to parts.0)),
    λ h.
        ap (λ b. if b then Some (read_as stored order) else None) (tree_from (readable stored order items t h))
        ∙ ap (λ (u : TreeValue). Some u) (sym (carried_is stored order items t h)),
  )

low_by : (t : TreeValue) → IsPreorder t.nodes (length t.order) → levels (shape_at t 0) ≤ 96
low_by t (IsEmpty none empty) = (median t.nodes 0 none (omega arith)).low
low_by t (IsRooted s) =
    let low = s.low in
    omega (arith, ap levels (shape_of_spell t.nodes s.plan s.nodes_are), levels-label 0 0 s.plan, low)

pub carried_low : (stored : List StoredNode) (order : List ℕ) (items : List (Option BoxValue)) (t : TreeValue) → IsCarried stored order items t → levels (shape_at t 0) ≤ 96
carried_low stored order items t h = low_by t h.preorder

-- a tree by halves is in preorder
preorder_halved : (items : List (Option BoxValue)) (order : List ℕ) (n : ℕ) → length order ≡ n → n ≤ 2 ^ 20
    → IsPreorder (halved_tree items order n).nodes (length (halved_tree items order n).order)
preorder_halved items order zero long few = IsEmpty (halved-nodes items order zero) (ap length (halved-order items order zero) ∙ long)
preorder_halved items order (suc n) long few =
    let h = halved 18 (suc n) (omega arith) (omega (arith, few)) in
    let low = h.low 0 0 in
    IsRooted (record {
      plan = halves 18 (suc n);
      low = omega (arith, levels-label 0 0 (halves 18 (suc n)), low);
      small = h.small;
      nodes_are = halved-nodes items order (suc n);
      full = h.full ∙ sym (ap length (halved-order items order (suc n)) ∙ long);
    })

pub stated_carried : (items : List (Option BoxValue)) → length items ≤ 2 ^ 20 → StatedIsCarried items
stated_carried items few =
    let order = stated_order items in
    let short : length order ≤ 2 ^ 20 = omega (arith, order-few order items (stated_once items), few) in
    record {
      nodes = refl;
      places = refl;
      preorder = preorder_halved items order (length order) refl short;
      over = over_halved items order (length order) refl few (stated_once items);
    }

-- a tree in preorder is read from its spelling
pub read_back : (tree : TreeValue) (items : List (Option BoxValue)) → TreeOver tree items → IsPreorder tree.nodes (length tree.order) → IsReadBack tree items
read_back tree items over pre = by
  where
    own : IsCarried (stored_all tree.nodes tree.boxes) tree.order items tree
    own = record { nodes = refl; places = refl; preorder = pre; over = over }

    by : (result : Result TreeValue TreeFault) → IsRead (stored_all tree.nodes tree.boxes) tree.order items result → (result ≡ Ok tree) ⊎ (result ≡ Err NoMemory)
    by (Ok t) h =
        let stored = stored_all tree.nodes tree.boxes in
        inl (ap (λ (u : TreeValue). Ok u) (carried_is stored tree.order items t h ∙ sym (carried_is stored tree.order items tree own)))
    by (Err NotTree) h = absurd (h tree own)
    by (Err NoMemory) h = inr refl
