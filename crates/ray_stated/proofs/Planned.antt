-- The tree that a plan spells over the active items, in whatever order they stand, is a tree over the items.
use Rattle.std.proofs.Common.{◌≡◌, ◌∙◌, ◌+◌, ◌^◌, ◌<◌, ◌≤◌, inl, inr, ◌++◌, ℕ, zero, suc, Option, List, [], ◌∷◌, length, get_or, refl, sym, ap, ap₂, subst, arith, append_assoc, append-nil, length-append}
use Rattle.std.specs.List.{All}
use Rattle.std.proofs.lemmas.List.{ext_get_or}
use Rattle.ray_geom.specs.Boxes.{BoxValue}
use Rattle.ray_geom.specs.LeastBoxes.{union_of, HoldsBoxes, IsLeast}
use Rattle.ray_tree.specs.declared.node.Node.{Node}
use Rattle.ray_tree.specs.declared.node.Node.TheVariants.{Leaf, Inner}
use Rattle.ray_tree.specs.Shapes.{node_at, shape_in}
use Rattle.ray_tree.specs.Trees.{TreeValue, tree_value, boxes_in, boxes_below, times, active, TreeOver}
use Rattle.ray_tree.specs.Local.{IsActive, IsLocal, IsLocalAt, AreLocal}
use Rattle.ray_tree.specs.Plans.{Plan, Few, Both, size, places_of, spell, AreSmall, halves, median_nodes}
use Rattle.ray_tree.proofs.Spelled.{length-spell, shape_of_plan}
use Rattle.ray_tree.proofs.Halved.{halved}
use Rattle.ray_tree.proofs.Median.{order-few, once-most, median}
use Rattle.ray_tree.proofs.Counting.{either, has_items}
use Rattle.ray_tree.proofs.Locals.{tree_over}
use Rattle.ray_tree.proofs.LeastLists.{same_least}
use Rattle.ray_tree.specs.Trees.{no_box}
use Rattle.ray_stated.specs.Stated.{root_box, node_boxes, planned_tree, halved_tree}
use Rattle.ray_stated.proofs.LeafBoxes.{leaf_least}

pub length-node_boxes : (items : List (Option BoxValue)) (order : List ℕ) (first : ℕ) (p : Plan) → length (node_boxes items order first p) ≡ size p
length-node_boxes items order first (Few count) = refl
length-node_boxes items order first (Both l r) =
    omega (
      arith,
      length-append (node_boxes items order first l) (node_boxes items order (first + places_of l) r),
      length-node_boxes items order first l,
      length-node_boxes items order (first + places_of l) r,
    )

-- what stands behind a list's front
pub middle : {X : Type 0} (front : List X) (x : X) (rest : List X) (d : X) → get_or (front ++ (x ∷ rest)) (length front) d ≡ x
middle [] x rest d = refl
middle (y ∷ front) x rest d = middle front x rest d

at_middle : {X : Type 0} (xs front : List X) (x : X) (rest : List X) (n : ℕ) (d : X) → xs ≡ front ++ (x ∷ rest) → length front ≡ n → get_or xs n d ≡ x
at_middle xs front x rest n d is long = (λ i. get_or (is i) (sym long i) d) ∙ middle front x rest d

regroup_left : {X : Type 0} (front : List X) (x : X) (l r rest : List X) → front ++ ((x ∷ (l ++ r)) ++ rest) ≡ (front ++ (x ∷ [])) ++ (l ++ (r ++ rest))
regroup_left front x l r rest = simp append_assoc

regroup_right : {X : Type 0} (front : List X) (x : X) (l r rest : List X) → front ++ ((x ∷ (l ++ r)) ++ rest) ≡ (front ++ (x ∷ l)) ++ (r ++ rest)
regroup_right front x l r rest = simp append_assoc

module _ (items : List (Option BoxValue)) (order : List ℕ) (nodes : List Node) (boxes : List BoxValue) where
  -- a part of the plan is spelled from a node and a place on
  pub record Stands (at first : ℕ) (p : Plan) : Type 0 where
    pub front : List Node
    pub rest : List Node
    pub box_front : List BoxValue
    pub box_rest : List BoxValue
    pub nodes_are : nodes ≡ front ++ (spell at first p ++ rest)
    pub boxes_are : boxes ≡ box_front ++ (node_boxes items order first p ++ box_rest)
    pub long : length front ≡ at
    pub box_long : length box_front ≡ at
    pub small : AreSmall p
    pub within : first + places_of p ≤ length order

  left_part : (at first : ℕ) (l r : Plan) → Stands at first (Both l r) → Stands (at + 1) first l
  left_part at first l r s =
      let x : Node = Inner (at + 1) ((at + 1) + size l) in
      let b = root_box items order first (Both l r) in
      let rs = spell ((at + 1) + size l) (first + places_of l) r in
      let bs = node_boxes items order (first + places_of l) r in
      record {
        front = s.front ++ (x ∷ []);
        rest = rs ++ s.rest;
        box_front = s.box_front ++ (b ∷ []);
        box_rest = bs ++ s.box_rest;
        nodes_are = s.nodes_are ∙ regroup_left s.front x (spell (at + 1) first l) rs s.rest;
        boxes_are = s.boxes_are ∙ regroup_left s.box_front b (node_boxes items order first l) bs s.box_rest;
        long = omega (arith, length-append s.front (x ∷ []), s.long);
        box_long = omega (arith, length-append s.box_front (b ∷ []), s.box_long);
        small = s.small.0;
        within = let w = s.within in omega arith;
      }

  right_part : (at first : ℕ) (l r : Plan) → Stands at first (Both l r) → Stands ((at + 1) + size l) (first + places_of l) r
  right_part at first l r s =
      let x : Node = Inner (at + 1) ((at + 1) + size l) in
      let b = root_box items order first (Both l r) in
      let ls = spell (at + 1) first l in
      let cs = node_boxes items order first l in
      record {
        front = s.front ++ (x ∷ ls);
        rest = s.rest;
        box_front = s.box_front ++ (b ∷ cs);
        box_rest = s.box_rest;
        nodes_are = s.nodes_are ∙ regroup_right s.front x ls (spell ((at + 1) + size l) (first + places_of l) r) s.rest;
        boxes_are = s.boxes_are ∙ regroup_right s.box_front b cs (node_boxes items order (first + places_of l) r) s.box_rest;
        long = omega (arith, length-append s.front (x ∷ ls), length-spell (at + 1) first l, s.long);
        box_long = omega (arith, length-append s.box_front (b ∷ cs), length-node_boxes items order first l, s.box_long);
        small = s.small.1;
        within = let w = s.within in omega arith;
      }

  -- the box of its root
  at_root : (at first : ℕ) (p : Plan) (d : BoxValue) → Stands at first p → get_or boxes at d ≡ root_box items order first p
  at_root at first (Few count) d s = at_middle boxes s.box_front (root_box items order first (Few count)) s.box_rest at d s.boxes_are s.box_long
  at_root at first (Both l r) d s =
      at_middle boxes s.box_front (root_box items order first (Both l r))
      ((node_boxes items order first l ++ node_boxes items order (first + places_of l) r) ++ s.box_rest) at d s.boxes_are s.box_long

  module _ (active : All (IsActive items) order) where
    root_local : (at first : ℕ) (p : Plan) → Stands at first p → IsLocalAt items order boxes nodes at
    root_local at first (Few count) s = λ d.
        let node : node_at nodes at ≡ Leaf first count = at_middle nodes s.front (Leaf first count) s.rest at (Leaf 0 0) s.nodes_are s.long in
        subst (λ x. IsLocal items order boxes (get_or boxes at d) x) (sym node)
        (subst (IsLeast (HoldsBoxes (boxes_in items order first count))) (sym (at_root at first (Few count) d s))
        (leaf_least items order first count s.small.0 s.within active))
    root_local at first (Both l r) s = λ d.
        let node : node_at nodes at ≡ Inner (at + 1) ((at + 1) + size l) =
        at_middle nodes s.front (Inner (at + 1) ((at + 1) + size l)) ((spell (at + 1) first l ++ spell ((at + 1) + size l) (first + places_of l) r) ++ s.rest)
        at (Leaf 0 0) s.nodes_are s.long in
        subst (λ x. IsLocal items order boxes (get_or boxes at d) x) (sym node)
        (λ other.
        at_root at first (Both l r) d s
        ∙ sym (ap₂ union_of (at_root (at + 1) first l other (left_part at first l r s))
        (at_root ((at + 1) + size l) (first + places_of l) r other (right_part at first l r s))))

    -- and so of each of its nodes
    pub each_local : (p : Plan) (at first n : ℕ) → Stands at first p → at ≤ n → n < at + size p → IsLocalAt items order boxes nodes n
    each_local (Few count) at first n s le lt =
        let same : at ≡ n = omega arith in
        subst (λ k. IsLocalAt items order boxes nodes k) same (root_local at first (Few count) s)
    each_local (Both l r) at first n s le lt = elim (either at n) [
      | inr back ↦ (let same : at ≡ n = omega arith in
          subst (λ k. IsLocalAt items order boxes nodes k) same (root_local at first (Both l r) s))
      | inl after ↦ elim (either n ((at + 1) + size l)) [
        | inl a ↦ each_local l (at + 1) first n (left_part at first l r s) (omega arith) a
        | inr b ↦ each_local r ((at + 1) + size l) (first + places_of l) n (right_part at first l r s) b (omega arith)
      ]
    ]

pub over_planned : (items : List (Option BoxValue)) (order : List ℕ) (p : Plan) → AreSmall p → places_of p ≡ length order
    → ((q : ℕ) → times q order ≡ active items q) → TreeOver (planned_tree items order p) items
over_planned items order p small full once =
    let nodes = spell 0 0 p in
    let boxes = node_boxes items order 0 p in
    let has = has_items order items once in
    let shape = shape_of_plan nodes boxes order p refl full small (length-node_boxes items order 0 p ∙ sym (length-spell 0 0 p)) (once-most order items once) in
    let whole : Stands items order nodes boxes 0 0 p = record {
      front = [];
      rest = [];
      box_front = [];
      box_rest = [];
      nodes_are = sym (append-nil nodes);
      boxes_are = sym (append-nil boxes);
      long = refl;
      box_long = refl;
      small = small;
      within = omega (arith, full);
    } in
    let local : AreLocal items order boxes nodes =
    record { each = λ n lt. each_local items order nodes boxes has.each p 0 0 n whole (omega arith) (omega (arith, length-spell 0 0 p, lt)) } in
    tree_over (planned_tree items order p) items shape has local

-- the tree by halves
pub halved_none : (items : List (Option BoxValue)) (order : List ℕ) → halved_tree items order zero ≡ tree_value [] [] order
unfolding halved_tree
halved_none items order = refl

pub halved_some : (items : List (Option BoxValue)) (order : List ℕ) (n : ℕ) → halved_tree items order (suc n) ≡ planned_tree items order (halves 18 (suc n))
unfolding halved_tree
halved_some items order n = refl

over_none : (items : List (Option BoxValue)) (order : List ℕ) → length order ≡ 0 → ((q : ℕ) → times q order ≡ active items q) → TreeOver (tree_value [] [] order) items
over_none items order none once =
    tree_over (tree_value [] [] order) items ((median [] 0 refl (omega arith)).shape [] order none refl (once-most order items once))
    (has_items order items once) (record { each = λ n lt. absurd (omega arith) })

pub over_halved : (items : List (Option BoxValue)) (order : List ℕ) (n : ℕ) → length order ≡ n → length items ≤ 2 ^ 20
    → ((q : ℕ) → times q order ≡ active items q) → TreeOver (halved_tree items order n) items
over_halved items order zero long few once = subst (λ t. TreeOver t items) (sym (halved_none items order)) (over_none items order long once)
over_halved items order (suc n) long few once =
    let h = halved 18 (suc n) (omega arith) (omega (arith, order-few order items once, long)) in
    subst (λ t. TreeOver t items) (sym (halved_some items order n)) (over_planned items order (halves 18 (suc n)) h.small (h.full ∙ sym long) once)

pub halved-nodes : (items : List (Option BoxValue)) (order : List ℕ) (n : ℕ) → (halved_tree items order n).nodes ≡ median_nodes n
halved-nodes items order zero = ap (λ (t : TreeValue). t.nodes) (halved_none items order)
halved-nodes items order (suc n) = ap (λ (t : TreeValue). t.nodes) (halved_some items order n)

pub halved-order : (items : List (Option BoxValue)) (order : List ℕ) (n : ℕ) → (halved_tree items order n).order ≡ order
halved-order items order zero = ap (λ (t : TreeValue). t.order) (halved_none items order)
halved-order items order (suc n) = ap (λ (t : TreeValue). t.order) (halved_some items order n)

-- a tree over items is given by its nodes and its order
same_boxes : (nodes : List Node) (bs cs : List BoxValue) (order : List ℕ) (items : List (Option BoxValue)) (d : BoxValue) → TreeOver (tree_value nodes bs order) items
    → TreeOver (tree_value nodes cs order) items → bs ≡ cs
same_boxes nodes bs cs order items d t u =
    ext_get_or d bs cs (t.shape.boxed ∙ sym u.shape.boxed)
    (λ n lt. let small : n < length nodes = omega (arith, t.shape.boxed, lt) in
    same_least (boxes_below items order (shape_in (length nodes) nodes n)) (get_or bs n d) (get_or cs n d) (t.least n d small) (u.least n d small))

pub same_tree : (t u : TreeValue) (items : List (Option BoxValue)) → TreeOver t items → TreeOver u items → t.nodes ≡ u.nodes → t.order ≡ u.order → t ≡ u
same_tree t u items a b nodes order =
    let moved : TreeOver (tree_value t.nodes u.boxes t.order) items = subst (λ (v : TreeValue). TreeOver v items) (λ i. tree_value (sym nodes i) u.boxes (sym order i)) b in
    let boxes = same_boxes t.nodes t.boxes u.boxes t.order items no_box a moved in
    λ i. tree_value (nodes i) (boxes i) (order i)
