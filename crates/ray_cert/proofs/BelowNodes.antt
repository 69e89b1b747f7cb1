-- In any tree over the primitives of a structure, the box of each node holds what is found of the items below it.
use Rattle.std.proofs.Common.{◌≡◌, ◌∙◌, refl, sym, ap, subst, ℕ, zero, suc, ◌<◌, ◌≤◌, if◌then◌else◌, Option, Some, None, is_some, List, [], ◌∷◌, ◌++◌, All, length, take, drop, inl, inr, arith}
use Rattle.std.specs.List.{flat_map}
use Rattle.std.specs.Option.{option_to_list}
use Rattle.std.proofs.lemmas.List.Elements.{All-head}
use Rattle.ray_geom.specs.declared.ratio.Ratio.{Ratio}
use Rattle.ray_geom.specs.Scene.{IsRay, RayValue}
use Rattle.ray_geom.specs.Boxes.{BoxValue, IsPart}
use Rattle.ray_geom.specs.Frac.{numerator, denominator}
use Rattle.ray_geom.specs.ObjectRay.{object_of}
use Rattle.ray_prune.specs.BoxSpan.{IsInside}
use Rattle.ray_flags.specs.declared.ray_flags.RayFlags.{RayFlags}
use Rattle.ray_tree.specs.declared.node.Node.{Node}
use Rattle.ray_tree.specs.declared.node.Node.TheVariants as nodes
use Rattle.ray_tree.specs.Shapes.{Shape, Gone, Tip, Fork, levels, node_at, shape_in}
use Rattle.ray_tree.specs.Trees.{TreeOver, TreeValue, box_at, boxes_below, boxes_of, item_box, items_below, no_box, shape_at}
use Rattle.ray_tree.specs.Local.{IsActive}
use Rattle.ray_tree.proofs.Counting.{has_items}
use Rattle.ray_tree.proofs.LeastLists.{All-second}
use Rattle.ray_tree.proofs.NodeLaws.{at_inner, at_leaf}
use Rattle.ray_tree.proofs.Under.{shape_zero}
use Rattle.ray_bottom.specs.Trees.{items_of, place_at}
use Rattle.ray_query.specs.declared.found.Found.{Found}
use Rattle.ray_query.specs.Limits.{Holds}
use Rattle.ray_query.proofs.Members.{Each-from_members, Each-member, Member, Member-append, Member-flat_map}
use Rattle.ray_query.proofs.Orders.{Each, Each-from_All}
use Rattle.ray_candidates.specs.Placements.{IsWellPlaced, Placement, entry_in, found_by_item}
use Rattle.ray_candidates.proofs.Aligned.{are_aligned}
use Rattle.ray_candidates.proofs.FoundInside.{IsFoundIn, found_inside}
use Rattle.ray_candidates.proofs.LeafItems.{IsItem}
use Rattle.ray_candidates.proofs.Opened.{inside_held}
use Rattle.ray_cert.proofs.Marked.{All-left}

-- ---- items below a node

Member-take : (n : ℕ) (l : List ℕ) (q : ℕ) → Member q (take n l) → Member q l
Member-take zero l q m = absurd m
Member-take (suc n) [] q m = absurd m
Member-take (suc n) (x ∷ l) q (inl same) = inl same
Member-take (suc n) (x ∷ l) q (inr m) = inr (Member-take n l q m)

Member-drop : (n : ℕ) (l : List ℕ) (q : ℕ) → Member q (drop n l) → Member q l
Member-drop zero l q m = m
Member-drop (suc n) [] q m = absurd m
Member-drop (suc n) (x ∷ l) q m = inr (Member-drop n l q m)

in_order_of : (order : List ℕ) (s : Shape) (q : ℕ) → Member q (items_below order s) → Member q order
in_order_of order Gone q m = absurd m
in_order_of order (Tip node first count) q m = Member-drop first order q (Member-take count (drop first order) q m)
in_order_of order (Fork node left right) q m = elim (Member-append (items_below order left) (items_below order right) q m) [
  | inl here ↦ in_order_of order left q here
  | inr there ↦ in_order_of order right q there
]

abbrev one_for : Option BoxValue → ℕ
one_for o = if is_some o then 1 else 0

-- each item of the order is active
item_in_order : (tree : TreeValue) (items : List (Option BoxValue)) → TreeOver tree items → (q : ℕ) → Member q tree.order → IsItem items q
item_in_order tree items over q m =
    by (item_box items q) refl
    (Each-member (IsActive items) tree.order q (Each-from_All (IsActive items) tree.order (has_items tree.order items over.active_once).each) m)
  where
    by : (o : Option BoxValue) → item_box items q ≡ o → one_for (item_box items q) ≡ 1 → IsItem items q
    by None at is = let none = ap one_for at in absurd (omega (arith, is, none))
    by (Some box) at is = record { box = box; is_it = at }

-- what holds of the boxes of items holds of that of one
listed : (P : BoxValue → Type 0) (items : List (Option BoxValue)) (qs : List ℕ) (q : ℕ) (box : BoxValue) → Member q qs → item_box items q ≡ Some box
    → All P (boxes_of items qs) → P box
listed P items [] q box m is all = absurd m
listed P items (r ∷ qs) q box (inl same) is all =
    All-head P box (boxes_of items qs) (subst (λ o. All P (option_to_list o ++ boxes_of items qs)) (ap (item_box items) same ∙ is) all)
listed P items (r ∷ qs) q box (inr m) is all =
    listed P items qs q box m is (All-second P (option_to_list (item_box items r)) (boxes_of items qs) all)

listed_below : (P : BoxValue → Type 0) (items : List (Option BoxValue)) (order : List ℕ) (s : Shape) (q : ℕ) (box : BoxValue) → Member q (items_below order s)
    → item_box items q ≡ Some box → All P (boxes_below items order s) → P box
listed_below P items order Gone q box m is all = absurd m
listed_below P items order (Tip node first count) q box m is all = listed P items (take count (drop first order)) q box m is all
listed_below P items order (Fork node left right) q box m is all =
    elim (Member-append (items_below order left) (items_below order right) q m) [
      | inl here ↦
          listed_below P items order left q box here is (All-left P (boxes_below items order left) (boxes_below items order right) all)
      | inr there ↦
          listed_below P items order right q box there is (All-second P (boxes_below items order left) (boxes_below items order right) all)
    ]

-- ---- what is found below a node

-- a node holds all that is found below it, and so do those below it
abbrev pub AreHeld : (ℕ → Option Ratio) → (ℕ → List Found) → List ℕ → Shape → Type 0
AreHeld entry find order Gone = Unit {0}
AreHeld entry find order (Tip node first count) = Each (Holds (entry node)) (flat_map find (items_below order (Tip node first count)))
AreHeld entry find order (Fork node left right) =
    Each (Holds (entry node)) (flat_map find (items_below order (Fork node left right)))
    × AreHeld entry find order left × AreHeld entry find order right

same_some : (x y : BoxValue) → Some x ≡ Some y → x ≡ y
same_some x y p = cc

module _ (ray : RayValue) (flags : RayFlags) (i : ℕ) (p : Placement) (tree : TreeValue)
    (is_ray : IsRay ray) (well : IsWellPlaced p) (over : TreeOver tree (items_of p.bottom.geometries)) where
  abbrev entry : ℕ → Option Ratio
  entry n = entry_in (object_of ray p.instance.matrix) (box_at tree no_box n)

  held_item : (n q : ℕ) (f : Found) → n < length tree.nodes → Member q (items_below tree.order (shape_at tree n))
      → Member f (found_by_item ray flags i p q) → Holds (entry n) f
  held_item n q f small among found =
      let items = items_of p.bottom.geometries in
      let object = object_of ray p.instance.matrix in
      let outer = box_at tree no_box n in
      let here : IsFoundIn ray p (place_at p.bottom.geometries q) f = found_inside ray flags i p q f is_ray well found in
      let it : IsItem items q = item_in_order tree items over q (in_order_of tree.order (shape_at tree n) q among) in
      let same : here.box ≡ it.box = same_some here.box it.box (sym here.is_it ∙ (are_aligned p.bottom.geometries).each q it.box it.is_it) in
      let part : IsPart it.box outer =
      listed_below (λ b. IsPart b outer) items tree.order (shape_at tree n) q it.box among it.is_it (over.least n no_box small).holds in
      inside_held object it.box outer f part
      (subst (λ (b : BoxValue). IsInside object b (numerator f.t) (denominator f.t)) same here.inside)

  all_held : (n : ℕ) → n < length tree.nodes → Each (Holds (entry n)) (flat_map (found_by_item ray flags i p) (items_below tree.order (shape_at tree n)))
  all_held n small =
      Each-from_members (Holds (entry n)) (flat_map (found_by_item ray flags i p) (items_below tree.order (shape_at tree n)))
      (λ f m. let (q, among, found) = Member-flat_map (found_by_item ray flags i p) (items_below tree.order (shape_at tree n)) f m in
      held_item n q f small among found)

  abbrev All_in : Shape → Type 0
  All_in s = AreHeld entry (found_by_item ray flags i p) tree.order s

  held_node : (n : ℕ) → n < length tree.nodes → (node : Node) → node_at tree.nodes n ≡ node
      → ((m : ℕ) → m < length tree.nodes → suc (levels (shape_at tree m)) ≤ levels (shape_at tree n) → All_in (shape_at tree m)) → All_in (shape_at tree n)
  held_node n small (nodes.Leaf first count) at rest =
      let e : shape_at tree n ≡ Tip n first count = (at_leaf tree over.shape n first count small at).shape in
      subst All_in (sym e)
      (subst (λ s. Each (Holds (entry n)) (flat_map (found_by_item ray flags i p) (items_below tree.order s))) e (all_held n small))
  held_node n small (nodes.Inner l r) at rest =
      let inner = at_inner tree over.shape n l r small at in
      let tall : levels (shape_at tree n) ≡ levels (Fork n (shape_at tree l) (shape_at tree r)) = ap levels inner.shape in
      subst All_in (sym inner.shape) (
        subst (λ s. Each (Holds (entry n)) (flat_map (found_by_item ray flags i p) (items_below tree.order s))) inner.shape (all_held n small),
        rest l inner.left (omega (arith, tall)),
        rest r inner.right (omega (arith, tall)),
      )

  held_from : (d n : ℕ) → n < length tree.nodes → levels (shape_at tree n) ≤ d → All_in (shape_at tree n)
  held_from zero n small low = held_node n small (node_at tree.nodes n) refl (λ m there less. absurd (omega (arith, low, less)))
  held_from (suc d) n small low =
      held_node n small (node_at tree.nodes n) refl (λ m there less. held_from d m there (omega (arith, low, less)))

  -- from the root, if there is one
  pub root_held : AreHeld entry (found_by_item ray flags i p) tree.order (shape_at tree 0)
  root_held = by tree.nodes refl
    where
      by : (ns : List Node) → tree.nodes ≡ ns → AreHeld entry (found_by_item ray flags i p) tree.order (shape_at tree 0)
      by [] e =
          let empty : shape_at tree 0 ≡ shape_in 0 tree.nodes 0 = ap (λ (ms : List Node). shape_in (length ms) tree.nodes 0) e in
          subst (AreHeld entry (found_by_item ray flags i p) tree.order) (sym (empty ∙ shape_zero tree.nodes 0)) tt
      by (x ∷ xs) e =
          let many = ap length e in
          held_from (levels (shape_at tree 0)) 0 (omega (arith, many)) (omega arith)
