-- What a walk finds is what the ray finds, in another order.
use Rattle.std.proofs.Common.{ℕ, ◌≡◌, ◌<◌, Bool, true, false, Option, Some, None, List, [], ◌∷◌, length, get_or, option_map, refl, sym, ap, subst, ◌∙◌, arith}
use Rattle.std.specs.Prelude.{All, IsSome, option_and_then, if◌then◌else◌}
use Rattle.std.specs.List.{flat_map}
use Rattle.std.specs.List.Sorted.{IsPermutation}
use Rattle.std.proofs.lemmas.List.{append-nil}
use Rattle.std.proofs.lemmas.List.Concat.{flat_map-cons}
use Rattle.std.proofs.lemmas.List.Elements.{All-nil}
use Rattle.std.proofs.lemmas.List.Sorted.{IsPermutation-refl}
use Rattle.ray_geom.specs.Boxes.{BoxValue, corners_of}
use Rattle.ray_geom.specs.Transform.{MatrixValue}
use Rattle.ray_geom.proofs.LeastBoxes.{IsLeastOf-boxes}
use Rattle.ray_prune.specs.Pruning.{box_of_images}
use Rattle.ray_prune.proofs.Corners.{IsImageBox-fold}
use Rattle.ray_tree.specs.declared.node.Node.{Node}
use Rattle.ray_tree.specs.Shapes.{shape_in}
use Rattle.ray_tree.specs.Trees.{TreeValue, TreeOver, shape_at, item_box}
use Rattle.ray_tree.specs.Local.{IsActive}
use Rattle.ray_tree.proofs.Counting.{has_items, active-below}
use Rattle.ray_tree.proofs.Rooted.{has_root}
use Rattle.ray_tree.proofs.Under.{shape_zero}
use Rattle.ray_tree.specs.Trees.{items_below}
use Rattle.ray_geometries.specs.declared.geometry.Geometry.{Geometry}
use Rattle.ray_geometries.specs.Contents.{active_boxes, bounds_of}
use Rattle.ray_bottom.specs.Slots.{structure_at}
use Rattle.ray_bottom.specs.Trees as bottoms
use Rattle.ray_top.specs.Instances.{InstanceValue}
use Rattle.ray_top.specs.Trees as tops
use Rattle.ray_nearest.specs.Parts.{AreParts}
use Rattle.ray_candidates.specs.Candidates.{active_instance, found_in_instance, found_in_structure, is_seen}
use Rattle.ray_candidates.specs.Standing.{structures_in}
use Rattle.ray_walk.specs.Sound.{IsWalkable}
use Rattle.ray_walk.specs.Traced.{Traced, IsNode, found_of_item, parts_of, placement_at, placement_of, ref, root_in, roots_by}
use Rattle.ray_candidates.specs.Placements.{Placement}
use Rattle.ray_walk.proofs.WellPlaced.{is_placement}
use Rattle.ray_candidates.proofs.StructureFound.{active-some, bottom-found}
use Rattle.ray_candidates.proofs.Aligned.{item-aligned}
use Rattle.ray_candidates.proofs.Bounded.{prim_held}
use Rattle.ray_walk.proofs.Every.{all, of_instance, bottom-every}

-- below the root of a tree, if it has one, is what its items give
pub root-gives : {X Y : Type 0} (G : X → List Y) (F : ℕ → List Y) (tree : TreeValue) (root : X)
    → (0 < length tree.nodes → G root ≡ flat_map F (items_below tree.order (shape_at tree 0)))
    → flat_map G (root_in tree.nodes root) ≡ flat_map F (items_below tree.order (shape_at tree 0))
root-gives G F tree root gives = by tree.nodes refl
  where
    by : (ns : List Node) → tree.nodes ≡ ns → flat_map G (root_in ns root) ≡ flat_map F (items_below tree.order (shape_at tree 0))
    by [] e =
        let empty : shape_at tree 0 ≡ shape_in 0 tree.nodes 0 = ap (λ (ns : List Node). shape_in (length ns) tree.nodes 0) e in
        sym (ap (λ t. flat_map F (items_below tree.order t)) (empty ∙ shape_zero tree.nodes 0))
    by (x ∷ xs) e =
        flat_map-cons G root [] ∙ (append-nil (G root) ∙ gives (let many = ap length e in omega (arith, many)))

-- ---- a structure without bounds has no root

world-some : (m : MatrixValue) (box : BoxValue) → tops.world_box m box ≡ None → ⊥
unfolding tops.world_box
world-some m box e =
    let is = IsImageBox-fold m box (corners_of box) (box_of_images m (corners_of box)) refl refl in
    let never : IsSome {T = BoxValue} None = subst IsSome e is.some in
    cc

pub no_bounds : (m : MatrixValue) (o : Option BoxValue) → option_and_then (tops.world_box m) o ≡ None → o ≡ None
no_bounds m None e = refl
no_bounds m (Some box) e = absurd (world-some m box e)

is-active : (items : List (Option BoxValue)) (q : ℕ) → IsActive items q → (box : BoxValue) × (item_box items q ≡ Some box)
is-active items q is = by (item_box items q) refl
  where
    by : (o : Option BoxValue) → item_box items q ≡ o → (box : BoxValue) × (item_box items q ≡ Some box)
    by None e = let none = active-some items q None e in absurd (omega (arith, none, is))
    by (Some box) e = (box, e)

pub no-root : (tree : TreeValue) (gs : List Geometry) → TreeOver tree (bottoms.items_of gs) → bounds_of gs ≡ None → 0 < length tree.nodes → ⊥
no-root tree gs over none some =
    let items = bottoms.items_of gs in
    let has = has_items tree.order items over.active_once in
    let many = has.many in
    let first = (has_root tree items over).0 some in
    let q = get_or tree.order 0 0 in
    let is : IsActive items q = has.each 0 0 (omega (arith, many, first)) in
    let at = is-active items q is in
    let empty : active_boxes gs ≡ [] = (IsLeastOf-boxes (active_boxes gs) (bounds_of gs) refl).1.0 none in
    prim_held (λ b. ⊥) gs (bottoms.place_at gs q) at.0
    (sym (item-aligned gs q (active-below items q is)) ∙ at.1)
    (subst (λ bs. All (λ b. ⊥) bs) (sym empty) (All-nil (λ b. ⊥)))

-- ---- an instance, and all of them

module _ (s : Traced) (well : IsWalkable s) (parts : AreParts (IsNode s) (parts_of s)) where
  placed-found : (j : ℕ) (p : Placement) → placement_at s j ≡ Some p
      → IsPermutation (of_instance s parts j) (found_in_structure s.ray s.flags j p.instance (Some (bottoms.without_tree p.bottom)))
  placed-found j p is =
      let over = (well.bottoms.each p.instance.id p.bottom (is_placement s j p is).stands).over in
      let same : of_instance s parts j ≡ flat_map (found_of_item s j p) (items_below p.bottom.tree.order (shape_at p.bottom.tree 0)) =
      ap (λ o. flat_map (all s parts) (roots_by j o)) is
      ∙ root-gives (all s parts) (found_of_item s j p) p.bottom.tree (ref j p.bottom.tree 0) (λ some. bottom-every s parts j p is over.shape 0 some) in
      subst (λ zs. IsPermutation zs (found_in_structure s.ray s.flags j p.instance (Some (bottoms.without_tree p.bottom)))) (sym same) (bottom-found s.ray s.flags j p p.bottom.tree over)

  by_structure : (j : ℕ) (i : InstanceValue) (o : Option bottoms.BottomWithTree) → structure_at i.id s.bottoms ≡ o → is_seen s.mask i ≡ true
      → placement_at s j ≡ placement_of s.bottoms s.mask i
      → IsPermutation (of_instance s parts j) (found_in_structure s.ray s.flags j i (option_map bottoms.without_tree o))
  by_structure j i None e seen is =
      let none : placement_at s j ≡ None =
      is ∙ (λ k. if seen k then option_map (λ b. record { instance = i; bottom = b }) (e k) else None) in
      subst (λ zs. IsPermutation zs []) (sym (ap (λ o. flat_map (all s parts) (roots_by j o)) none)) (IsPermutation-refl [])
  by_structure j i (Some b) e seen is =
      placed-found j (record { instance = i; bottom = b })
      (is ∙ (λ k. if seen k then option_map (λ c. record { instance = i; bottom = c }) (e k) else None))

  by_mask : (j : ℕ) (i : InstanceValue) (b : Bool) → is_seen s.mask i ≡ b → placement_at s j ≡ placement_of s.bottoms s.mask i
      → IsPermutation (of_instance s parts j) (if b then found_in_structure s.ray s.flags j i (structures_in s.bottoms i.id) else [])
  by_mask j i true seen is = by_structure j i (structure_at i.id s.bottoms) refl seen is
  by_mask j i false seen is =
      let none : placement_at s j ≡ None =
      is ∙ (λ k. if seen k then option_map (λ c. record { instance = i; bottom = c }) (structure_at i.id s.bottoms) else None) in
      subst (λ zs. IsPermutation zs []) (sym (ap (λ o. flat_map (all s parts) (roots_by j o)) none)) (IsPermutation-refl [])

  by_active : (j : ℕ) (o : Option InstanceValue) → active_instance s.top.contents j ≡ o
      → IsPermutation (of_instance s parts j) (found_in_instance (structures_in s.bottoms) s.ray s.flags s.mask j o)
  by_active j None e =
      let none : placement_at s j ≡ None = ap (option_and_then (placement_of s.bottoms s.mask)) e in
      subst (λ zs. IsPermutation zs []) (sym (ap (λ o. flat_map (all s parts) (roots_by j o)) none)) (IsPermutation-refl [])
  by_active j (Some i) e = by_mask j i (is_seen s.mask i) refl (ap (option_and_then (placement_of s.bottoms s.mask)) e)

  pub instance-found : (j : ℕ) → IsPermutation (of_instance s parts j) (found_in_instance (structures_in s.bottoms) s.ray s.flags s.mask j (active_instance s.top.contents j))
  instance-found j = by_active j (active_instance s.top.contents j) refl
