-- What is found of the items of any tree over the primitives of a structure, from the leftmost leaf on, is what is found in the structure,
-- in another order.
use Rattle.std.proofs.Common.{ℕ, zero, suc, ◌≡◌, ◌<◌, ◌≤◌, Option, Some, None, List, [], ◌∷◌, length, get_or, refl, sym, ap, subst, ◌∙◌, inl, inr, arith}
use Rattle.std.specs.Prelude.{◌⊎◌, slice_get, is_some, if◌then◌else◌}
use Rattle.std.specs.List.{flat_map}
use Rattle.std.specs.List.Sorted.{IsPermutation}
use Rattle.ray_geom.specs.Boxes.{BoxValue}
use Rattle.ray_geom.specs.Scene.{RayValue}
use Rattle.ray_flags.specs.declared.ray_flags.RayFlags.{RayFlags}
use Rattle.ray_tree.specs.Trees.{TreeValue, TreeOver, shape_at, times, active, item_box, items_below}
use Rattle.ray_geometries.specs.declared.geometry.Geometry.{Geometry}
use Rattle.ray_geometries.specs.Contents.{count_of}
use Rattle.ray_leaves.specs.Places.{place_of}
use Rattle.ray_bottom.specs.Trees as bottoms
use Rattle.ray_candidates.specs.Candidates.{found_in_geometry, found_in_structure, joined}
use Rattle.ray_candidates.specs.Placements.{Placement, found_by, found_by_item, found_by_place}
use Rattle.ray_candidates.proofs.Spread.{IsSpread, joined-spread}
use Rattle.ray_candidates.proofs.Leaves.{items-once}
use Rattle.ray_candidates.proofs.Aligned.{item-aligned, joined-places}
use Rattle.ray_candidates.proofs.Missing.{inactive-none}

-- ---- items

get-past : {X : Type 0} (xs : List (Option X)) (k : ℕ) → length xs ≤ k → get_or xs k None ≡ None
get-past [] k past = refl
get-past (x ∷ xs) zero past = absurd (omega (arith, past))
get-past (x ∷ xs) (suc k) past = get-past xs k (omega (arith, past))

active-past : (items : List (Option BoxValue)) (q : ℕ) → length items ≤ q → active items q ≡ 0
active-past items q past = ap (λ (o : Option BoxValue). if is_some o then 1 else 0) (get-past items q past)

pub active-some : (items : List (Option BoxValue)) (q : ℕ) (o : Option BoxValue) → item_box items q ≡ o → active items q ≡ (if is_some o then 1 else 0)
active-some items q o e = ap (λ (p : Option BoxValue). if is_some p then 1 else 0) e

-- each item of a tree stands in its leaves once where it is active, and else nothing may be given of it
module _ {X : Type 0} (F : ℕ → List X) (tree : TreeValue) (items : List (Option BoxValue)) (over : TreeOver tree items)
    (nothing : (q : ℕ) → q < length items → item_box items q ≡ None → F q ≡ []) where
  spread-each : (q : ℕ) → q < length items → (o : Option BoxValue) → item_box items q ≡ o
      → (times q (items_below tree.order (shape_at tree 0)) ≡ 1) ⊎ ((times q (items_below tree.order (shape_at tree 0)) ≡ 0) × (F q ≡ []))
  spread-each q below None e = inr (items-once tree items over q ∙ active-some items q None e, nothing q below e)
  spread-each q below (Some box) e = inl (items-once tree items over q ∙ active-some items q (Some box) e)

  pub tree-spread : IsSpread F (length items) (items_below tree.order (shape_at tree 0))
  tree-spread = record {
    none = λ q from. items-once tree items over q ∙ active-past items q from;
    each = λ q below. spread-each q below (item_box items q) refl;
  }

-- ---- the structure of an instance

module _ (ray : RayValue) (flags : RayFlags) (i : ℕ) (p : Placement) (tree : TreeValue) (over : TreeOver tree (bottoms.items_of p.bottom.geometries)) where
  by_places : (k : ℕ) (g : Geometry) → slice_get p.bottom.geometries k ≡ Some g
      → found_in_geometry ray flags p.bottom.geometries i p.instance k (Some g) ≡ joined (λ q. found_by_place ray flags i p (place_of k q)) (count_of g)
  by_places k g at = λ j. joined (λ q. found_by ray flags i p (place_of k q) (sym at j)) (count_of g)

  pub bottom-found : IsPermutation (flat_map (found_by_item ray flags i p) (items_below tree.order (shape_at tree 0)))
      (found_in_structure ray flags i p.instance (Some (bottoms.without_tree p.bottom)))
  bottom-found =
      let gs = p.bottom.geometries in
      let items = bottoms.items_of gs in
      let F = found_by_item ray flags i p in
      let spread = tree-spread F tree items over
      (λ q below e. inactive-none ray flags i p (bottoms.place_at gs q) (sym (item-aligned gs q below) ∙ e)) in
      subst (λ zs. IsPermutation (flat_map F (items_below tree.order (shape_at tree 0))) zs)
      (joined-places (found_by_place ray flags i p) (λ k o. found_in_geometry ray flags gs i p.instance k o) gs by_places)
      (joined-spread F (length items) (items_below tree.order (shape_at tree 0)) spread)
