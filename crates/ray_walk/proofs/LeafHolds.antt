-- The box of a leaf holds what is found there.
use Rattle.std.proofs.Common.{◌≡◌, sym, subst, ℕ, ◌<◌, Option, Some, option_and_then, All, length}
use Rattle.ray_geom.specs.Scene.{IsRay}
use Rattle.ray_query.specs.declared.found.Found.{Found}
use Rattle.ray_nearest.specs.declared.node.WalkNode.TheVariants.{Leaf}
use Rattle.ray_query.specs.Limits.{Holds}
use Rattle.ray_query.specs.Limits.{IsInOrder}
use Rattle.ray_walk.specs.Traced.{Traced, placement_at, entry_of_placement, bottom_entry, found_of_item, found_in_leaf, finds, IsBottomNode}
use Rattle.ray_candidates.specs.Placements.{Placement, items_at}
use Rattle.ray_candidates.specs.Placements.{AreAligned, IsWellPlaced}
use Rattle.ray_query.proofs.Members.{Member, Each-from_members, All-from_Each}
use Rattle.ray_candidates.proofs.LeafItems.{IsFrom, Member-flat_map}
use Rattle.ray_candidates.proofs.TreeHolds.{IsHeld, held_item}

-- what is found in a leaf
held_leaf : (s : Traced) (i n : ℕ) (p : Placement) (f : Found) → IsRay s.ray → IsWellPlaced p → AreAligned p.bottom.geometries
    → n < length p.bottom.tree.nodes → Member f (found_in_leaf s i n (Some p)) → IsHeld s.ray p p.bottom.tree n f
held_leaf s i n p f r w aligned small m =
    let from : IsFrom (found_of_item s i p) (items_at p.bottom.tree n) f = Member-flat_map (found_of_item s i p) (items_at p.bottom.tree n) f m in
    held_item s.ray s.flags i n p p.bottom.tree from.at f r w aligned w.sound.over small from.from from.given

-- what callers know of the placements
pub record ArePlaced (s : Traced) : Type 0 where
  pub well : (i : ℕ) (p : Placement) → placement_at s i ≡ Some p → IsWellPlaced p
  pub aligned : (i : ℕ) (p : Placement) → placement_at s i ≡ Some p → AreAligned p.bottom.geometries

pub holds_leaf : (s : Traced) (i n : ℕ) → IsRay s.ray → ArePlaced s → IsBottomNode s i n → All (Holds (bottom_entry s i n)) (finds s (Leaf i n))
holds_leaf s i n r placed node =
    let p = node.placement in
    subst (λ (o : Option Placement). All (Holds (option_and_then (λ (q : Placement). entry_of_placement s.ray q n) o)) (found_in_leaf s i n o)) (sym node.is_it)
    (All-from_Each (Holds (entry_of_placement s.ray p n)) (found_in_leaf s i n (Some p))
    (Each-from_members (Holds (entry_of_placement s.ray p n)) (found_in_leaf s i n (Some p))
    (λ f m. (held_leaf s i n p f r (placed.well i p node.is_it) (placed.aligned i p node.is_it) node.there m).holds)))

pub in_order_leaf : (s : Traced) (i n : ℕ) → IsRay s.ray → ArePlaced s → IsBottomNode s i n → All IsInOrder (finds s (Leaf i n))
in_order_leaf s i n r placed node =
    let p = node.placement in
    subst (λ (o : Option Placement). All IsInOrder (found_in_leaf s i n o)) (sym node.is_it)
    (All-from_Each IsInOrder (found_in_leaf s i n (Some p))
    (Each-from_members IsInOrder (found_in_leaf s i n (Some p))
    (λ f m. (held_leaf s i n p f r (placed.well i p node.is_it) (placed.aligned i p node.is_it) node.there m).in_order)))
