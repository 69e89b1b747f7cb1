-- Each placement is of an active instance whose mask is seen, with the structure that stands under its id; and it is within the limits.
use Rattle.std.proofs.Common.{◌≡◌, ◌∙◌, refl, sym, ap, subst, ℕ, Bool, true, false, if◌then◌else◌, Option, Some, None, option_map, option_and_then, IfSome, IsSomeAnd, slice_get}
use Rattle.ray_geom.specs.Boxes.{BoxValue}
use Rattle.ray_contents.specs.Bounds.{KeepsBounds}
use Rattle.ray_geometries.specs.Contents.{ContentsValue as BottomContents, bounds_of}
use Rattle.ray_bottom.specs.Slots.{Slots, structure_at, AreSound}
use Rattle.ray_bottom.specs.Trees.{BottomWithTree, without_tree as contents_of}
use Rattle.ray_top.specs.Instances.{InstanceValue}
use Rattle.ray_top.specs.InstanceReading.{bounds_in}
use Rattle.ray_top.specs.Contents.{IsTop, IsActive, IsInstance}
use Rattle.ray_top.specs.Trees.{without_tree}
use Rattle.ray_candidates.specs.Candidates.{is_seen}
use Rattle.ray_candidates.specs.Standing.{IsStanding, AreStanding, structures_in}
use Rattle.ray_walk.specs.Traced.{Traced, placement_of, placement_at}
use Rattle.ray_candidates.specs.Placements.{Placement}
use Rattle.ray_candidates.specs.Placements.{IsWellPlaced}
use Rattle.ray_candidates.proofs.Placing.{All-at}

-- what a placement is
pub record IsPlacement (s : Traced) (i : ℕ) (p : Placement) : Type 0 where
  pub active : slice_get s.top.contents.instances i ≡ Some (Some p.instance)
  pub seen : is_seen s.mask p.instance ≡ true
  pub stands : structure_at p.instance.id s.bottoms ≡ Some p.bottom

-- of an instance
record IsPlacementOf (bottoms : Slots) (mask : ℕ) (i : InstanceValue) (p : Placement) : Type 0 where
  pub instance : i ≡ p.instance
  pub seen : is_seen mask i ≡ true
  pub stands : structure_at i.id bottoms ≡ Some p.bottom

abbrev placing : InstanceValue → BottomWithTree → Placement
placing i b = record { instance = i; bottom = b }

same_some : {X : Type 0} (x y : X) → Some x ≡ Some y → x ≡ y
same_some x y p = cc

with_structure : (bottoms : Slots) (mask : ℕ) (i : InstanceValue) (p : Placement) → is_seen mask i ≡ true → (o : Option BottomWithTree) → structure_at i.id bottoms ≡ o
    → option_map (placing i) o ≡ Some p → IsPlacementOf bottoms mask i p
with_structure bottoms mask i p seen None at is = absurd (cc)
with_structure bottoms mask i p seen (Some b) at is =
    let it : placing i b ≡ p = same_some (placing i b) p is in
    record { instance = ap (λ (q : Placement). q.instance) it; seen = seen; stands = at ∙ ap (λ (q : Placement). Some q.bottom) it }

placed_by : (bottoms : Slots) (mask : ℕ) (i : InstanceValue) (p : Placement) → placement_of bottoms mask i ≡ Some p → IsPlacementOf bottoms mask i p
placed_by bottoms mask i p same = by (is_seen mask i) refl same
  where
    by : (b : Bool) → is_seen mask i ≡ b → (if b then option_map (placing i) (structure_at i.id bottoms) else None) ≡ Some p → IsPlacementOf bottoms mask i p
    by true seen is = with_structure bottoms mask i p seen (structure_at i.id bottoms) refl is
    by false seen is = absurd (cc)

at_number : (s : Traced) (i : ℕ) (p : Placement) (o : Option (Option InstanceValue)) → slice_get s.top.contents.instances i ≡ o
    → option_and_then (placement_of s.bottoms s.mask) (option_and_then (λ j. j) o) ≡ Some p → IsPlacement s i p
at_number s i p None at is = absurd (cc)
at_number s i p (Some None) at is = absurd (cc)
at_number s i p (Some (Some j)) at is =
    let of_it : IsPlacementOf s.bottoms s.mask j p = placed_by s.bottoms s.mask j p is in
    record {
      active = at ∙ ap (λ (k : InstanceValue). Some (Some k)) of_it.instance;
      seen = subst (λ (k : InstanceValue). is_seen s.mask k ≡ true) of_it.instance of_it.seen;
      stands = subst (λ (k : InstanceValue). structure_at k.id s.bottoms ≡ Some p.bottom) of_it.instance of_it.stands;
    }

pub is_placement : (s : Traced) (i : ℕ) (p : Placement) → placement_at s i ≡ Some p → IsPlacement s i p
is_placement s i p is = at_number s i p (slice_get s.top.contents.instances i) refl is

-- the bounds that stand beside the id are those of the structure
pub bounds_stand : (s : Traced) (i : ℕ) (p : Placement) → AreStanding (without_tree s.top) (structures_in s.bottoms) → placement_at s i ≡ Some p
    → bounds_in s.top.used p.instance.id ≡ Some (bounds_of p.bottom.geometries)
bounds_stand s i p standing is =
    let here : IsPlacement s i p = is_placement s i p is in
    let it : IsStanding s.top.used (structures_in s.bottoms) p.instance =
    All-at (λ (j : Option InstanceValue). IfSome j (IsStanding s.top.used (structures_in s.bottoms))) s.top.contents.instances i (Some p.instance) standing.each here.active in
    let told : structures_in s.bottoms p.instance.id ≡ Some (contents_of p.bottom) = ap (option_map contents_of) here.stands in
    let same : it.bottom ≡ contents_of p.bottom = same_some it.bottom (contents_of p.bottom) (sym it.stands ∙ told) in
    it.bounds ∙ ap (λ (b : BottomContents). Some (bounds_of b.geometries)) same

kept_as : (i : InstanceValue) (o : Option (Option BoxValue)) (b : Option BoxValue) → IsSomeAnd o (KeepsBounds i.matrix) → o ≡ Some b → KeepsBounds i.matrix b
kept_as i o b kept same = by (subst (λ p. IsSomeAnd p (KeepsBounds i.matrix)) same kept)
  where
    by : IsSomeAnd (Some b) (KeepsBounds i.matrix) → KeepsBounds i.matrix b
    by h = h

-- each is within the limits
pub well_placed : (s : Traced) (i : ℕ) (p : Placement) → IsTop (without_tree s.top) → AreStanding (without_tree s.top) (structures_in s.bottoms) → AreSound s.bottoms
    → placement_at s i ≡ Some p → IsWellPlaced p
well_placed s i p limits standing sound is =
    let here : IsPlacement s i p = is_placement s i p is in
    let it : IsInstance s.top.used (Some p.instance) =
    All-at (IsInstance s.top.used) s.top.contents.instances i (Some p.instance) limits.each here.active in
    let active : IsActive s.top.used p.instance = it.limits in
    record {
      matrix = active.matrix;
      kept = kept_as p.instance (bounds_in s.top.used p.instance.id) (bounds_of p.bottom.geometries) active.kept (bounds_stand s i p standing is);
      sound = sound.each p.instance.id p.bottom here.stands;
    }
