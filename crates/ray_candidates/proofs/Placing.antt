-- That an instance may be placed, from what a trace asks of the structures; and that from the structures in use.
use Rattle.std.proofs.Common.{◌≡◌, ◌∙◌, refl, sym, ap, subst, ℕ, Bool, true, false, IsTrue, if◌then◌else◌, ◌==◌, ◌&&◌, fold, get_or, eqb-true, Option, Some, None, option_map, option_and_then, IfSome, IsSomeAnd, List, [], ◌∷◌, All, slice_get}
use Rattle.std.proofs.lemmas.Option.{slice_get_within, get_or_from_slice_get}
use Rattle.ray_geom.specs.Boxes.{BoxValue}
use Rattle.ray_contents.specs.Bounds.{KeepsBounds}
use Rattle.ray_flags.specs.Admission.{ForcesBoth}
use Rattle.ray_flags.specs.Flags.{instance_has, ForceOpaque, ForceNoOpaque}
use Rattle.ray_flags.specs.declared.instance_flags.InstanceFlags.{InstanceFlags}
use Rattle.ray_geometries.specs.Contents.{ContentsValue as BottomContents, bounds_of}
use Rattle.ray_top.specs.declared.instance.Instance.{Instance}
use Rattle.ray_top.specs.declared.used.Used.{Used}
use Rattle.ray_top.specs.Instances.{InstanceValue, forces_both, instance_value}
use Rattle.ray_top.specs.InstanceReading.{bounds_in, noted}
use Rattle.ray_top.specs.Contents.{TopValue, IsTop, IsActive, IsInstance}
use Rattle.ray_query.proofs.Orders.{Each, Each-from_All}
use Rattle.ray_candidates.specs.Candidates.{Structures, active_instance}
use Rattle.ray_candidates.specs.Standing.{IsStanding, AreStanding, IsHere}
use Rattle.ray_candidates.specs.Telling.{IsPlaceable}

-- what holds of all holds of one by its number
pub All-at : {X : Type 0} (P : X → Type 0) (xs : List X) (n : ℕ) (x : X) → All P xs → slice_get xs n ≡ Some x → P x
All-at P xs n x all at = subst P (get_or_from_slice_get xs n x x at) (all n x (slice_get_within xs n x at))

forces : (flags : InstanceFlags) → forces_both flags ≡ false → ForcesBoth flags → ⊥
forces flags neither (on, off) = both (instance_has flags ForceOpaque) (instance_has flags ForceNoOpaque) neither on off
  where
    both : (a b : Bool) → (a && b) ≡ false → IsTrue a → IsTrue b → ⊥
    both true true p q r = cc
    both true false p q r = cc
    both false b p q r = cc

-- bounds that are kept, as those that stand beside the id and as those of the structure
kept_as : (i : InstanceValue) (o : Option (Option BoxValue)) (b : Option BoxValue) → IsSomeAnd o (KeepsBounds i.matrix) → o ≡ Some b → KeepsBounds i.matrix b
kept_as i o b kept same = by (subst (λ p. IsSomeAnd p (KeepsBounds i.matrix)) same kept)
  where
    by : IsSomeAnd (Some b) (KeepsBounds i.matrix) → KeepsBounds i.matrix b
    by h = h

some_same : {X : Type 0} (x y : X) → Some x ≡ Some y → x ≡ y
some_same x y p = cc

placeable_here : (top : TopValue) (bottoms : Structures) (i : InstanceValue) → IsActive top.used i → IsStanding top.used bottoms i → IsPlaceable bottoms i
placeable_here top bottoms i active standing = record {
  kept = λ bottom stands.
      let same : standing.bottom ≡ bottom = some_same standing.bottom bottom (sym standing.stands ∙ stands) in
      subst (λ (b : BottomContents). KeepsBounds i.matrix (bounds_of b.geometries)) same
      (kept_as i (bounds_in top.used i.id) (bounds_of standing.bottom.geometries) active.kept standing.bounds);
  agrees = forces i.flags active.not_both;
}

pub placeable_at : (top : TopValue) (bottoms : Structures) (n : ℕ) (i : InstanceValue) → IsTop top → AreStanding top bottoms
    → slice_get top.contents.instances n ≡ Some (Some i) → IsPlaceable bottoms i
placeable_at top bottoms n i limits standing at =
    let is : IsInstance top.used (Some i) = All-at (IsInstance top.used) top.contents.instances n (Some i) limits.each at in
    placeable_here top bottoms i is.limits
    (All-at (λ (j : Option InstanceValue). IfSome j (IsStanding top.used bottoms)) top.contents.instances n (Some i) standing.each at)

active_at : (o : Option (Option InstanceValue)) (i : InstanceValue) → option_and_then (λ j. j) o ≡ Some i → o ≡ Some (Some i)
active_at None i p = absurd (cc)
active_at (Some None) i p = absurd (cc)
active_at (Some (Some j)) i p = ap Some p

pub placeable : (top : TopValue) (bottoms : Structures) (n : ℕ) (o : Option Instance) → IsTop top → AreStanding top bottoms
    → option_map instance_value o ≡ active_instance top.contents n → IfSome o (λ i. IsPlaceable bottoms (instance_value i))
placeable top bottoms n None limits standing told = tt
placeable top bottoms n (Some i) limits standing told =
    placeable_at top bottoms n (instance_value i) limits standing
    (active_at (slice_get top.contents.instances n) (instance_value i) (sym told))

-- ---- from the structures in use

-- the structure of an id stands, with these bounds
record StandsWith (bottoms : Structures) (id : ℕ) (bounds : Option BoxValue) : Type 0 where
  pub bottom : BottomContents
  pub stands : bottoms id ≡ Some bottom
  pub same : bounds ≡ bounds_of bottom.geometries

-- so it does with what is known of the id, if anything is
abbrev Known : Structures → ℕ → Option (Option BoxValue) → Type 0
Known bottoms id o = (b : Option BoxValue) → o ≡ Some b → StandsWith bottoms id b

Known-noted : (bottoms : Structures) (id : ℕ) (so_far : Option (Option BoxValue)) (u : Used) → Known bottoms id so_far → IsHere bottoms u → Known bottoms id (noted id so_far u)
Known-noted bottoms id so_far u known here = by (u.id == id) refl
  where
    by : (b : Bool) → (u.id == id) ≡ b → Known bottoms id (if b then Some u.bounds else so_far)
    by true is bounds at =
        let one : u.id ≡ id = eqb-true u.id id is in
        record {
          bottom = here.bottom;
          stands = ap bottoms (sym one) ∙ here.stands;
          same = sym (some_same u.bounds bounds at) ∙ here.bounds;
        }
    by false is bounds at = known bounds at

Known-fold : (bottoms : Structures) (id : ℕ) (used : List Used) (so_far : Option (Option BoxValue)) → Known bottoms id so_far → Each (IsHere bottoms) used → Known bottoms id (fold (noted id) so_far used)
Known-fold bottoms id [] so_far known here = known
Known-fold bottoms id (u ∷ us) so_far known (first, rest) =
    Known-fold bottoms id us (noted id so_far u) (Known-noted bottoms id so_far u known first) rest

Known-bounds_in : (bottoms : Structures) (id : ℕ) (used : List Used) → Each (IsHere bottoms) used → Known bottoms id (bounds_in used id)
unfolding bounds_in
Known-bounds_in bottoms id used here = Known-fold bottoms id used None (λ b at. absurd (cc)) here

standing_one : (top : TopValue) (bottoms : Structures) (i : InstanceValue) → Each (IsHere bottoms) top.used → IsActive top.used i → IsStanding top.used bottoms i
standing_one top bottoms i here active = by (bounds_in top.used i.id) refl active.kept
  where
    by : (o : Option (Option BoxValue)) → bounds_in top.used i.id ≡ o → IsSomeAnd o (KeepsBounds i.matrix) → IsStanding top.used bottoms i
    by None at kept = absurd kept
    by (Some b) at kept =
        let it : StandsWith bottoms i.id b = Known-bounds_in bottoms i.id top.used here b at in
        record { bottom = it.bottom; stands = it.stands; bounds = at ∙ ap Some it.same }

standing_each : (top : TopValue) (bottoms : Structures) → Each (IsHere bottoms) top.used → (o : Option InstanceValue) → IsInstance top.used o → IfSome o (IsStanding top.used bottoms)
standing_each top bottoms here None is = tt
standing_each top bottoms here (Some i) is = standing_one top bottoms i here is.limits

pub AreStanding-here : (top : TopValue) (bottoms : Structures) → IsTop top → All (IsHere bottoms) top.used → AreStanding top bottoms
AreStanding-here top bottoms limits here = record {
  each = λ n d below. standing_each top bottoms (Each-from_All (IsHere bottoms) top.used here) (get_or top.contents.instances n d) (limits.each n d below);
}
