-- No key stands twice in what a ray finds, since the three numbers differ.
use Rattle.std.proofs.Common.{◌≡◌, ◌∙◌, ◌+◌, ◌≤◌, ◌<◌, refl, sym, ℕ, Bool, true, false, if◌then◌else◌, cond, Option, Some, None, List, [], ◌∷◌, length, slice_get, sum_by, inl, inr, nat_cmp, arith}
use Rattle.std.specs.Ordering.{is_eq, ordering_then}
use Rattle.std.specs.declared.cmp.Ordering.{Ordering}
use Rattle.std.specs.declared.cmp.Ordering.TheVariants.{Less, Equal, Greater}
use Rattle.std.proofs.lemmas.Cmp.{ranked}
use Rattle.std.proofs.lemmas.List.Sums.{sum_by-cons}
use Rattle.ray_geom.specs.Scene.{RayValue}
use Rattle.ray_geom.specs.Frac.{frac_cmp}
use Rattle.ray_flags.specs.declared.ray_flags.RayFlags.{RayFlags}
use Rattle.ray_geometries.specs.declared.geometry.Geometry.{Geometry}
use Rattle.ray_geometries.specs.Contents.{ContentsValue as BottomContents, count_of}
use Rattle.ray_bottom.specs.Meeting.{MeetValue, meet_of}
use Rattle.ray_top.specs.Instances.{InstanceValue}
use Rattle.ray_top.specs.Contents.{ContentsValue as TopContents}
use Rattle.ray_query.specs.declared.key.Key.{Key}
use Rattle.ray_query.specs.declared.found.Found.{Found}
use Rattle.ray_query.specs.Key.{found_key, key_cmp}
use Rattle.ray_candidates.specs.Candidates.{Structures, Placed, placed, passes_over, found_of, admitted, found_at, found_in_geometry, found_in_structure, is_seen, found_in_instance, active_instance, found_in}
use Rattle.ray_query.specs.KeyOrder.{AreApart, has_key}
use Rattle.ray_query.proofs.Members.{Member}
use Rattle.ray_candidates.proofs.Joined.{Member-joined, joined-le-one}
use Rattle.ray_candidates.proofs.Findings.{IsAt, IsAt-found_at}

-- keys that are equal have the same numbers
then_equal : (a b : Ordering) → ordering_then a b ≡ Equal → (a ≡ Equal) × (b ≡ Equal)
then_equal Less b p = absurd (cc)
then_equal Equal b p = (refl, p)
then_equal Greater b p = absurd (cc)

same_number : (m n : ℕ) → nat_cmp m n ≡ Equal → m ≡ n
same_number m n p = ranked m n Equal (sym p)

record SameNumbers (k l : Key) : Type 0 where
  pub instance : k.instance ≡ l.instance
  pub geometry : k.geometry ≡ l.geometry
  pub primitive : k.primitive ≡ l.primitive

same_numbers : (k l : Key) → key_cmp k l ≡ Equal → SameNumbers k l
same_numbers k l p =
    let rest = (then_equal (frac_cmp k.t l.t) (ordering_then (nat_cmp k.instance l.instance) (ordering_then (nat_cmp k.geometry l.geometry) (nat_cmp k.primitive l.primitive))) p).1 in
    let more = then_equal (nat_cmp k.instance l.instance) (ordering_then (nat_cmp k.geometry l.geometry) (nat_cmp k.primitive l.primitive)) rest in
    let last = then_equal (nat_cmp k.geometry l.geometry) (nat_cmp k.primitive l.primitive) more.1 in
    record {
      instance = same_number k.instance l.instance more.0;
      geometry = same_number k.geometry l.geometry last.0;
      primitive = same_number k.primitive l.primitive last.1;
    }

-- a list of which no member has a key doesn't count it
not_counted : (o : Ordering) → (o ≡ Equal → ⊥) → cond {A = ℕ} (is_eq o) 1 0 ≡ 0
not_counted Less p = refl
not_counted Equal p = absurd (p refl)
not_counted Greater p = refl

none_counted : (k : Key) (fs : List Found) → ((f : Found) → Member f fs → key_cmp k (found_key f) ≡ Equal → ⊥) → sum_by (has_key k) fs ≡ 0
none_counted k [] differ = refl
none_counted k (g ∷ gs) differ =
    let first : has_key k g ≡ 0 = not_counted (key_cmp k (found_key g)) (differ g (inl refl)) in
    let rest : sum_by (has_key k) gs ≡ 0 = none_counted k gs (λ f m. differ f (inr m)) in
    let sum : sum_by (has_key k) (g ∷ gs) ≡ has_key k g + sum_by (has_key k) gs = sum_by-cons (has_key k) g gs in
    omega (arith, first, rest, sum)

at_most_one : (b : Bool) → cond {A = ℕ} b 1 0 ≤ 1
at_most_one true = omega arith
at_most_one false = omega arith

one_counted : (k : Key) (f : Found) → sum_by (has_key k) (f ∷ []) ≤ 1
one_counted k f =
    let sum : sum_by (has_key k) (f ∷ []) ≡ has_key k f + sum_by (has_key k) [] = sum_by-cons (has_key k) f [] in
    let most : has_key k f ≤ 1 = at_most_one (is_eq (key_cmp k (found_key f))) in
    let none : sum_by (has_key k) [] ≡ 0 = refl in
    omega (arith, sum, most, none)

none_le : (k : Key) → sum_by (has_key k) [] ≤ 1
none_le k = omega arith

module _ (top : TopContents) (bottoms : Structures) (ray : RayValue) (flags : RayFlags) (mask : ℕ) (k : Key) where
  admitted_once : (at : Placed) (p : ℕ) (o : Option MeetValue) → sum_by (has_key k) (admitted flags at p o) ≤ 1
  admitted_once at p None = none_le k
  admitted_once at p (Some meet) = by (passes_over flags at meet)
    where
      by : (b : Bool) → sum_by (has_key k) (if b then [] else found_of at p meet ∷ []) ≤ 1
      by true = none_le k
      by false = one_counted k (found_of at p meet)

  found_at_once : (gs : List Geometry) (at : Placed) (p : ℕ) → sum_by (has_key k) (found_at ray flags gs at p) ≤ 1
  unfolding found_at
  found_at_once gs at p = admitted_once at p (meet_of gs (record { geometry = at.geometry; primitive = p }) ray at.instance.matrix)

  found_at_elsewhere : (gs : List Geometry) (at : Placed) (p : ℕ) → (p ≡ k.primitive → ⊥) → sum_by (has_key k) (found_at ray flags gs at p) ≡ 0
  found_at_elsewhere gs at p differs =
      none_counted k (found_at ray flags gs at p)
      (λ f m same. differs (sym (IsAt-found_at ray flags gs at p f m).primitive_is ∙ sym (same_numbers k (found_key f) same).primitive))

  -- ---- of a geometry
  geometry_once : (gs : List Geometry) (n : ℕ) (i : InstanceValue) (g : ℕ) (o : Option Geometry) → sum_by (has_key k) (found_in_geometry ray flags gs n i g o) ≤ 1
  geometry_once gs n i g None = none_le k
  geometry_once gs n i g (Some geometry) =
      joined-le-one (has_key k) (found_at ray flags gs (placed flags n i g geometry)) k.primitive (count_of geometry)
      (found_at_elsewhere gs (placed flags n i g geometry)) (found_at_once gs (placed flags n i g geometry))

  geometry_at : (gs : List Geometry) (n : ℕ) (i : InstanceValue) (g : ℕ) (o : Option Geometry) (f : Found) → Member f (found_in_geometry ray flags gs n i g o)
      → (f.instance ≡ n) × (f.geometry ≡ g)
  geometry_at gs n i g None f m = absurd m
  geometry_at gs n i g (Some geometry) f m =
      one (Member-joined (found_at ray flags gs (placed flags n i g geometry)) (count_of geometry) f m)
    where
      one : (p : ℕ) × (p < count_of geometry) × Member f (found_at ray flags gs (placed flags n i g geometry) p) → (f.instance ≡ n) × (f.geometry ≡ g)
      one (p, below, here) =
          let at : IsAt (placed flags n i g geometry) p f = IsAt-found_at ray flags gs (placed flags n i g geometry) p f here in
          (at.instance, at.geometry)

  geometry_elsewhere : (gs : List Geometry) (n : ℕ) (i : InstanceValue) (g : ℕ) (o : Option Geometry) → (g ≡ k.geometry → ⊥)
      → sum_by (has_key k) (found_in_geometry ray flags gs n i g o) ≡ 0
  geometry_elsewhere gs n i g o differs =
      none_counted k (found_in_geometry ray flags gs n i g o)
      (λ f m same. differs (sym (geometry_at gs n i g o f m).1 ∙ sym (same_numbers k (found_key f) same).geometry))

  -- ---- of a structure
  structure_once : (n : ℕ) (i : InstanceValue) (o : Option BottomContents) → sum_by (has_key k) (found_in_structure ray flags n i o) ≤ 1
  structure_once n i None = none_le k
  structure_once n i (Some bottom) =
      joined-le-one (has_key k) (λ g. found_in_geometry ray flags bottom.geometries n i g (slice_get bottom.geometries g)) k.geometry (length bottom.geometries)
      (λ g differs. geometry_elsewhere bottom.geometries n i g (slice_get bottom.geometries g) differs)
      (λ g. geometry_once bottom.geometries n i g (slice_get bottom.geometries g))

  structure_at : (n : ℕ) (i : InstanceValue) (o : Option BottomContents) (f : Found) → Member f (found_in_structure ray flags n i o) → f.instance ≡ n
  structure_at n i None f m = absurd m
  structure_at n i (Some bottom) f m =
      one (Member-joined (λ g. found_in_geometry ray flags bottom.geometries n i g (slice_get bottom.geometries g)) (length bottom.geometries) f m)
    where
      one : (g : ℕ) × (g < length bottom.geometries) × Member f (found_in_geometry ray flags bottom.geometries n i g (slice_get bottom.geometries g)) → f.instance ≡ n
      one (g, below, here) = (geometry_at bottom.geometries n i g (slice_get bottom.geometries g) f here).0

  -- ---- of an instance
  instance_once : (n : ℕ) (o : Option InstanceValue) → sum_by (has_key k) (found_in_instance bottoms ray flags mask n o) ≤ 1
  instance_once n None = none_le k
  instance_once n (Some i) = by (is_seen mask i)
    where
      by : (b : Bool) → sum_by (has_key k) (if b then found_in_structure ray flags n i (bottoms i.id) else []) ≤ 1
      by true = structure_once n i (bottoms i.id)
      by false = none_le k

  instance_at : (n : ℕ) (o : Option InstanceValue) (f : Found) → Member f (found_in_instance bottoms ray flags mask n o) → f.instance ≡ n
  instance_at n None f m = absurd m
  instance_at n (Some i) f m = by (is_seen mask i) m
    where
      by : (b : Bool) → Member f (if b then found_in_structure ray flags n i (bottoms i.id) else []) → f.instance ≡ n
      by true here = structure_at n i (bottoms i.id) f here
      by false here = absurd here

  instance_elsewhere : (n : ℕ) (o : Option InstanceValue) → (n ≡ k.instance → ⊥) → sum_by (has_key k) (found_in_instance bottoms ray flags mask n o) ≡ 0
  instance_elsewhere n o differs =
      none_counted k (found_in_instance bottoms ray flags mask n o)
      (λ f m same. differs (sym (instance_at n o f m) ∙ sym (same_numbers k (found_key f) same).instance))

  found_once : sum_by (has_key k) (found_in top bottoms ray flags mask) ≤ 1
  found_once =
      joined-le-one (has_key k) (λ n. found_in_instance bottoms ray flags mask n (active_instance top n)) k.instance (length top.instances)
      (λ n differs. instance_elsewhere n (active_instance top n) differs)
      (λ n. instance_once n (active_instance top n))

pub AreApart-found : (top : TopContents) (bottoms : Structures) (ray : RayValue) (flags : RayFlags) (mask : ℕ) → AreApart (found_in top bottoms ray flags mask)
AreApart-found top bottoms ray flags mask = record { once = λ k. found_once top bottoms ray flags mask k }
