-- What a ray finds, primitive by primitive: that the lists that are gathered have just what `IsFound` says.
use Rattle.std.proofs.Common.{◌≡◌, ◌∙◌, ◌<◌, refl, sym, ap, subst, ℕ, Bool, true, false, if◌then◌else◌, Option, Some, None, option_and_then, List, [], ◌∷◌, length, slice_get, inl, inr}
use Rattle.std.proofs.lemmas.Option.{slice_get_within}
use Rattle.ray_geom.specs.Scene.{RayValue}
use Rattle.ray_geom.specs.Transform.{MatrixValue}
use Rattle.ray_flags.specs.declared.ray_flags.RayFlags.{RayFlags}
use Rattle.ray_geometries.specs.declared.geometry.Geometry.{Geometry}
use Rattle.ray_geometries.specs.declared.shapes.Shapes.{Shapes}
use Rattle.ray_geometries.specs.declared.shapes.Shapes.TheVariants.{Triangles, Boxes}
use Rattle.ray_leaves.specs.declared.prim_place.PrimPlace.{PrimPlace}
use Rattle.ray_geometries.specs.Contents.{ContentsValue as BottomContents, count_of, count_of_shapes}
use Rattle.ray_bottom.specs.Meeting.{MeetValue, Hit, Through, meet_of, shape_meet, triangle_meet, box_meet}
use Rattle.ray_top.specs.Instances.{InstanceValue}
use Rattle.ray_top.specs.Contents.{ContentsValue as TopContents}
use Rattle.ray_query.specs.declared.found.Found.{Found}
use Rattle.ray_candidates.specs.Candidates.{Structures, Placed, placed, passes_over, found_of, admitted, found_at, found_in_geometry, found_in_structure, is_seen, found_in_instance, active_instance, found_in}
use Rattle.ray_candidates.specs.Laws.{IsFound}
use Rattle.ray_query.proofs.Members.{Member}
use Rattle.ray_candidates.proofs.Joined.{Member-joined, Member-joined_back}

abbrev place_of : ℕ → ℕ → PrimPlace
place_of g p = record { geometry = g; primitive = p }

-- ---- one primitive

-- where it was found
pub record IsAt (at : Placed) (primitive : ℕ) (f : Found) : Type 0 where
  pub instance : f.instance ≡ at.number
  pub geometry : f.geometry ≡ at.geometry
  pub primitive_is : f.primitive ≡ primitive

IsAt-found : (at : Placed) (p : ℕ) (meet : MeetValue) → IsAt at p (found_of at p meet)
IsAt-found at p (Hit hit) = record { instance = refl; geometry = refl; primitive_is = refl }
IsAt-found at p (Through span) = record { instance = refl; geometry = refl; primitive_is = refl }

-- something was met, it isn't passed over, and this is what was found
record IsOf (flags : RayFlags) (at : Placed) (p : ℕ) (o : Option MeetValue) (f : Found) : Type 0 where
  pub meet : MeetValue
  pub met : o ≡ Some meet
  pub stays : passes_over flags at meet ≡ false
  pub is_it : f ≡ found_of at p meet

IsOf-admitted : (flags : RayFlags) (at : Placed) (p : ℕ) (o : Option MeetValue) (f : Found) → Member f (admitted flags at p o) → IsOf flags at p o f
IsOf-admitted flags at p None f m = absurd m
IsOf-admitted flags at p (Some meet) f m = by (passes_over flags at meet) refl m
  where
    by : (b : Bool) → passes_over flags at meet ≡ b → Member f (if b then [] else found_of at p meet ∷ []) → IsOf flags at p (Some meet) f
    by true over n = absurd n
    by false over (inl same) = record { meet = meet; met = refl; stays = over; is_it = sym same }
    by false over (inr n) = absurd n

admitted-back : (flags : RayFlags) (at : Placed) (p : ℕ) (meet : MeetValue) → passes_over flags at meet ≡ false → Member (found_of at p meet) (admitted flags at p (Some meet))
admitted-back flags at p meet over =
    subst (λ b. Member (found_of at p meet) (if b then [] else found_of at p meet ∷ [])) (sym over) (inl refl)

IsAt-admitted : (flags : RayFlags) (at : Placed) (p : ℕ) (o : Option MeetValue) (f : Found) → Member f (admitted flags at p o) → IsAt at p f
IsAt-admitted flags at p o f m =
    let of_it : IsOf flags at p o f = IsOf-admitted flags at p o f m in
    subst (IsAt at p) (sym of_it.is_it) (IsAt-found at p of_it.meet)

pub IsAt-found_at : (ray : RayValue) (flags : RayFlags) (gs : List Geometry) (at : Placed) (p : ℕ) (f : Found) → Member f (found_at ray flags gs at p) → IsAt at p f
unfolding found_at
IsAt-found_at ray flags gs at p f m = IsAt-admitted flags at p (meet_of gs (place_of at.geometry p) ray at.instance.matrix) f m

IsOf-found_at : (ray : RayValue) (flags : RayFlags) (gs : List Geometry) (at : Placed) (p : ℕ) (f : Found) → Member f (found_at ray flags gs at p)
    → IsOf flags at p (meet_of gs (place_of at.geometry p) ray at.instance.matrix) f
unfolding found_at
IsOf-found_at ray flags gs at p f m = IsOf-admitted flags at p (meet_of gs (place_of at.geometry p) ray at.instance.matrix) f m

found_at-back : (ray : RayValue) (flags : RayFlags) (gs : List Geometry) (at : Placed) (p : ℕ) (meet : MeetValue)
    → meet_of gs (place_of at.geometry p) ray at.instance.matrix ≡ Some meet → passes_over flags at meet ≡ false → Member (found_of at p meet) (found_at ray flags gs at p)
unfolding found_at
found_at-back ray flags gs at p meet met over =
    subst (λ o. Member (found_of at p meet) (admitted flags at p o)) (sym met) (admitted-back flags at p meet over)

-- what is met stands below the count
some_within : {X Y : Type 0} (f : X → Option Y) (xs : List X) (p : ℕ) (y : Y) → option_and_then f (slice_get xs p) ≡ Some y → p < length xs
some_within f xs p y met = by (slice_get xs p) refl met
  where
    by : (o : Option _) → slice_get xs p ≡ o → option_and_then f o ≡ Some y → p < length xs
    by None at none = absurd (cc)
    by (Some x) at some = slice_get_within xs p x at

shape_within : (ray : RayValue) (m : MatrixValue) (p : ℕ) (s : Shapes) (meet : MeetValue) → shape_meet ray m p s ≡ Some meet → p < count_of_shapes s
shape_within ray m p (Triangles format size ts) meet met = some_within (triangle_meet ray m) ts p meet met
shape_within ray m p (Boxes bs) meet met = some_within (box_meet ray m) bs p meet met

meet_within : (gs : List Geometry) (g p : ℕ) (geometry : Geometry) (ray : RayValue) (m : MatrixValue) (meet : MeetValue) → slice_get gs g ≡ Some geometry
    → meet_of gs (place_of g p) ray m ≡ Some meet → p < count_of geometry
meet_within gs g p geometry ray m meet at met =
    shape_within ray m p geometry.shapes meet
    (sym (ap (option_and_then (λ (h : Geometry). shape_meet ray m p h.shapes)) at) ∙ met)

-- ---- what is found at numbers

module _ (top : TopContents) (bottoms : Structures) (ray : RayValue) (flags : RayFlags) (mask : ℕ) where
  -- as `IsFound`, at numbers
  found_is : (n g p : ℕ) (i : InstanceValue) (bottom : BottomContents) (geometry : Geometry) (meet : MeetValue)
      → slice_get top.instances n ≡ Some (Some i) → is_seen mask i ≡ true → bottoms i.id ≡ Some bottom → slice_get bottom.geometries g ≡ Some geometry
      → meet_of bottom.geometries (place_of g p) ray i.matrix ≡ Some meet → passes_over flags (placed flags n i g geometry) meet ≡ false
      → IsFound top bottoms ray flags mask (found_of (placed flags n i g geometry) p meet)
  found_is n g p i bottom geometry (Hit hit) active seen stands at met over = record {
    instance = i;
    active = active;
    seen = seen;
    bottom = bottom;
    stands = stands;
    geometry = geometry;
    at_geometry = at;
    meet = Hit hit;
    met = met;
    admitted = over;
    is_it = refl;
  }
  found_is n g p i bottom geometry (Through span) active seen stands at met over = record {
    instance = i;
    active = active;
    seen = seen;
    bottom = bottom;
    stands = stands;
    geometry = geometry;
    at_geometry = at;
    meet = Through span;
    met = met;
    admitted = over;
    is_it = refl;
  }

  in_geometry : (n g : ℕ) (i : InstanceValue) (bottom : BottomContents) (f : Found)
      → slice_get top.instances n ≡ Some (Some i) → is_seen mask i ≡ true → bottoms i.id ≡ Some bottom
      → (o : Option Geometry) → slice_get bottom.geometries g ≡ o → Member f (found_in_geometry ray flags bottom.geometries n i g o) → IsFound top bottoms ray flags mask f
  in_geometry n g i bottom f active seen stands None at m = absurd m
  in_geometry n g i bottom f active seen stands (Some geometry) at m =
      one (Member-joined (found_at ray flags bottom.geometries (placed flags n i g geometry)) (count_of geometry) f m)
    where
      one : (p : ℕ) × (p < count_of geometry) × Member f (found_at ray flags bottom.geometries (placed flags n i g geometry) p) → IsFound top bottoms ray flags mask f
      one (p, below, here) =
          let of_it : IsOf flags (placed flags n i g geometry) p (meet_of bottom.geometries (place_of g p) ray i.matrix) f =
          IsOf-found_at ray flags bottom.geometries (placed flags n i g geometry) p f here in
          subst (IsFound top bottoms ray flags mask) (sym of_it.is_it)
          (found_is n g p i bottom geometry of_it.meet active seen stands at of_it.met of_it.stays)

  in_structure : (n : ℕ) (i : InstanceValue) (f : Found) → slice_get top.instances n ≡ Some (Some i) → is_seen mask i ≡ true
      → (o : Option BottomContents) → bottoms i.id ≡ o → Member f (found_in_structure ray flags n i o) → IsFound top bottoms ray flags mask f
  in_structure n i f active seen None stands m = absurd m
  in_structure n i f active seen (Some bottom) stands m =
      one (Member-joined (λ g. found_in_geometry ray flags bottom.geometries n i g (slice_get bottom.geometries g)) (length bottom.geometries) f m)
    where
      one : (g : ℕ) × (g < length bottom.geometries) × Member f (found_in_geometry ray flags bottom.geometries n i g (slice_get bottom.geometries g)) → IsFound top bottoms ray flags mask f
      one (g, below, here) = in_geometry n g i bottom f active seen stands (slice_get bottom.geometries g) refl here

  in_instance : (n : ℕ) (f : Found) (o : Option (Option InstanceValue)) → slice_get top.instances n ≡ o
      → Member f (found_in_instance bottoms ray flags mask n (option_and_then (λ i. i) o)) → IsFound top bottoms ray flags mask f
  in_instance n f None at m = absurd m
  in_instance n f (Some None) at m = absurd m
  in_instance n f (Some (Some i)) at m = by (is_seen mask i) refl m
    where
      by : (b : Bool) → is_seen mask i ≡ b → Member f (if b then found_in_structure ray flags n i (bottoms i.id) else []) → IsFound top bottoms ray flags mask f
      by true seen here = in_structure n i f at seen (bottoms i.id) refl here
      by false seen here = absurd here

  pub IsFound-member : (f : Found) → Member f (found_in top bottoms ray flags mask) → IsFound top bottoms ray flags mask f
  IsFound-member f m = one (Member-joined (λ n. found_in_instance bottoms ray flags mask n (active_instance top n)) (length top.instances) f m)
    where
      one : (n : ℕ) × (n < length top.instances) × Member f (found_in_instance bottoms ray flags mask n (active_instance top n)) → IsFound top bottoms ray flags mask f
      one (n, below, here) = in_instance n f (slice_get top.instances n) refl here

  pub Member-found : (f : Found) → IsFound top bottoms ray flags mask f → Member f (found_in top bottoms ray flags mask)
  Member-found f h =
      let at : Placed = placed flags f.instance h.instance f.geometry h.geometry in
      let primitive : Member f (found_at ray flags h.bottom.geometries at f.primitive) =
      subst (λ x. Member x (found_at ray flags h.bottom.geometries at f.primitive)) (sym h.is_it)
      (found_at-back ray flags h.bottom.geometries at f.primitive h.meet h.met h.admitted) in
      let geometry : Member f (found_in_geometry ray flags h.bottom.geometries f.instance h.instance f.geometry (Some h.geometry)) =
      Member-joined_back (found_at ray flags h.bottom.geometries at) (count_of h.geometry) f.primitive f
      (meet_within h.bottom.geometries f.geometry f.primitive h.geometry ray h.instance.matrix h.meet h.at_geometry h.met) primitive in
      let structure : Member f (found_in_structure ray flags f.instance h.instance (Some h.bottom)) =
      Member-joined_back (λ g. found_in_geometry ray flags h.bottom.geometries f.instance h.instance g (slice_get h.bottom.geometries g)) (length h.bottom.geometries) f.geometry f
      (slice_get_within h.bottom.geometries f.geometry h.geometry h.at_geometry)
      (subst (λ o. Member f (found_in_geometry ray flags h.bottom.geometries f.instance h.instance f.geometry o)) (sym h.at_geometry) geometry) in
      let seen : Member f (found_in_instance bottoms ray flags mask f.instance (Some h.instance)) =
      subst (λ b. Member f (if b then found_in_structure ray flags f.instance h.instance (bottoms h.instance.id) else [])) (sym h.seen)
      (subst (λ o. Member f (found_in_structure ray flags f.instance h.instance o)) (sym h.stands) structure) in
      Member-joined_back (λ n. found_in_instance bottoms ray flags mask n (active_instance top n)) (length top.instances) f.instance f
      (slice_get_within top.instances f.instance (Some h.instance) h.active)
      (subst (λ o. Member f (found_in_instance bottoms ray flags mask f.instance (option_and_then (λ i. i) o))) (sym h.active) seen)

-- ---- as the program finds it

-- by what the test of the primitive told
pub found_at-told : (ray : RayValue) (flags : RayFlags) (gs : List Geometry) (at : Placed) (p : ℕ) (told : Option MeetValue)
    → told ≡ meet_of gs (place_of at.geometry p) ray at.instance.matrix → (found : List Found) → found ≡ admitted flags at p told → found ≡ found_at ray flags gs at p
unfolding found_at
found_at-told ray flags gs at p told same found is = is ∙ ap (admitted flags at p) same
