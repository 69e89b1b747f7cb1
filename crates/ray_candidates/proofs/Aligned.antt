-- Items of a tree and primitives at places are the same, in the same order.
use Rattle.std.proofs.Common.{ℕ, zero, suc, ◌≡◌, ◌+◌, ◌++◌, ◌<◌, Option, Some, None, List, [], ◌∷◌, length, map, get_or, refl, sym, ap, ◌∙◌, arith, append_assoc, length-append}
use Rattle.std.specs.Prelude.{slice_get, option_and_then}
use Rattle.std.specs.List.{flat_map, range_with_len}
use Rattle.std.proofs.lemmas.List.{append-nil, map-append, get_or-map, length-map}
use Rattle.std.proofs.lemmas.List.Concat.{flat_map-cons}
use Rattle.std.proofs.lemmas.List.Folds.{flat_map-map}
use Rattle.std.proofs.lemmas.Grind.{flat_map-append}
use Rattle.ray_geom.specs.Boxes.{BoxValue}
use Rattle.ray_primitives.specs.Primitives.{box_of_triangle}
use Rattle.ray_tree.specs.Trees.{item_box}
use Rattle.ray_geometries.specs.declared.geometry.Geometry.{Geometry}
use Rattle.ray_geometries.specs.declared.shapes.Shapes.{Shapes}
use Rattle.ray_geometries.specs.declared.shapes.Shapes.TheVariants.{Triangles, Boxes}
use Rattle.ray_leaves.specs.declared.prim_place.PrimPlace.{PrimPlace}
use Rattle.ray_geometries.specs.Contents.{count_of, count_of_shapes}
use Rattle.ray_leaves.specs.Places.{place_of}
use Rattle.ray_bottom.specs.Trees.{items_of, items_of_shapes, places_from, place_at}
use Rattle.ray_candidates.specs.Candidates.{joined}
use Rattle.ray_candidates.specs.Placements.{shape_box, prim_box, AreAligned}
use Rattle.ray_candidates.proofs.Joined.{joined-zero, joined-suc}

-- ---- lists by the numbers of their members

at_seam : {X : Type 0} (before : List X) (x : X) (after : List X) → slice_get (before ++ x ∷ after) (length before) ≡ Some x
at_seam [] x after = refl
at_seam (y ∷ before) x after = at_seam before x after

get-seam : {X : Type 0} (before : List X) (x : X) (after : List X) (d : X) → get_or (before ++ x ∷ after) (length before) d ≡ x
get-seam [] x after d = refl
get-seam (y ∷ before) x after d = get-seam before x after d

-- one more before
shifted : {X : Type 0} (before : List X) (x : X) (after : List X) → (before ++ x ∷ []) ++ after ≡ before ++ x ∷ after
shifted before x after = append_assoc before (x ∷ []) after

longer : {X : Type 0} (before : List X) (x : X) → length (before ++ x ∷ []) ≡ length before + 1
longer before x = length-append before (x ∷ [])

-- what is made of each member is made of each number
made_by : {X Y : Type 0} (f : X → Option Y) (before xs : List X)
    → map f xs ≡ map (λ i. option_and_then f (slice_get (before ++ xs) i)) (range_with_len (length before) (length xs))
made_by f before [] = refl
made_by f before (x ∷ xs) =
    let all = before ++ x ∷ xs in
    let rest : map f xs ≡ map (λ i. option_and_then f (slice_get all i)) (range_with_len (length before + 1) (length xs)) =
    made_by f (before ++ x ∷ []) xs
    ∙ (λ j. map (λ i. option_and_then f (slice_get (shifted before x xs j) i)) (range_with_len (longer before x j) (length xs))) in
    let first : f x ≡ option_and_then f (slice_get all (length before)) = sym (ap (option_and_then f) (at_seam before x xs)) in
    λ j. first j ∷ rest j

-- a list is its members by their numbers
numbered : {X : Type 0} (before xs : List X) (d : X) → map (λ i. get_or (before ++ xs) i d) (range_with_len (length before) (length xs)) ≡ xs
numbered before [] d = refl
numbered before (x ∷ xs) d =
    let all = before ++ x ∷ xs in
    let rest : map (λ i. get_or all i d) (range_with_len (length before + 1) (length xs)) ≡ xs =
    (λ j. map (λ i. get_or (sym (shifted before x xs) j) i d) (range_with_len (sym (longer before x) j) (length xs)))
    ∙ numbered (before ++ x ∷ []) xs d in
    λ j. get-seam before x xs d j ∷ rest j

map-map : {X Y Z : Type 0} (f : Y → Z) (g : X → Y) (xs : List X) → map f (map g xs) ≡ map (λ x. f (g x)) xs
map-map f g [] = refl
map-map f g (x ∷ xs) = ap (λ ys. f (g x) ∷ ys) (map-map f g xs)

map-itself : {X : Type 0} (xs : List X) → map (λ x. x) xs ≡ xs
map-itself [] = refl
map-itself (x ∷ xs) = ap (λ ys. x ∷ ys) (map-itself xs)

-- ---- boxes

-- the boxes of a geometry's primitives, by their numbers
shape-items : (s : Shapes) → items_of_shapes s ≡ map (λ i. shape_box i s) (range_with_len 0 (count_of_shapes s))
shape-items (Triangles format size ts) = made_by box_of_triangle [] ts
shape-items (Boxes bs) = sym (map-itself bs) ∙ made_by (λ box. box) [] bs

-- of the geometries behind others
aligned : (before gs : List Geometry) → items_of gs ≡ map (prim_box (before ++ gs)) (places_from (length before) gs)
aligned before [] = refl
aligned before (g ∷ gs) =
    let all = before ++ g ∷ gs in
    let n = length before in
    let own : items_of_shapes g.shapes ≡ map (prim_box all) (map (place_of n) (range_with_len 0 (count_of g))) =
    shape-items g.shapes
    ∙ (ap (λ o. map (λ i. option_and_then (λ (x : Geometry). shape_box i x.shapes) o) (range_with_len 0 (count_of g))) (sym (at_seam before g gs))
    ∙ sym (map-map (prim_box all) (place_of n) (range_with_len 0 (count_of g)))) in
    let rest : items_of gs ≡ map (prim_box all) (places_from (n + 1) gs) =
    aligned (before ++ g ∷ []) gs
    ∙ (λ j. map (prim_box (shifted before g gs j)) (places_from (longer before g j) gs)) in
    flat_map-cons (λ (x : Geometry). items_of_shapes x.shapes) g gs
    ∙ ((λ j. own j ++ rest j)
    ∙ sym (map-append (prim_box all) (map (place_of n) (range_with_len 0 (count_of g))) (places_from (n + 1) gs)))

pub places-many : (gs : List Geometry) → length (places_from 0 gs) ≡ length (items_of gs)
places-many gs = sym (ap length (aligned [] gs) ∙ length-map (places_from 0 gs) (prim_box gs))

-- what stands in a list stands below its end
some-below : {X : Type 0} (xs : List (Option X)) (k : ℕ) (x : X) → get_or xs k None ≡ Some x → k < length xs
some-below [] k x e = absurd cc
some-below (y ∷ xs) zero x e = omega arith
some-below (y ∷ xs) (suc k) x e = let below = some-below xs k x e in omega (arith, below)

-- the box of an item is that of the primitive at its place
pub item-aligned : (gs : List Geometry) (p : ℕ) → p < length (items_of gs) → item_box (items_of gs) p ≡ prim_box gs (place_at gs p)
item-aligned gs p below =
    let many = places-many gs in
    ap (λ (xs : List (Option BoxValue)). get_or xs p None) (aligned [] gs)
    ∙ get_or-map (prim_box gs) (places_from 0 gs) p (place_of 0 0) None (omega (arith, below, many))

-- ---- what is given of places

range-more : (a n : ℕ) → range_with_len a (suc n) ≡ range_with_len a n ++ (a + n) ∷ []
range-more a zero = ap (λ x. x ∷ []) (omega arith)
range-more a (suc n) = ap (λ xs. a ∷ xs) (range-more (a + 1) n ∙ ap (λ x. range_with_len (a + 1) n ++ x ∷ []) (omega arith))

range-last : (n : ℕ) → range_with_len 0 (suc n) ≡ range_with_len 0 n ++ n ∷ []
range-last n = range-more 0 n ∙ ap (λ x. range_with_len 0 n ++ x ∷ []) (omega arith)

-- what is given of the numbers below a bound
pub joined-range : {X : Type 0} (F : ℕ → List X) (n : ℕ) → joined F n ≡ flat_map F (range_with_len 0 n)
joined-range F zero = joined-zero F
joined-range F (suc n) =
    joined-suc F n
    ∙ ((λ j. joined-range F n j ++ F n)
    ∙ (sym (ap (λ xs. flat_map F (range_with_len 0 n) ++ xs) (flat_map-cons F n [] ∙ append-nil (F n)))
    ∙ (sym (flat_map-append F (range_with_len 0 n) (n ∷ [])) ∙ ap (flat_map F) (sym (range-last n)))))

-- of the places of geometries, where what is given of each geometry is given of its primitives
module _ {X : Type 0} (H : PrimPlace → List X) (K : ℕ → Option Geometry → List X) (whole : List Geometry)
    (each : (k : ℕ) (g : Geometry) → slice_get whole k ≡ Some g → K k (Some g) ≡ joined (λ i. H (place_of k i)) (count_of g)) where
  given : (before gs : List Geometry) → before ++ gs ≡ whole
      → flat_map H (places_from (length before) gs) ≡ flat_map (λ k. K k (slice_get whole k)) (range_with_len (length before) (length gs))
  given before [] is = refl
  given before (g ∷ gs) is =
      let n = length before in
      let here : slice_get whole n ≡ Some g = ap (λ xs. slice_get xs n) (sym is) ∙ at_seam before g gs in
      let own : flat_map H (map (place_of n) (range_with_len 0 (count_of g))) ≡ K n (slice_get whole n) =
      flat_map-map H (place_of n) (range_with_len 0 (count_of g))
      ∙ (sym (joined-range (λ i. H (place_of n i)) (count_of g))
      ∙ (sym (each n g here) ∙ ap (K n) (sym here))) in
      let rest : flat_map H (places_from (n + 1) gs) ≡ flat_map (λ k. K k (slice_get whole k)) (range_with_len (n + 1) (length gs)) =
      (λ j. flat_map H (places_from (sym (longer before g) j) gs))
      ∙ (given (before ++ g ∷ []) gs (shifted before g gs ∙ is)
      ∙ (λ j. flat_map (λ k. K k (slice_get whole k)) (range_with_len (longer before g j) (length gs)))) in
      flat_map-append H (map (place_of n) (range_with_len 0 (count_of g))) (places_from (n + 1) gs)
      ∙ ((λ j. own j ++ rest j)
      ∙ sym (flat_map-cons (λ k. K k (slice_get whole k)) n (range_with_len (n + 1) (length gs))))

  -- what is given of each item, by its place, is what is given of each geometry
  pub joined-places : joined (λ p. H (place_at whole p)) (length (items_of whole)) ≡ joined (λ k. K k (slice_get whole k)) (length whole)
  joined-places =
      let places = places_from 0 whole in
      joined-range (λ p. H (place_at whole p)) (length (items_of whole))
      ∙ ((λ j. flat_map (λ p. H (place_at whole p)) (range_with_len 0 (sym (places-many whole) j)))
      ∙ (sym (flat_map-map H (place_at whole) (range_with_len 0 (length places)))
      ∙ (ap (flat_map H) (numbered [] places (place_of 0 0))
      ∙ (given [] whole refl ∙ sym (joined-range (λ k. K k (slice_get whole k)) (length whole))))))

-- the box of an active item is that of the primitive at its place
pub are_aligned : (gs : List Geometry) → AreAligned gs
are_aligned gs = record {
  each = λ item box is.
      let below : item < length (items_of gs) = some-below (items_of gs) item box is in
      sym (item-aligned gs item below) ∙ is;
}
