-- The place of an item, geometry by geometry.
use Rattle.std.proofs.Common.{◌≡◌, ◌∙◌, ◌+◌, ◌-◌, ◌<◌, ◌≤◌, refl, sym, ap, ℕ, suc, zero, List, [], ◌∷◌, ◌++◌, Some, length, drop, get_or, map, option_map, slice_get, arith}
use Rattle.std.specs.List.{range_with_len}
use Rattle.std.proofs.lemmas.List.{get_or-map, length-map}
use Rattle.std.proofs.lemmas.List.FromFn.{get_or-range_with_len, length-range_with_len}
use Rattle.ray_geometries.specs.declared.geometry.Geometry.{Geometry}
use Rattle.ray_geometries.specs.Contents.{count_of}
use Rattle.ray_leaves.specs.declared.prim_place.PrimPlace.{PrimPlace}
use Rattle.ray_leaves.specs.Places.{place_of}
use Rattle.ray_bottom.specs.Trees.{places_from}

-- the place of a number among the primitives of these geometries, of which the first has number `from`
abbrev pub place_from : ℕ → List Geometry → ℕ → PrimPlace
place_from from gs p = get_or (places_from from gs) p (place_of 0 0)

-- from one list on to the next
get-first : {X : Type 0} (xs ys : List X) (k : ℕ) (d : X) → k < length xs → get_or (xs ++ ys) k d ≡ get_or xs k d
get-first [] ys k d below = absurd (omega (arith, below))
get-first (x ∷ xs) ys zero d below = refl
get-first (x ∷ xs) ys (suc k) d below = get-first xs ys k d (omega (arith, below))

get-next : {X : Type 0} (xs ys : List X) (k : ℕ) (d : X) → get_or (xs ++ ys) (length xs + k) d ≡ get_or ys k d
get-next [] ys k d = ap (λ (n : ℕ). get_or ys n d) (omega arith)
get-next (x ∷ xs) ys k d =
    let longer : suc (length xs) + k ≡ suc (length xs + k) = omega arith in
    ap (λ (n : ℕ). get_or (x ∷ (xs ++ ys)) n d) longer ∙ get-next xs ys k d

module _ (from : ℕ) (g : Geometry) (gs : List Geometry) where
  own-many : length (map (place_of from) (range_with_len 0 (count_of g))) ≡ count_of g
  own-many = length-map (range_with_len 0 (count_of g)) (place_of from) ∙ length-range_with_len 0 (count_of g)

  place-here : (p : ℕ) → p < count_of g → place_from from (g ∷ gs) p ≡ place_of from p
  place-here p below =
      let many = own-many in
      let long = length-range_with_len 0 (count_of g) in
      get-first (map (place_of from) (range_with_len 0 (count_of g))) (places_from (from + 1) gs) p (place_of 0 0) (omega (arith, many, below))
      ∙ (get_or-map (place_of from) (range_with_len 0 (count_of g)) p 0 (place_of 0 0) (omega (arith, long, below))
      ∙ ap (place_of from) (get_or-range_with_len 0 (count_of g) p 0 below ∙ omega arith))

  place-later : (p : ℕ) → count_of g ≤ p → place_from from (g ∷ gs) p ≡ place_from (from + 1) gs (p - count_of g)
  place-later p above =
      let own = map (place_of from) (range_with_len 0 (count_of g)) in
      let many = own-many in
      let same : p ≡ length own + (p - count_of g) = omega (arith, many, above) in
      ap (λ k. get_or (own ++ places_from (from + 1) gs) k (place_of 0 0)) same
      ∙ get-next own (places_from (from + 1) gs) (p - count_of g) (place_of 0 0)

-- ---- the geometry of a number

some_same : {X : Type 0} (x y : X) → Some x ≡ Some y → x ≡ y
some_same x y e = cc

record IsRest (gs : List Geometry) (k : ℕ) (count : ℕ) : Type 0 where
  pub first : Geometry
  pub is : drop k gs ≡ first ∷ drop (k + 1) gs
  pub many : count_of first ≡ count

rest-at : (gs : List Geometry) (k count : ℕ) → option_map count_of (slice_get gs k) ≡ Some count → IsRest gs k count
rest-at [] k count told = absurd (cc)
rest-at (g ∷ gs) zero count told = record { first = g; is = refl; many = some_same (count_of g) count told }
rest-at (g ∷ gs) (suc k) count told =
    let rest = rest-at gs k count told in
    let next : suc (k + 1) ≡ suc k + 1 = omega arith in
    record { first = rest.first; is = rest.is ∙ ap (λ (n : ℕ). rest.first ∷ drop n (g ∷ gs)) next; many = rest.many }

pub place-found : (gs : List Geometry) (k count p : ℕ) (at : PrimPlace) → option_map count_of (slice_get gs k) ≡ Some count
    → at ≡ place_from k (drop k gs) p → p < count → place_of k p ≡ at
place-found gs k count p at told here below =
    let rest = rest-at gs k count told in
    let many = rest.many in
    sym (here ∙ (ap (λ hs. place_from k hs p) rest.is ∙ place-here k rest.first (drop (k + 1) gs) p (omega (arith, many, below))))

pub place-left : (gs : List Geometry) (k count p : ℕ) (at : PrimPlace) → option_map count_of (slice_get gs k) ≡ Some count
    → at ≡ place_from k (drop k gs) p → count ≤ p → at ≡ place_from (k + 1) (drop (k + 1) gs) (p - count)
place-left gs k count p at told here above =
    let rest = rest-at gs k count told in
    let many = rest.many in
    here
    ∙ (ap (λ hs. place_from k hs p) rest.is
    ∙ (place-later k rest.first (drop (k + 1) gs) p (omega (arith, many, above))
    ∙ ap (λ n. place_from (k + 1) (drop (k + 1) gs) (p - n)) many))
