-- The places of primitives, geometry by geometry.
use Rattle.std.proofs.Common.{ℕ, ◌≡◌, ◌+◌, ◌++◌, ◌<◌, ◌≤◌, Bool, true, false, cond, List, [], ◌∷◌, length, take, map, get_or, refl, sym, ap, ◌∙◌, ◌^◌, arith, append_assoc}
use Rattle.std.specs.Prelude.{ltb, Option, None, Some, is_some, count_by}
use Rattle.std.specs.List.{filter_map, cons_option}
use Rattle.std.proofs.lemmas.List.Recursion.{is_count_by}
use Rattle.std.proofs.lemmas.List.Elements.{filter_map-append}
use Rattle.ray_geom.specs.Boxes.{BoxValue}
use Rattle.ray_tree.specs.Trees.{active_of as items_active}
use Rattle.std.proofs.lemmas.Bool.{ltb-false, ltb-true}
use Rattle.std.proofs.lemmas.List.FromFn.{get_or-map-range_with_len, length-map-range_with_len}
use Rattle.std.specs.List.{range_with_len}
use Rattle.std.proofs.lemmas.List.Concat.{length-flat_map, flat_map-cons}
use Rattle.std.proofs.lemmas.Grind.{common_steps}
use Rattle.std.proofs.lemmas.List.Sums.{sum_by-le-sum_by}
use Rattle.std.proofs.lemmas.List.{take_more, append-nil, get_or-append_right, length-map, length-take}
use Rattle.ray_geometries.specs.declared.geometry.Geometry.{Geometry}
use Rattle.ray_leaves.specs.declared.prim_place.PrimPlace.{PrimPlace}
use Rattle.ray_primitives.specs.Primitives.{TriangleValue, box_of_triangle}
use Rattle.ray_geometries.specs.declared.shapes.Shapes.{Shapes}
use Rattle.ray_geometries.specs.declared.shapes.Shapes.TheVariants.{Triangles, Boxes}
use Rattle.ray_geometries.specs.Contents.{count_of, count_of_shapes, total_of, boxes_of, boxes_of_shapes, active_boxes, active_of}
use Rattle.ray_leaves.specs.Places.{place_of}
use Rattle.ray_bottom.specs.Trees.{place_at, place_in_one, places_from, items_of, items_of_shapes}

-- the places of one geometry
abbrev own : ℕ → Geometry → List PrimPlace
own k g = map (place_of k) (range_with_len 0 (count_of g))

-- those of one geometry more stand behind the others
pub places-last : (from : ℕ) (gs : List Geometry) (g : Geometry) → places_from from (gs ++ g ∷ []) ≡ places_from from gs ++ own (from + length gs) g
places-last from [] g = append-nil (own from g) ∙ ap (λ k. own k g) (omega arith)
places-last from (f ∷ gs) g =
    ap (λ ps. own from f ++ ps) (places-last (from + 1) gs g)
    ∙ (sym (append_assoc (own from f) (places_from (from + 1) gs) (own ((from + 1) + length gs) g))
    ∙ ap (λ k. places_from from (f ∷ gs) ++ own k g) (omega arith))

count_taken : (gs : List Geometry) (k : ℕ) → k < length gs → 0 + length (take k gs) ≡ k
count_taken gs k below = let many = length-take k gs in grind (arith, common_steps)

pub places_more : (gs : List Geometry) (k : ℕ) (d : Geometry) (ps qs : List PrimPlace) → k < length gs → ps ≡ places_from 0 (take k gs)
    → qs ≡ ps ++ own k (get_or gs k d) → qs ≡ places_from 0 (take (k + 1) gs)
places_more gs k d ps qs below so_far more =
    more
    ∙ (ap (λ xs. xs ++ own k (get_or gs k d)) so_far
    ∙ (ap (λ n. places_from 0 (take k gs) ++ own n (get_or gs k d)) (sym (count_taken gs k below))
    ∙ (sym (places-last 0 (take k gs) (get_or gs k d)) ∙ ap (λ xs. places_from 0 xs) (sym (take_more gs k d below)))))

-- there are as many items as primitives
items_le : (s : Shapes) → length (items_of_shapes s) ≤ count_of_shapes s
items_le (Triangles format size ts) = let many = length-map ts box_of_triangle in omega arith
items_le (Boxes bs) = omega arith

pub items-few : (gs : List Geometry) → length (items_of gs) ≤ total_of gs
items-few gs =
    let many = length-flat_map (λ (g : Geometry). items_of_shapes g.shapes) gs in
    let le = sum_by-le-sum_by (λ (g : Geometry). length (items_of_shapes g.shapes)) count_of gs (λ g. items_le g.shapes) in
    omega arith

-- and as many of them are active
own_boxes : (ts : List TriangleValue) → filter_map (λ (box : Option BoxValue). box) (map box_of_triangle ts) ≡ filter_map box_of_triangle ts
own_boxes [] = refl
own_boxes (t ∷ ts) = ap (λ boxes. cons_option (box_of_triangle t) boxes) (own_boxes ts)

shape_boxes : (s : Shapes) → filter_map (λ (box : Option BoxValue). box) (items_of_shapes s) ≡ boxes_of_shapes s
shape_boxes (Triangles format size ts) = own_boxes ts
shape_boxes (Boxes bs) = refl

all_boxes : (gs : List Geometry) → filter_map (λ (box : Option BoxValue). box) (items_of gs) ≡ active_boxes gs
all_boxes [] = refl
all_boxes (g ∷ gs) =
    ap (λ items. filter_map (λ (box : Option BoxValue). box) items) (flat_map-cons (λ (h : Geometry). items_of_shapes h.shapes) g gs)
    ∙ (filter_map-append (λ (box : Option BoxValue). box) (items_of_shapes g.shapes) (items_of gs)
    ∙ ((λ i. shape_boxes g.shapes i ++ all_boxes gs i) ∙ sym (flat_map-cons boxes_of g gs)))

counted_box : (o : Option BoxValue) (rest : List BoxValue) → length (cons_option o rest) ≡ cond (is_some o) (1 + length rest) (length rest)
counted_box None rest = refl
counted_box (Some box) rest = omega arith

counted : (items : List (Option BoxValue)) → length (filter_map (λ box. box) items) ≡ count_by (λ (b : Option BoxValue). is_some b) items
counted items =
    is_count_by (λ (cs : List (Option BoxValue)). length (filter_map (λ box. box) cs)) (λ (b : Option BoxValue). is_some b) refl
    (λ b cs. counted_box b (filter_map (λ box. box) cs)) items

pub items-active : (gs : List Geometry) → items_active (items_of gs) ≡ active_of gs
items-active gs = sym (counted (items_of gs)) ∙ ap length (all_boxes gs)

-- ---- one geometry alone

in_one : (n p : ℕ) (b : Bool) → ltb p n ≡ b → get_or (map (place_of 0) (range_with_len 0 n)) p (place_of 0 0) ≡ place_of 0 (cond b p 0)
in_one n p true e = get_or-map-range_with_len (place_of 0) 0 n p p (place_of 0 0) (ltb-true p n e) (omega arith)
in_one n p false e =
    let long = length-map-range_with_len (place_of 0) 0 n in
    ap (λ ps. get_or ps p (place_of 0 0)) (sym (append-nil (map (place_of 0) (range_with_len 0 n))))
    ∙ get_or-append_right (map (place_of 0) (range_with_len 0 n)) [] n p (place_of 0 0) long (ltb-false p n e)

place_at-one : (g : Geometry) (p : ℕ) → place_at (g ∷ []) p ≡ place_in_one (count_of g) p
place_at-one g p =
    ap (λ ps. get_or ps p (place_of 0 0)) (append-nil (own 0 g)) ∙ in_one (count_of g) p (ltb p (count_of g)) refl

pub places-one : (g : Geometry) (numbers : List ℕ) → map (place_in_one (count_of g)) numbers ≡ map (place_at (g ∷ [])) numbers
places-one g numbers = λ i. map (λ p. sym (place_at-one g p) i) numbers

-- a list of one geometry, of which this is the first
pub alone : (gs : List Geometry) (g : Geometry) → 1 ≤ length gs → length gs < 2 → g ≡ get_or gs 0 g → gs ≡ g ∷ []
alone [] g some few is = absurd (omega (arith, some))
alone (x ∷ []) g some few is = ap (λ y. y ∷ []) (sym is)
alone (x ∷ y ∷ ys) g some few is = absurd (omega (arith, few))

pub places-alone : (gs : List Geometry) (g : Geometry) (count : ℕ) (numbers : List ℕ) → gs ≡ g ∷ [] → count ≡ count_of g
    → map (place_in_one count) numbers ≡ map (place_at gs) numbers
places-alone gs g count numbers one many =
    ap (λ n. map (place_in_one n) numbers) many ∙ (places-one g numbers ∙ ap (λ hs. map (place_at hs) numbers) (sym one))

-- there are at most 2^20 of either
pub items-within : (gs : List Geometry) (v : List (Option BoxValue)) → v ≡ items_of gs → total_of gs ≤ 2 ^ 20 → length v ≤ 2 ^ 20
items-within gs v is few = omega (arith, ap length is, items-few gs)
