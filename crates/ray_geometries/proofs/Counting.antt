-- How many primitives there are, and how many are active.
use Rattle.std.proofs.Common.{ℕ, ◌≡◌, ◌<◌, ◌≤◌, ◌+◌, ◌∙◌, List, [], ◌∷◌, length, take, get_or, Option, Some, None, refl, ap, arith, length-append}
use Rattle.std.specs.Prelude.{slice_get}
use Rattle.std.specs.List.{filter_map, cons_option}
use Rattle.std.proofs.lemmas.List.{take_more, length-take-le}
use Rattle.std.proofs.lemmas.List.Elements.{filter_map-append}
use Rattle.std.proofs.lemmas.List.Concat.{length-flat_map}
use Rattle.std.proofs.lemmas.List.Sums.{sum_by-le-sum_by, get_or-le-sum_by}
use Rattle.std.proofs.lemmas.Option.{get_or_from_slice_get, slice_get_within}
use Rattle.ray_geom.specs.Boxes.{BoxValue}
use Rattle.ray_primitives.specs.Primitives.{box_of_triangle}
use Rattle.ray_geometries.specs.declared.geometry.Geometry.{Geometry}
use Rattle.ray_geometries.specs.declared.shapes.Shapes.{Shapes}
use Rattle.ray_geometries.specs.declared.shapes.Shapes.TheVariants.{Triangles, Boxes}
use Rattle.ray_geometries.specs.Contents.{count_of, count_of_shapes, boxes_of, boxes_of_shapes, total_of, active_boxes}
use Rattle.ray_geometries.specs.Tallies.{one_if_some}

-- no more are active than there are
one_more : {X : Type 0} (o : Option X) (xs : List X) (n : ℕ) → length xs ≤ n → length (cons_option o xs) ≤ n + 1
one_more None xs n h = omega arith
one_more (Some x) xs n h = omega arith

pub length-filter_map : {X Y : Type 0} (f : X → Option Y) (xs : List X) → length (filter_map f xs) ≤ length xs
length-filter_map f [] = omega arith
length-filter_map f (x ∷ xs) = let more = one_more (f x) (filter_map f xs) (length xs) (length-filter_map f xs) in omega arith

boxes_le : (s : Shapes) → length (boxes_of_shapes s) ≤ count_of_shapes s
boxes_le (Triangles format size ts) = length-filter_map box_of_triangle ts
boxes_le (Boxes bs) = length-filter_map (λ box. box) bs

pub active-le-total : (gs : List Geometry) → length (active_boxes gs) ≤ total_of gs
active-le-total gs =
    let many = length-flat_map boxes_of gs in
    let le = sum_by-le-sum_by (λ (g : Geometry). length (boxes_of g)) count_of gs (λ g. boxes_le g.shapes) in
    omega arith

-- one more of a list adds one, if it is active
length-one : (o : Option BoxValue) → length (cons_option o []) ≡ one_if_some o
length-one None = refl
length-one (Some box) = refl

pub active_more : {X : Type 0} (box_of : X → Option BoxValue) (xs : List X) (i : ℕ) (d : X) → i < length xs →
    length (filter_map box_of (take (i + 1) xs)) ≡ length (filter_map box_of (take i xs)) + one_if_some (box_of (get_or xs i d))
active_more box_of xs i d below =
    let one = length-one (box_of (get_or xs i d)) in
    let sum = length-append (filter_map box_of (take i xs)) (filter_map box_of (get_or xs i d ∷ [])) in
    ap (λ ys. length (filter_map box_of ys)) (take_more xs i d below)
    ∙ (ap length (filter_map-append box_of (take i xs) (get_or xs i d ∷ [])) ∙ omega (arith, one, sum))

-- no more of the first i are active than i
pub active_among : {X : Type 0} (box_of : X → Option BoxValue) (xs : List X) (i : ℕ) → i ≤ length xs → length (filter_map box_of (take i xs)) ≤ i
active_among box_of xs i within =
    let all = length-filter_map box_of (take i xs) in
    let few = length-take-le i xs within in
    omega (arith, all, few)

-- a geometry has no more than there are together
pub count-le-total : (gs : List Geometry) (k : ℕ) (g : Geometry) → slice_get gs k ≡ Some g → count_of g ≤ total_of gs
count-le-total gs k g e =
    let same = ap count_of (get_or_from_slice_get gs k g g e) in
    let le = get_or-le-sum_by count_of gs k g (slice_get_within gs k g e) in
    omega arith
