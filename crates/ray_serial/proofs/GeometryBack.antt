-- What a geometry is written as says that geometry.
use Rattle.std.proofs.Common.{ℕ, ◌≡◌, ◌≤◌, ◌+◌, ◌*◌, ◌==◌, ◌&&◌, ◌||◌, ◌^◌, ◌++◌, Bool, true, false, List, [], ◌∷◌, length, take, drop, Some, None, option_map, refl, sym, ap, subst, ◌∙◌, arith, length-append, append_assoc, mul-suc}
use Rattle.std.specs.Prelude.{All, nat_le, if◌then◌else◌}
use Rattle.std.specs.List.{flat_map}
use Rattle.std.proofs.lemmas.Bool.Decides.{nat_tests}
use Rattle.std.proofs.lemmas.List.{drop-drop, take_at, drop_at}
use Rattle.std.proofs.lemmas.List.Concat.{flat_map-cons}
use Rattle.std.proofs.lemmas.List.Elements.{All-tail}
use Rattle.std.proofs.lemmas.List.Sums.{sum_by-cons}
use Rattle.ray_bytes.specs.declared.format.Format.{Format}
use Rattle.ray_bytes.specs.declared.format.Format.TheVariants.{S32x3, S32x2, S16x3}
use Rattle.ray_flags.specs.declared.kind.Kind.{Kind}
use Rattle.ray_flags.specs.declared.kind.Kind.TheVariants.{Triangle, Aabb}
use Rattle.ray_primitives.specs.StoredPrimitives.{triangle_bytes, aabb_bytes}
use Rattle.ray_primitives.proofs.StoredBack.{length-triangle_bytes, length-aabb_bytes}
use Rattle.ray_geometries.specs.declared.geometry.Geometry.{Geometry}
use Rattle.ray_geometries.specs.declared.shapes.Shapes.{Shapes}
use Rattle.ray_geometries.specs.declared.shapes.Shapes.TheVariants.{Triangles, Boxes}
use Rattle.ray_geometries.specs.Contents.{IsGeometry, ShapesAreWithin, is_index_size, kind_of, kind_of_shapes, count_of, count_of_shapes, total_of}
use Rattle.ray_geometries.specs.Storing.{bytes_of_words, kind_number, opaque_number, format_number, index_number, format_of, index_size_of, stored_shapes, element_bytes, geometry_bytes, geometry_words}
use Rattle.ray_geometries.proofs.Restoring.{IsStoredBack-geometry}
use Rattle.ray_form.specs.Heads.{element_size, greatest_opacity, greatest_number, elements_size, geometry_size, is_head, is_whole, is_geometry, kind_named, format_named, index_size_named, elements_in, shapes_in, geometry_of, geometry_in}
use Rattle.ray_form.specs.Rows.{after_first, are_geometries, total_in, with_first, geometries_in}
use Rattle.ray_serial.proofs.Words.{HasWords, head_bytes, head_back, length-head_bytes, after_head}

-- ---- sizes

length_parts : {X : Type 0} (f : X → List ℕ) (n : ℕ) → ((x : X) → length (f x) ≡ n) → (xs : List X) → length (flat_map f xs) ≡ n * length xs
length_parts f n sized [] = omega arith
length_parts f n sized (x ∷ xs) =
    let rest = length_parts f n sized xs in
    let first = sized x in
    ap length (flat_map-cons f x xs) ∙ (length-append (f x) (flat_map f xs) ∙ omega (arith, mul-suc n (length xs)))

pub length-element_bytes : (s : Shapes) → length (element_bytes s) ≡ element_size (kind_number (kind_of_shapes s)) * count_of_shapes s
length-element_bytes (Triangles format size ts) = length_parts triangle_bytes 48 length-triangle_bytes ts
length-element_bytes (Boxes boxes) = length_parts aabb_bytes 24 length-aabb_bytes boxes

pub length-geometry_bytes : (g : Geometry) → length (geometry_bytes g) ≡ 32 + element_size (kind_number (kind_of g)) * count_of g
length-geometry_bytes g =
    length-append (bytes_of_words (geometry_words g)) (element_bytes g.shapes)
    ∙ (λ i. length-head_bytes (kind_number (kind_of g)) (opaque_number g.opaque) (format_number (format_of g.shapes)) (index_number (index_size_of g.shapes)) (count_of g) i
    + length-element_bytes g.shapes i)

-- ---- numbers that name kinds, formats and sizes

kind_back : (kind : Kind) → kind_named (kind_number kind) ≡ kind
kind_back Triangle = refl
kind_back Aabb = refl

opaque_back : (opaque : Bool) → (opaque_number opaque == 1) ≡ opaque
opaque_back true = refl
opaque_back false = refl

format_back : (format : Format) → format_named (format_number format) ≡ format
format_back S32x3 = refl
format_back S32x2 = refl
format_back S16x3 = refl

index_by : (a b c : Bool) (size : ℕ) → (size == 0) ≡ a → (size == 2) ≡ b → (size == 4) ≡ c → ((a || b) || c) ≡ true →
    index_size_named (if a then 0 else if b then 1 else 2) ≡ size
index_by true b c size p q r e = grind (arith, nat_tests)
index_by false true c size p q r e = grind (arith, nat_tests)
index_by false false true size p q r e = grind (arith, nat_tests)
index_by false false false size p q r e = absurd cc

index_back : (size : ℕ) → is_index_size size ≡ true → index_size_named (index_number size) ≡ size
index_back size e = index_by (size == 0) (size == 2) (size == 4) size refl refl refl e

index_of_shapes : (s : Shapes) → ShapesAreWithin s → index_size_named (index_number (index_size_of s)) ≡ index_size_of s
index_of_shapes (Triangles format size ts) within = index_back size within.0
index_of_shapes (Boxes boxes) within = refl

kind_small : (kind : Kind) → kind_number kind ≤ 1
kind_small Triangle = omega arith
kind_small Aabb = omega arith

opaque_small : (opaque : Bool) → opaque_number opaque ≤ 1
opaque_small true = omega arith
opaque_small false = omega arith

format_small : (format : Format) → format_number format ≤ 2
format_small S32x3 = omega arith
format_small S32x2 = omega arith
format_small S16x3 = omega arith

index_small_by : (a b : Bool) → (if a then 0 else if b then 1 else 2) ≤ 2
index_small_by true b = omega arith
index_small_by false true = omega arith
index_small_by false false = omega arith

index_small : (size : ℕ) → index_number size ≤ 2
index_small size = index_small_by (size == 0) (size == 2)

-- ---- a geometry at the front

-- a geometry stands at the front of bytes, and others follow it
pub record IsFront (g : Geometry) (rest others : List ℕ) : Type 0 where
  pub words : HasWords rest (kind_number (kind_of g)) (opaque_number g.opaque) (format_number (format_of g.shapes)) (index_number (index_size_of g.shapes)) (count_of g)
  pub elements : drop 32 rest ≡ element_bytes g.shapes ++ others
  pub long : length rest ≡ 32 + length (element_bytes g.shapes) + length others

pub front : (g : Geometry) (others : List ℕ) → count_of g ≤ 2 ^ 20 → IsFront g (geometry_bytes g ++ others) others
front g others few =
    let kind = kind_number (kind_of g) in
    let opaque = opaque_number g.opaque in
    let format = format_number (format_of g.shapes) in
    let index = index_number (index_size_of g.shapes) in
    let elements = element_bytes g.shapes in
    let P : List ℕ → Type 0 = λ rest. IsFront g rest others in
    let p = kind_small (kind_of g) in
    let q = opaque_small g.opaque in
    let r = format_small (format_of g.shapes) in
    let s = index_small (index_size_of g.shapes) in
    subst P (sym (append_assoc (head_bytes kind opaque format index (count_of g)) elements others))
    (record {
      words = head_back kind opaque format index (count_of g) (elements ++ others) (omega arith) (omega arith) (omega arith) (omega arith) (omega arith);
      elements = after_head kind opaque format index (count_of g) (elements ++ others);
      long = length-append (head_bytes kind opaque format index (count_of g)) (elements ++ others)
          ∙ (λ i. length-head_bytes kind opaque format index (count_of g) i + length-append elements others i)
          ∙ omega arith;
    })

pub elements_are : (g : Geometry) (rest others : List ℕ) → IsFront g rest others → elements_size rest ≡ length (element_bytes g.shapes)
unfolding elements_size
elements_are g rest others f = (λ i. element_size (f.words.kind_is i) * f.words.count_is i) ∙ sym (length-element_bytes g.shapes)

pub follows : (g : Geometry) (rest others : List ℕ) → IsFront g rest others → after_first rest ≡ others
unfolding after_first
follows g rest others f =
    let size = elements_are g rest others f in
    sym (drop-drop (elements_size rest) 32 rest)
    ∙ ((λ i. drop (size i) (f.elements i)) ∙ drop_at (element_bytes g.shapes) others (length (element_bytes g.shapes)) refl)

elements_back : (g : Geometry) (rest others : List ℕ) → IsFront g rest others → elements_in rest ≡ element_bytes g.shapes
unfolding elements_in
elements_back g rest others f =
    let size = elements_are g rest others f in
    (λ i. take (size i) (f.elements i)) ∙ take_at (element_bytes g.shapes) others (length (element_bytes g.shapes)) refl

both_true : (a b : Bool) → a ≡ true → b ≡ true → (a && b) ≡ true
both_true a b p q = λ i. p i && q i

le_test : (a b : ℕ) → a ≤ b → nat_le a b ≡ true
le_test a b h = grind (arith, nat_tests)

pub is_whole-front : (g : Geometry) (rest others : List ℕ) → IsFront g rest others → is_whole rest ≡ true
unfolding is_whole
is_whole-front g rest others f =
    let size = elements_are g rest others f in
    let long = f.long in
    both_true (nat_le 32 (length rest)) (nat_le (geometry_size rest) (length rest)) (le_test 32 (length rest) (omega arith))
    (le_test (geometry_size rest) (length rest) (omega arith))

-- the words of a head keep its limits
five : (a b c d e : Bool) → a ≡ true → b ≡ true → c ≡ true → d ≡ true → e ≡ true → (a && b && c && d && e) ≡ true
five a b c d e p q r s t = λ i. p i && q i && r i && s i && t i

head_test : ℕ → ℕ → ℕ → ℕ → ℕ → Bool → Bool
head_test kind k o f x zeros = (k == kind) && nat_le o (greatest_opacity kind) && nat_le f (greatest_number kind) && nat_le x (greatest_number kind) && zeros

passes : (opaque : Bool) (s : Shapes) →
    head_test (kind_number (kind_of_shapes s)) (kind_number (kind_of_shapes s)) (opaque_number opaque) (format_number (format_of s)) (index_number (index_size_of s)) true ≡ true
unfolding head_test
passes opaque (Triangles format size ts) =
    five true (nat_le (opaque_number opaque) 1) (nat_le (format_number format) 2) (nat_le (index_number size) 2) true refl
    (le_test (opaque_number opaque) 1 (opaque_small opaque)) (le_test (format_number format) 2 (format_small format))
    (le_test (index_number size) 2 (index_small size)) refl
passes opaque (Boxes boxes) = five true (nat_le (opaque_number opaque) 1) true true true refl (le_test (opaque_number opaque) 1 (opaque_small opaque)) refl refl refl

is_head-front : (g : Geometry) (rest others : List ℕ) → IsFront g rest others → is_head (kind_number (kind_of g)) rest ≡ true
unfolding is_head head_test
is_head-front g rest others f =
    let w = f.words in
    (λ i. head_test (kind_number (kind_of g)) (w.kind_is i) (w.opaque_is i) (w.format_is i) (w.index_is i) (w.zeros i)) ∙ passes g.opaque g.shapes

is_geometry-front : (kind : ℕ) (g : Geometry) (rest others : List ℕ) → kind_number (kind_of g) ≡ kind → IsFront g rest others → is_geometry kind rest ≡ true
unfolding is_geometry
is_geometry-front kind g rest others named f =
    both_true (is_whole rest) (is_head kind rest) (is_whole-front g rest others f) (ap (λ k. is_head k rest) (sym named) ∙ is_head-front g rest others f)

geometry_in-front : (g : Geometry) (rest others : List ℕ) → IsGeometry g → IsFront g rest others → geometry_in rest ≡ Some g
unfolding geometry_in shapes_in
geometry_in-front g rest others is f =
    let w = f.words in
    let whole = is_whole-front g rest others f in
    let elements = elements_back g rest others f in
    let kind = kind_back (kind_of g) in
    let opaque = opaque_back g.opaque in
    let format = format_back (format_of g.shapes) in
    let index = index_of_shapes g.shapes is.within in
    (λ i. if whole i then option_map (geometry_of (w.opaque_is i == 1))
    (stored_shapes (kind_named (w.kind_is i)) (format_named (w.format_is i)) (index_size_named (w.index_is i)) (w.count_is i) (elements i)) else None)
    ∙ ((λ i. option_map (geometry_of (opaque i)) (stored_shapes (kind i) (format i) (index i) (count_of g) (element_bytes g.shapes)))
    ∙ ap (option_map (geometry_of g.opaque)) (IsStoredBack-geometry g is).same)

-- ---- geometries one after the other

pub record IsRow (kind : ℕ) (gs : List Geometry) (row : List ℕ) : Type 0 where
  pub fill : are_geometries kind (length gs) row ≡ true
  pub total : total_in (length gs) row ≡ total_of gs
  pub same : geometries_in (length gs) row ≡ Some gs

row_first : (kind : ℕ) (g : Geometry) (gs : List Geometry) (rest : List ℕ) → kind_number (kind_of g) ≡ kind → IsGeometry g →
    IsFront g rest (flat_map geometry_bytes gs) → IsRow kind gs (flat_map geometry_bytes gs) → IsRow kind (g ∷ gs) rest
row_first kind g gs rest named is f others =
    let next = follows g rest (flat_map geometry_bytes gs) f in
    record {
      fill = both_true (is_geometry kind rest) (are_geometries kind (length gs) (after_first rest))
          (is_geometry-front kind g rest (flat_map geometry_bytes gs) named f)
          (ap (are_geometries kind (length gs)) next ∙ others.fill);
      total = (λ i. f.words.count_is i + (ap (total_in (length gs)) next ∙ others.total) i) ∙ sym (sum_by-cons count_of g gs);
      same = λ i. with_first (geometry_in-front g rest (flat_map geometry_bytes gs) is f i) ((ap (geometries_in (length gs)) next ∙ others.same) i);
    }

pub row_back : (kind : ℕ) (gs : List Geometry) → All (λ g. kind_number (kind_of g) ≡ kind) gs → All IsGeometry gs → total_of gs ≤ 2 ^ 20 →
    IsRow kind gs (flat_map geometry_bytes gs)
row_back kind [] named is few = record { fill = refl; total = refl; same = refl }
row_back kind (g ∷ gs) named is few =
    let sum = sum_by-cons count_of g gs in
    let others = row_back kind gs (All-tail (λ h. kind_number (kind_of h) ≡ kind) g gs named) (All-tail IsGeometry g gs is) (omega arith) in
    let P : List ℕ → Type 0 = λ rest. IsRow kind (g ∷ gs) rest in
    subst P (sym (flat_map-cons geometry_bytes g gs))
    (row_first kind g gs (geometry_bytes g ++ flat_map geometry_bytes gs) (named 0 g (omega arith)) (is 0 g (omega arith))
    (front g (flat_map geometry_bytes gs) (omega arith)) others)
