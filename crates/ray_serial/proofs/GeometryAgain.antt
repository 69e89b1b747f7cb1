-- What a geometry that is read is written as are the bytes that it was read from.
use Rattle.std.proofs.Common.{ℕ, suc, zero, ◌≡◌, ◌≤◌, ◌+◌, ◌*◌, ◌==◌, ◌&&◌, ◌++◌, Bool, true, false, List, [], ◌∷◌, length, take, drop, Option, Some, None, option_map, refl, sym, ap, subst, ◌∙◌, arith, append_assoc}
use Rattle.std.specs.Prelude.{All, IfSome, nat_le, if◌then◌else◌}
use Rattle.std.specs.List.{flat_map}
use Rattle.std.proofs.lemmas.Bool.Decides.{nat_tests}
use Rattle.std.proofs.lemmas.List.{drop-drop, take-append-drop, nil_from_length}
use Rattle.std.proofs.lemmas.List.Concat.{flat_map-cons}
use Rattle.std.proofs.lemmas.List.Elements.{All-cons, All-nil}
use Rattle.std.proofs.lemmas.List.Sums.{sum_by-cons}
use Rattle.ray_bytes.specs.Fields.{word_at}
use Rattle.ray_bytes.specs.declared.format.Format.{Format}
use Rattle.ray_bytes.specs.declared.format.Format.TheVariants.{S32x3, S32x2, S16x3}
use Rattle.ray_flags.specs.declared.kind.Kind.{Kind}
use Rattle.ray_flags.specs.declared.kind.Kind.TheVariants.{Triangle, Aabb}
use Rattle.ray_primitives.specs.StoredPrimitives.{stored_triangles, stored_boxes}
use Rattle.ray_geometries.specs.declared.geometry.Geometry.{Geometry}
use Rattle.ray_geometries.specs.declared.shapes.Shapes.{Shapes}
use Rattle.ray_geometries.specs.declared.shapes.Shapes.TheVariants.{Triangles, Boxes}
use Rattle.ray_geometries.specs.Contents.{IsGeometry, is_index_size, kind_of, kind_of_shapes, count_of, count_of_shapes, total_of}
use Rattle.ray_geometries.specs.Storing.{kind_number, opaque_number, format_number, index_number, format_of, index_size_of, stored_shapes, triangles_of, boxes_of_elements, element_bytes, geometry_bytes}
use Rattle.ray_geometries.proofs.Restoring.{AreStored-shapes, element_bytes-stored}
use Rattle.ray_form.specs.Heads.{greatest_opacity, greatest_number, has_zeros, count_in, elements_size, is_head, is_whole, is_geometry, geometry_size, kind_named, format_named, index_size_named, elements_in, shapes_in, geometry_of, geometry_in}
use Rattle.ray_form.specs.Rows.{after_first, are_geometries, total_in, with_first, geometries_in}
use Rattle.ray_serial.proofs.Words.{AreBytes, AreBytes-drop, AreBytes-take, HasWords, head_bytes, head_again}
use Rattle.ray_primitives.proofs.Chosen.{if_some}
use Rattle.ray_geometries.proofs.Restoring.{mapped}

-- ---- what a test tells

both : (a b : Bool) → (a && b) ≡ true → (a ≡ true) × (b ≡ true)
both true b e = (refl, e)
both false b e = absurd cc

number_is : (a b : ℕ) → (a == b) ≡ true → a ≡ b
number_is a b e = grind (arith, nat_tests)

is_at_most : (a b : ℕ) → nat_le a b ≡ true → a ≤ b
is_at_most a b e = grind (arith, nat_tests)

some_same : {X : Type 0} (x y : X) → Some x ≡ Some y → x ≡ y
some_same x y e = cc

-- ---- numbers

format_by : (a b : Bool) (n : ℕ) → (n == 0) ≡ a → (n == 1) ≡ b → n ≤ 2 → format_number (if a then S32x3 else if b then S32x2 else S16x3) ≡ n
format_by true b n p q h = let zero_is = number_is n 0 p in omega arith
format_by false true n p q h = let one_is = number_is n 1 q in omega arith
format_by false false n p q h = grind (arith, nat_tests)

format_again : (n : ℕ) → n ≤ 2 → format_number (format_named n) ≡ n
format_again n h = format_by (n == 0) (n == 1) n refl refl h

index_by : (a b : Bool) (n : ℕ) → (n == 0) ≡ a → (n == 1) ≡ b → n ≤ 2 → index_number (if a then 0 else if b then 2 else 4) ≡ n
index_by true b n p q h = let zero_is = number_is n 0 p in omega arith
index_by false true n p q h = let one_is = number_is n 1 q in omega arith
index_by false false n p q h = grind (arith, nat_tests)

index_again : (n : ℕ) → n ≤ 2 → index_number (index_size_named n) ≡ n
index_again n h = index_by (n == 0) (n == 1) n refl refl h

opaque_by : (a : Bool) (n : ℕ) → (n == 1) ≡ a → n ≤ 1 → opaque_number a ≡ n
opaque_by true n p h = let one_is = number_is n 1 p in omega arith
opaque_by false n p h = grind (arith, nat_tests)

opaque_again : (n : ℕ) → n ≤ 1 → opaque_number (n == 1) ≡ n
opaque_again n h = opaque_by (n == 1) n refl h

kind_again : (kind : Kind) → kind_named (kind_number kind) ≡ kind
kind_again Triangle = refl
kind_again Aabb = refl

-- ---- the words of a head

record KeepsHead (kind : Kind) (rest : List ℕ) : Type 0 where
  kind_is : word_at rest 0 ≡ kind_number kind
  opaque : word_at rest 4 ≤ 1
  format : word_at rest 8 ≤ greatest_number (kind_number kind)
  index : word_at rest 12 ≤ greatest_number (kind_number kind)
  zeros : has_zeros rest ≡ true

five : (a b c d e : Bool) → (a && b && c && d && e) ≡ true → (a ≡ true) × (b ≡ true) × (c ≡ true) × (d ≡ true) × (e ≡ true)
five true true true true e p = (refl, refl, refl, refl, p)
five true true true false e p = absurd cc
five true true false d e p = absurd cc
five true false c d e p = absurd cc
five false b c d e p = absurd cc

opacity : (kind : Kind) (n : ℕ) → n ≤ greatest_opacity (kind_number kind) → n ≤ 1
opacity Triangle n h = h
opacity Aabb n h = h

head_keeps : (kind : Kind) (rest : List ℕ) → is_head (kind_number kind) rest ≡ true → KeepsHead kind rest
unfolding is_head
head_keeps kind rest e =
    let k = kind_number kind in
    let h = five (word_at rest 0 == k) (nat_le (word_at rest 4) (greatest_opacity k)) (nat_le (word_at rest 8) (greatest_number k))
    (nat_le (word_at rest 12) (greatest_number k)) (has_zeros rest) e in
    record {
      kind_is = number_is (word_at rest 0) k h.0;
      opaque = opacity kind (word_at rest 4) (is_at_most (word_at rest 4) (greatest_opacity k) h.1);
      format = is_at_most (word_at rest 8) (greatest_number k) h.2;
      index = is_at_most (word_at rest 12) (greatest_number k) h.3;
      zeros = h.4;
    }

-- ---- what primitives that are read say of their head

record IsNamed (format : Format) (size : ℕ) (s : Shapes) : Type 0 where
  format_is : format_of s ≡ format
  size_is : index_size_of s ≡ size

named_same : (format : Format) (size : ℕ) (s t : Shapes) → IsNamed format size s → s ≡ t → IsNamed format size t
named_same format size s t h e = subst (λ r. IsNamed format size r) e h

triangles_named : (format : Format) (size count : ℕ) (bytes : List ℕ) (s : Shapes) → triangles_of format size count bytes ≡ Some s → IsNamed format size s
unfolding triangles_of
triangles_named format size count bytes s e =
    let h = if_some (is_index_size size && (length bytes == 48 * count)) (option_map (Triangles format size) (stored_triangles size count bytes)) s e in
    let m = mapped (Triangles format size) (stored_triangles size count bytes) s h.1 in
    named_same format size (Triangles format size m.value) s (record { format_is = refl; size_is = refl }) m.same

boxes_named : (size count : ℕ) (bytes : List ℕ) (s : Shapes) → boxes_of_elements size count bytes ≡ Some s → IsNamed S32x3 0 s
unfolding boxes_of_elements
boxes_named size count bytes s e =
    let h = if_some ((size == 0) && (length bytes == 24 * count)) (option_map Boxes (stored_boxes count bytes)) s e in
    let m = mapped Boxes (stored_boxes count bytes) s h.1 in
    named_same S32x3 0 (Boxes m.value) s (record { format_is = refl; size_is = refl }) m.same

-- the format and the size of the indices by their numbers again
record SaysNumbers (f x : ℕ) (s : Shapes) : Type 0 where
  format_is : format_number (format_of s) ≡ f
  size_is : index_number (index_size_of s) ≡ x

says : (kind : Kind) (f x count : ℕ) (bytes : List ℕ) (s : Shapes) → f ≤ greatest_number (kind_number kind) → x ≤ greatest_number (kind_number kind) →
    stored_shapes kind (format_named f) (index_size_named x) count bytes ≡ Some s → SaysNumbers f x s
says Triangle f x count bytes s p q e =
    let named = triangles_named (format_named f) (index_size_named x) count bytes s e in
    record { format_is = ap format_number named.format_is ∙ format_again f p; size_is = ap index_number named.size_is ∙ index_again x q }
says Aabb f x count bytes s p q e =
    let named = boxes_named (index_size_named x) count bytes s e in
    let none : 0 ≡ f = omega arith in
    let no : 0 ≡ x = omega arith in
    record { format_is = ap format_number named.format_is ∙ none; size_is = ap index_number named.size_is ∙ no }

-- ---- a geometry

pub record IsAgain (kind : Kind) (g : Geometry) (rest : List ℕ) : Type 0 where
  pub kind_is : kind_of g ≡ kind
  pub count_is : count_of g ≡ count_in rest
  pub is : IsGeometry g
  pub same : geometry_bytes g ++ after_first rest ≡ rest

if_holds : {X : Type 0} (P : X → Type 0) (o : Option X) (x : X) → IfSome o P → o ≡ Some x → P x
if_holds P (Some y) x h e = let same : y ≡ x = cc in subst P same h
if_holds P None x h e = absurd cc

split : (rest : List ℕ) → elements_in rest ++ after_first rest ≡ drop 32 rest
unfolding elements_in after_first
split rest =
    ap (λ ys. take (elements_size rest) (drop 32 rest) ++ ys) (sym (drop-drop (elements_size rest) 32 rest)) ∙ take-append-drop (elements_size rest) (drop 32 rest)

fits_elements : (rest : List ℕ) → AreBytes rest → AreBytes (elements_in rest)
unfolding elements_in
fits_elements rest fits = AreBytes-take (elements_size rest) (drop 32 rest) (AreBytes-drop 32 rest fits)

long_enough : (rest : List ℕ) → is_whole rest ≡ true → 32 ≤ length rest
unfolding is_whole
long_enough rest e = is_at_most 32 (length rest) (both (nat_le 32 (length rest)) (nat_le (geometry_size rest) (length rest)) e).0

again_of : (kind : Kind) (rest : List ℕ) (s : Shapes) → AreBytes rest → is_whole rest ≡ true → KeepsHead kind rest →
    stored_shapes kind (format_named (word_at rest 8)) (index_size_named (word_at rest 12)) (count_in rest) (elements_in rest) ≡ Some s →
    IsAgain kind (geometry_of (word_at rest 4 == 1) s) rest
again_of kind rest s fits whole head e =
    let format = format_named (word_at rest 8) in
    let size = index_size_named (word_at rest 12) in
    let are = AreStored-shapes kind format size (count_in rest) (elements_in rest) s e in
    let numbers = says kind (word_at rest 8) (word_at rest 12) (count_in rest) (elements_in rest) s head.format head.index e in
    let P : Shapes → Type 0 = λ t. element_bytes t ≡ elements_in rest in
    let elements : element_bytes s ≡ elements_in rest =
    if_holds P (stored_shapes kind format size (count_in rest) (elements_in rest)) s
    (element_bytes-stored kind format size (count_in rest) (elements_in rest) (fits_elements rest fits).each) e in
    let k = kind_number (kind_of_shapes s) in
    let o = opaque_number (word_at rest 4 == 1) in
    let f = format_number (format_of s) in
    let x = index_number (index_size_of s) in
    let words : HasWords rest k o f x (count_of_shapes s) = record {
      kind_is = head.kind_is ∙ ap kind_number (sym are.kind_is);
      opaque_is = sym (opaque_again (word_at rest 4) head.opaque);
      format_is = sym numbers.format_is;
      index_is = sym numbers.size_is;
      count_is = sym are.count_is;
      zeros = head.zeros;
    } in
    record {
      kind_is = are.kind_is;
      count_is = are.count_is;
      is = record { within = are.within };
      same = append_assoc (head_bytes k o f x (count_of_shapes s)) (element_bytes s) (after_first rest)
          ∙ (ap (λ ys. head_bytes k o f x (count_of_shapes s) ++ ys) (ap (λ ys. ys ++ after_first rest) elements ∙ split rest)
          ∙ head_again rest k o f x (count_of_shapes s) fits (long_enough rest whole) words);
    }

pub geometry_again : (kind : Kind) (rest : List ℕ) (g : Geometry) → AreBytes rest → is_geometry (kind_number kind) rest ≡ true → geometry_in rest ≡ Some g →
    IsAgain kind g rest
unfolding is_geometry geometry_in shapes_in
geometry_again kind rest g fits is e =
    let h = if_some (is_whole rest) (option_map (geometry_of (word_at rest 4 == 1)) (shapes_in rest)) g e in
    let m = mapped (geometry_of (word_at rest 4 == 1)) (shapes_in rest) g h.1 in
    let head = head_keeps kind rest (both (is_whole rest) (is_head (kind_number kind) rest) is).1 in
    let kind_is : kind ≡ kind_named (word_at rest 0) = sym (ap kind_named head.kind_is ∙ kind_again kind) in
    let P : Geometry → Type 0 = λ a. IsAgain kind a rest in
    subst P m.same
    (again_of kind rest m.value fits h.0 head
    (ap (λ k. stored_shapes k (format_named (word_at rest 8)) (index_size_named (word_at rest 12)) (count_in rest) (elements_in rest)) kind_is ∙ m.is_some))

-- ---- geometries one after the other

pub record AreAgain (kind : Kind) (n : ℕ) (row : List ℕ) (gs : List Geometry) : Type 0 where
  pub many : length gs ≡ n
  pub kinds : All (λ g. kind_of g ≡ kind) gs
  pub total : total_of gs ≡ total_in n row
  pub each : All IsGeometry gs
  pub same : flat_map geometry_bytes gs ≡ row

record IsFirst {X : Type 0} (first : Option X) (others : Option (List X)) (all : List X) : Type 0 where
  head : X
  tail : List X
  first_is : first ≡ Some head
  others_are : others ≡ Some tail
  all_are : head ∷ tail ≡ all

taken_apart : {X : Type 0} (first : Option X) (others : Option (List X)) (all : List X) → with_first first others ≡ Some all → IsFirst first others all
taken_apart (Some x) (Some xs) all e =
    let same : x ∷ xs ≡ all = cc in record { head = x; tail = xs; first_is = refl; others_are = refl; all_are = same }
taken_apart (Some x) None all e = absurd cc
taken_apart None others all e = absurd cc

fits_after : (rest : List ℕ) → AreBytes rest → AreBytes (after_first rest)
unfolding after_first
fits_after rest fits = AreBytes-drop (geometry_size rest) rest fits

none_again : (kind : Kind) (row : List ℕ) (gs : List Geometry) → (length row == 0) ≡ true → Some [] ≡ Some gs → AreAgain kind 0 row gs
none_again kind row [] empty e =
    record {
      many = refl;
      kinds = All-nil (λ g. kind_of g ≡ kind);
      total = refl;
      each = All-nil IsGeometry;
      same = sym (nil_from_length row (number_is (length row) 0 empty));
    }
none_again kind row (g ∷ gs) empty e = absurd cc

one_more : (kind : Kind) (n : ℕ) (row : List ℕ) (g : Geometry) (gs : List Geometry) → IsAgain kind g row → AreAgain kind n (after_first row) gs →
    AreAgain kind (suc n) row (g ∷ gs)
one_more kind n row g gs first others = record {
  many = ap suc others.many;
  kinds = All-cons (λ h. kind_of h ≡ kind) g gs first.kind_is others.kinds;
  total = sum_by-cons count_of g gs ∙ (λ i. first.count_is i + others.total i);
  each = All-cons IsGeometry g gs first.is others.each;
  same = flat_map-cons geometry_bytes g gs ∙ (ap (λ ys. geometry_bytes g ++ ys) others.same ∙ first.same);
}

pub row_again : (kind : Kind) (n : ℕ) (row : List ℕ) (gs : List Geometry) → AreBytes row → are_geometries (kind_number kind) n row ≡ true →
    geometries_in n row ≡ Some gs → AreAgain kind n row gs
row_again kind zero row gs fits are e = none_again kind row gs are e
row_again kind (suc n) row gs fits are e =
    let h = both (is_geometry (kind_number kind) row) (are_geometries (kind_number kind) n (after_first row)) are in
    let parts = taken_apart (geometry_in row) (geometries_in n (after_first row)) gs e in
    let P : List Geometry → Type 0 = λ all. AreAgain kind (suc n) row all in
    subst P parts.all_are
    (one_more kind n row parts.head parts.tail (geometry_again kind row parts.head fits h.0 parts.first_is)
    (row_again kind n (after_first row) parts.tail (fits_after row fits) h.1 parts.others_are))
