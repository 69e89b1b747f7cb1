-- What is read of its stored form and stored again is the same bytes.
use Rattle.std.proofs.Common.{ℕ, zero, suc, ◌≡◌, ◌≤◌, ◌<◌, ◌+◌, ◌*◌, ◌^◌, ◌++◌, ◌&&◌, Bool, true, false, List, [], ◌∷◌, length, take, drop, slice_index, Option, Some, None, mul-suc, refl, sym, ap, subst, ◌∙◌, arith}
use Rattle.std.specs.Prelude.{pos, IfSome, slice_get, if◌then◌else◌}
use Rattle.std.specs.Int.{w32, cast_unsigned}
use Rattle.std.specs.List.{flat_map}
use Rattle.std.specs.Ordering.{int_eq}
use Rattle.std.proofs.lemmas.Int.{of_z-to_z}
use Rattle.std.proofs.lemmas.Bool.Decides.{Decides-int_eq}
use Rattle.std.proofs.lemmas.List.{drop_all, drop-drop, length-drop, length-take-le, get_or-drop, take-append-drop}
use Rattle.std.proofs.lemmas.Option.{slice_get_within}
use Rattle.std.proofs.Math.Nat.{mul-le-mul_left}
use Rattle.std.proofs.lemmas.List.Concat.{flat_map-cons}
use Rattle.byteorder.specs.Endian.{little_bytes}
use Rattle.byteorder.specs.Numbers.{little_from-lt}
use Rattle.ray_geom.specs.declared.vec3.Vec3.{Vec3}
use Rattle.ray_geom.specs.Vector.{vec3}
use Rattle.ray_geom.specs.Scene.{TriValue, tri_value}
use Rattle.ray_geom.specs.Boxes.{BoxValue, box_value}
use Rattle.ray_geom.specs.Decided.{where_so, short_decided}
use Rattle.ray_bytes.specs.Fields.{word_at, signed_at}
use Rattle.ray_bytes.specs.InactiveMark.{inactive_mark, is_inactive_mark}
use Rattle.ray_bytes.proofs.LittleBytes.{little_bytes-at}
use Rattle.ray_contents.specs.Limits.{point_within}
use Rattle.ray_contents.proofs.Gathered.{length-all_some, each-all_some}
use Rattle.ray_primitives.specs.declared.index_values.IndexValues.{IndexValues}
use Rattle.ray_primitives.specs.Primitives.{TriangleValue, active_triangle, inactive_triangle}
use Rattle.ray_primitives.specs.BoxReading.{is_ordered}
use Rattle.ray_primitives.specs.StoredPrimitives.{marked_point, zero_point, written_tri, written_box, corner_words, index_words, point_words, triangle_bytes, aabb_bytes, point_at, indices_at, indices_fit, is_zero, is_zero_but_x, inactive_from, active_from, marked_from, stored_from, stored_triangle, part_at, stored_triangle_at, stored_triangles, inactive_box_from, active_box_from, stored_box_from, stored_box, stored_box_at, stored_boxes}
use Rattle.ray_primitives.proofs.Chosen.{if_some, same_some, three}

-- bytes
abbrev AreBytes : List ℕ → Type 0
AreBytes bytes = (i : ℕ) → slice_index bytes i < 256

-- a coordinate that is read and written again is its word
word_below : (bytes : List ℕ) (at : ℕ) → AreBytes bytes → word_at bytes at < 2 ^ 32
unfolding word_at
word_below bytes at fits = little_from-lt 0 4 (drop at bytes) (λ k. let byte = fits (at + k) in rw (get_or-drop at bytes k 0) byte)

again : (bytes : List ℕ) (at : ℕ) → AreBytes bytes → cast_unsigned w32 (signed_at bytes at) ≡ word_at bytes at
unfolding signed_at
again bytes at fits = of_z-to_z w32 (word_at bytes at) (word_below bytes at fits)

-- ---- tests tell

two : (a b : Bool) → (a && b) ≡ true → (a ≡ true) × (b ≡ true)
two true true e = (refl, refl)
two true false e = absurd cc
two false b e = absurd cc

zero_is : (v : Vec3) → is_zero v ≡ true → v ≡ zero_point
unfolding is_zero
zero_is v e =
    let h = three (int_eq v.x (pos 0)) (int_eq v.y (pos 0)) (int_eq v.z (pos 0)) e in
    let x = (Decides-int_eq v.x (pos 0)).0 h.first in
    let y = (Decides-int_eq v.y (pos 0)).0 h.second in
    let z = (Decides-int_eq v.z (pos 0)).0 h.third in
    λ i. vec3 (x i) (y i) (z i)

marked_is : (v : Vec3) → is_inactive_mark v.x ≡ true → is_zero_but_x v ≡ true → v ≡ marked_point
unfolding is_zero_but_x
marked_is v marked e =
    let h = two (int_eq v.y (pos 0)) (int_eq v.z (pos 0)) e in
    let x = (Decides-int_eq v.x inactive_mark).0 marked in
    let y = (Decides-int_eq v.y (pos 0)).0 h.0 in
    let z = (Decides-int_eq v.z (pos 0)).0 h.1 in
    λ i. vec3 (x i) (y i) (z i)

where_same : {P X : Type 0} (d : Dec P) (x y : X) → where_so d x ≡ Some y → x ≡ y
where_same (yes p) x y e = cc
where_same (no n) x y e = absurd cc

within_same : (v p : Vec3) → point_within v ≡ Some p → v ≡ p
unfolding point_within
within_same v p e = where_same (short_decided (2 ^ 19) v) v p e

-- ---- triangles

-- a triangle is written by these points and index values
record IsWritten (tri : TriValue) (indices : IndexValues) (t : TriangleValue) : Type 0 where
  points : written_tri t.tri ≡ tri
  values : t.indices ≡ indices

written_same : (tri : TriValue) (indices : IndexValues) (s t : TriangleValue) → IsWritten tri indices s → s ≡ t → IsWritten tri indices t
written_same tri indices s t h e = subst (λ r. IsWritten tri indices r) e h

inactive_written : (a b c : Vec3) (indices : IndexValues) (t : TriangleValue) → is_inactive_mark a.x ≡ true → inactive_from a b c indices ≡ Some t →
    IsWritten (tri_value a b c) indices t
unfolding inactive_from
inactive_written a b c indices t marked e =
    let h = if_some ((is_zero_but_x a && is_zero b) && is_zero c) (Some (inactive_triangle indices)) t e in
    let zeros = three (is_zero_but_x a) (is_zero b) (is_zero c) h.0 in
    let p = marked_is a marked zeros.first in
    let q = zero_is b zeros.second in
    let r = zero_is c zeros.third in
    written_same (tri_value a b c) indices (inactive_triangle indices) t
    (record { points = sym (λ i. tri_value (p i) (q i) (r i)); values = refl })
    (same_some (inactive_triangle indices) t (Some (inactive_triangle indices)) refl h.1)

active_written : (a b c : Vec3) (x y z : Option Vec3) (indices : IndexValues) (t : TriangleValue) →
    ((p : Vec3) → x ≡ Some p → a ≡ p) → ((p : Vec3) → y ≡ Some p → b ≡ p) → ((p : Vec3) → z ≡ Some p → c ≡ p) →
    active_from x y z indices ≡ Some t → IsWritten (tri_value a b c) indices t
active_written a b c (Some x) (Some y) (Some z) indices t p q r e =
    let u = p x refl in
    let v = q y refl in
    let w = r z refl in
    written_same (tri_value a b c) indices (active_triangle x y z indices) t
    (record { points = sym (λ i. tri_value (u i) (v i) (w i)); values = refl })
    (same_some (active_triangle x y z indices) t (Some (active_triangle x y z indices)) refl e)
active_written a b c (Some x) (Some y) None indices t p q r e = absurd cc
active_written a b c (Some x) None z indices t p q r e = absurd cc
active_written a b c None y z indices t p q r e = absurd cc

by_mark : (marked : Bool) (a b c : Vec3) (indices : IndexValues) (t : TriangleValue) → is_inactive_mark a.x ≡ marked →
    (if marked then inactive_from a b c indices else active_from (point_within a) (point_within b) (point_within c) indices) ≡ Some t →
    IsWritten (tri_value a b c) indices t
by_mark true a b c indices t marked e = inactive_written a b c indices t marked e
by_mark false a b c indices t marked e =
    active_written a b c (point_within a) (point_within b) (point_within c) indices t (within_same a) (within_same b) (within_same c) e

marked_written : (a b c : Vec3) (indices : IndexValues) (t : TriangleValue) → marked_from a b c indices ≡ Some t → IsWritten (tri_value a b c) indices t
unfolding marked_from
marked_written a b c indices t e = by_mark (is_inactive_mark a.x) a b c indices t refl e

written : (size : ℕ) (bytes : List ℕ) (t : TriangleValue) → stored_triangle size bytes ≡ Some t →
    IsWritten (tri_value (point_at bytes 0) (point_at bytes 12) (point_at bytes 24)) (indices_at bytes) t
unfolding stored_triangle stored_from
written size bytes t e =
    marked_written (point_at bytes 0) (point_at bytes 12) (point_at bytes 24) (indices_at bytes) t
    (if_some (indices_fit size (indices_at bytes)) (marked_from (point_at bytes 0) (point_at bytes 12) (point_at bytes 24) (indices_at bytes)) t e).1

-- the words of 48 bytes, one after the other
abbrev twelve_words : List ℕ → List ℕ
twelve_words bytes =
    word_at bytes 0 ∷ word_at bytes 4 ∷ word_at bytes 8 ∷ word_at bytes 12 ∷ word_at bytes 16 ∷ word_at bytes 20
    ∷ word_at bytes 24 ∷ word_at bytes 28 ∷ word_at bytes 32 ∷ word_at bytes 36 ∷ word_at bytes 40 ∷ word_at bytes 44 ∷ []

words_again : (bytes : List ℕ) → AreBytes bytes → length bytes ≡ 48 → flat_map (little_bytes 4) (twelve_words bytes) ≡ bytes
unfolding word_at
words_again bytes fits long =
    let end : drop 48 bytes ≡ [] = drop_all 48 bytes (omega arith) in
    little_bytes-at 4 0 bytes _ fits (omega arith)
    (little_bytes-at 4 4 bytes _ fits (omega arith)
    (little_bytes-at 4 8 bytes _ fits (omega arith)
    (little_bytes-at 4 12 bytes _ fits (omega arith)
    (little_bytes-at 4 16 bytes _ fits (omega arith)
    (little_bytes-at 4 20 bytes _ fits (omega arith)
    (little_bytes-at 4 24 bytes _ fits (omega arith)
    (little_bytes-at 4 28 bytes _ fits (omega arith)
    (little_bytes-at 4 32 bytes _ fits (omega arith)
    (little_bytes-at 4 36 bytes _ fits (omega arith)
    (little_bytes-at 4 40 bytes _ fits (omega arith)
    (little_bytes-at 4 44 bytes [] fits (omega arith) (sym end))))))))))))

-- what the words of points that are read are
points_again : (bytes : List ℕ) → AreBytes bytes →
    corner_words (tri_value (point_at bytes 0) (point_at bytes 12) (point_at bytes 24)) ++ index_words (indices_at bytes) ≡ twelve_words bytes
unfolding point_at indices_at
points_again bytes fits =
    let w : (at : ℕ) → cast_unsigned w32 (signed_at bytes at) ≡ word_at bytes at = λ at. again bytes at fits in
    λ i.
    w 0 i ∷ w 4 i ∷ w 8 i ∷ w 12 i ∷ w 16 i ∷ w 20 i ∷ w 24 i ∷ w 28 i ∷ w 32 i
    ∷ word_at bytes 36 ∷ word_at bytes 40 ∷ word_at bytes 44 ∷ []

pub triangle_again : (size : ℕ) (bytes : List ℕ) (t : TriangleValue) → AreBytes bytes → length bytes ≡ 48 → stored_triangle size bytes ≡ Some t → triangle_bytes t ≡ bytes
unfolding triangle_bytes
triangle_again size bytes t fits long e =
    let is = written size bytes t e in
    let p = is.points in
    let q = is.values in
    (λ i. flat_map (little_bytes 4) (corner_words (p i) ++ index_words (q i)))
    ∙ (ap (λ words. flat_map (little_bytes 4) words) (points_again bytes fits) ∙ words_again bytes fits long)

-- ---- boxes

written_box_same : (lo hi : Vec3) (a b : Option BoxValue) → written_box a ≡ box_value lo hi → a ≡ b → written_box b ≡ box_value lo hi
written_box_same lo hi a b h e = subst (λ r. written_box r ≡ box_value lo hi) e h

inactive_box_written : (lo hi : Vec3) (box : Option BoxValue) → is_inactive_mark lo.x ≡ true → inactive_box_from lo hi ≡ Some box →
    written_box box ≡ box_value lo hi
unfolding inactive_box_from
inactive_box_written lo hi box marked e =
    let h = if_some (is_zero_but_x lo && is_zero hi) (Some None) box e in
    let zeros = two (is_zero_but_x lo) (is_zero hi) h.0 in
    let p = marked_is lo marked zeros.0 in
    let q = zero_is hi zeros.1 in
    written_box_same lo hi None box (sym (λ i. box_value (p i) (q i))) (same_some None box (Some None) refl h.1)

active_box_written : (lo hi : Vec3) (x y : Option Vec3) (box : Option BoxValue) → ((p : Vec3) → x ≡ Some p → lo ≡ p) → ((p : Vec3) → y ≡ Some p → hi ≡ p) →
    active_box_from x y ≡ Some box → written_box box ≡ box_value lo hi
active_box_written lo hi (Some x) (Some y) box p q e =
    let u = p x refl in
    let v = q y refl in
    let h = if_some (is_ordered x y) (Some (Some (box_value x y))) box e in
    written_box_same lo hi (Some (box_value x y)) box (sym (λ i. box_value (u i) (v i)))
    (same_some (Some (box_value x y)) box (Some (Some (box_value x y))) refl h.1)
active_box_written lo hi (Some x) None box p q e = absurd cc
active_box_written lo hi None y box p q e = absurd cc

box_by_mark : (marked : Bool) (lo hi : Vec3) (box : Option BoxValue) → is_inactive_mark lo.x ≡ marked →
    (if marked then inactive_box_from lo hi else active_box_from (point_within lo) (point_within hi)) ≡ Some box → written_box box ≡ box_value lo hi
box_by_mark true lo hi box marked e = inactive_box_written lo hi box marked e
box_by_mark false lo hi box marked e = active_box_written lo hi (point_within lo) (point_within hi) box (within_same lo) (within_same hi) e

box_written : (bytes : List ℕ) (box : Option BoxValue) → stored_box bytes ≡ Some box → written_box box ≡ box_value (point_at bytes 0) (point_at bytes 12)
unfolding stored_box stored_box_from
box_written bytes box e = box_by_mark (is_inactive_mark (point_at bytes 0).x) (point_at bytes 0) (point_at bytes 12) box refl e

-- the words of 24 bytes, one after the other
abbrev six_words : List ℕ → List ℕ
six_words bytes =
    word_at bytes 0 ∷ word_at bytes 4 ∷ word_at bytes 8 ∷ word_at bytes 12 ∷ word_at bytes 16 ∷ word_at bytes 20 ∷ []

box_words_again : (bytes : List ℕ) → AreBytes bytes → length bytes ≡ 24 → flat_map (little_bytes 4) (six_words bytes) ≡ bytes
unfolding word_at
box_words_again bytes fits long =
    let end : drop 24 bytes ≡ [] = drop_all 24 bytes (omega arith) in
    little_bytes-at 4 0 bytes _ fits (omega arith)
    (little_bytes-at 4 4 bytes _ fits (omega arith)
    (little_bytes-at 4 8 bytes _ fits (omega arith)
    (little_bytes-at 4 12 bytes _ fits (omega arith)
    (little_bytes-at 4 16 bytes _ fits (omega arith)
    (little_bytes-at 4 20 bytes [] fits (omega arith) (sym end))))))

box_points_again : (bytes : List ℕ) → AreBytes bytes → point_words (point_at bytes 0) ++ point_words (point_at bytes 12) ≡ six_words bytes
unfolding point_at
box_points_again bytes fits =
    let w : (at : ℕ) → cast_unsigned w32 (signed_at bytes at) ≡ word_at bytes at = λ at. again bytes at fits in
    λ i. w 0 i ∷ w 4 i ∷ w 8 i ∷ w 12 i ∷ w 16 i ∷ w 20 i ∷ []

pub box_again : (bytes : List ℕ) (box : Option BoxValue) → AreBytes bytes → length bytes ≡ 24 → stored_box bytes ≡ Some box → aabb_bytes box ≡ bytes
unfolding aabb_bytes
box_again bytes box fits long e =
    let p = box_written bytes box e in
    (λ i. flat_map (little_bytes 4) (point_words (p i).lo ++ point_words (p i).hi))
    ∙ (ap (λ words. flat_map (little_bytes 4) words) (box_points_again bytes fits) ∙ box_words_again bytes fits long)

-- ---- lists

take_fits : (n : ℕ) (bytes : List ℕ) → AreBytes bytes → AreBytes (take n bytes)
take_fits zero bytes fits i = omega arith
take_fits (suc n) [] fits i = omega arith
take_fits (suc n) (b ∷ bs) fits zero = fits 0
take_fits (suc n) (b ∷ bs) fits (suc i) = take_fits n bs (λ j. fits (suc j)) i

part_fits : (size : ℕ) (bytes : List ℕ) (k : ℕ) → AreBytes bytes → AreBytes (take size (drop (size * k) bytes))
part_fits size bytes k fits i = take_fits size (drop (size * k) bytes) (λ j. let byte = fits (size * k + j) in rw (get_or-drop (size * k) bytes j 0) byte) i

no_bytes : (bytes : List ℕ) → length bytes ≡ 0 → bytes ≡ []
no_bytes [] e = refl
no_bytes (b ∷ bs) e = absurd (omega arith)

-- parts of one size that are written again one after the other
joined_parts : {X : Type 0} (f : X → List ℕ) (n : ℕ) (xs : List X) (bytes : List ℕ) → length bytes ≡ n * length xs →
    ((k : ℕ) (x : X) → slice_get xs k ≡ Some x → f x ≡ take n (drop (n * k) bytes)) → flat_map f xs ≡ bytes
joined_parts f n [] bytes long each = sym (no_bytes bytes (let none : n * 0 ≡ 0 = omega arith in omega arith))
joined_parts f n (x ∷ xs) bytes long each =
    let first : f x ≡ take n bytes = each 0 x refl ∙ ap (λ j. take n (drop j bytes)) (let none : n * 0 ≡ 0 = omega arith in none) in
    let left : length (drop n bytes) ≡ n * length xs = length-drop n bytes ∙ (let many = mul-suc n (length xs) in omega arith) in
    let rest = joined_parts f n xs (drop n bytes) left (λ k y e. each (suc k) y e
    ∙ ap (λ ys. take n ys) (ap (λ j. drop j bytes) (let next = mul-suc n k in let same : n * suc k ≡ n + n * k = omega arith in same) ∙ sym (drop-drop (n * k) n bytes))) in
    flat_map-cons f x xs ∙ ((λ i. first i ++ rest i) ∙ take-append-drop n bytes)

length-part : (n : ℕ) (bytes : List ℕ) (count k : ℕ) → length bytes ≡ n * count → k < count → length (take n (drop (n * k) bytes)) ≡ n
length-part n bytes count k long below =
    let left = length-drop (n * k) bytes in
    let more : n * suc k ≤ n * count = mul-le-mul_left n below in
    let next = mul-suc n k in
    length-take-le n (drop (n * k) bytes) (omega arith)

pub triangles_again : (size count : ℕ) (bytes : List ℕ) (ts : List TriangleValue) → AreBytes bytes → length bytes ≡ 48 * count →
    stored_triangles size count bytes ≡ Some ts → flat_map triangle_bytes ts ≡ bytes
unfolding stored_triangle_at part_at
triangles_again size count bytes ts fits long e =
    let many : length ts ≡ count = length-all_some (stored_triangle_at size bytes) count ts e in
    joined_parts triangle_bytes 48 ts bytes (omega arith)
    (λ k t h. triangle_again size (take 48 (drop (48 * k) bytes)) t (part_fits 48 bytes k fits)
    (length-part 48 bytes count k long (let below = slice_get_within ts k t h in omega arith))
    (each-all_some (stored_triangle_at size bytes) count ts e k t h))

pub boxes_again : (count : ℕ) (bytes : List ℕ) (boxes : List (Option BoxValue)) → AreBytes bytes → length bytes ≡ 24 * count →
    stored_boxes count bytes ≡ Some boxes → flat_map aabb_bytes boxes ≡ bytes
unfolding stored_box_at part_at
boxes_again count bytes boxes fits long e =
    let many : length boxes ≡ count = length-all_some (stored_box_at bytes) count boxes e in
    joined_parts aabb_bytes 24 boxes bytes (omega arith)
    (λ k box h. box_again (take 24 (drop (24 * k) bytes)) box (part_fits 24 bytes k fits)
    (length-part 24 bytes count k long (let below = slice_get_within boxes k box h in omega arith))
    (each-all_some (stored_box_at bytes) count boxes e k box h))

if_read : {X : Type 0} (P : X → Type 0) (o : Option X) → ((x : X) → o ≡ Some x → P x) → IfSome o P
if_read P (Some x) each = each x refl
if_read P None each = tt

pub IfSome-triangles_again : (size count : ℕ) (bytes : List ℕ) → AreBytes bytes → length bytes ≡ 48 * count →
    IfSome (stored_triangles size count bytes) (λ ts. flat_map triangle_bytes ts ≡ bytes)
IfSome-triangles_again size count bytes fits long =
    if_read (λ ts. flat_map triangle_bytes ts ≡ bytes) (stored_triangles size count bytes) (λ ts e. triangles_again size count bytes ts fits long e)

pub IfSome-boxes_again : (count : ℕ) (bytes : List ℕ) → AreBytes bytes → length bytes ≡ 24 * count →
    IfSome (stored_boxes count bytes) (λ boxes. flat_map aabb_bytes boxes ≡ bytes)
IfSome-boxes_again count bytes fits long =
    if_read (λ boxes. flat_map aabb_bytes boxes ≡ bytes) (stored_boxes count bytes) (λ boxes e. boxes_again count bytes boxes fits long e)
