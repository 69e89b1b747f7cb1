-- The form of a top structure as a buffer of instances says it.
use Rattle.std.proofs.Common.{ℕ, zero, suc, ◌≡◌, ◌<◌, ◌≤◌, ◌+◌, ◌-◌, ◌*◌, ◌/◌, ◌++◌, ◌==◌, ◌&&◌, ◌^◌, Bool, true, false, not, List, [], ◌∷◌, length, take, drop, get_or, map, Option, Some, None, option_map, Result, Ok, Err, refl, sym, ap, ◌∙◌, arith, append_assoc, append-nil, length-append, mul-suc}
use Rattle.std.specs.Prelude.{slice_get, nat_le, nat_lt, unwrap_or, option_and_then, if◌then◌else◌}
use Rattle.std.specs.Int.{w32, cast_signed}
use Rattle.std.specs.List.{flat_map}
use Rattle.std.specs.Simd.{first_chunks}
use Rattle.std.proofs.lemmas.Bool.Decides.{nat_tests}
use Rattle.std.proofs.lemmas.List.{take_more, take_at, drop_at, drop-take, drop-append-le, length-take-le, length-drop, length-map}
use Rattle.std.proofs.lemmas.List.Concat.{flat_map-cons}
use Rattle.std.proofs.Math.Seq.{drop-append-add}
use Rattle.byteorder.specs.Endian.{little_bytes, little_number}
use Rattle.byteorder.specs.Numbers.{little_from-append, little_from-take, little_from-lt, little_number-reads_back, length-bytes_low_first}
use Rattle.ray_bytes.specs.Fields.{word_at, signed_at, long_at}
use Rattle.ray_bytes.specs.Records.{instance_of, low_bits, high_bits}
use Rattle.ray_bytes.specs.References.{structure_of, names_structure}
use Rattle.ray_bytes.specs.Slices.{record_at}
use Rattle.ray_bytes.specs.declared.data_rule.DataRule.{DataRule}
use Rattle.ray_bytes.specs.declared.instance_record.InstanceRecord.{InstanceRecord}
use Rattle.ray_bytes.specs.declared.reference.Reference.TheVariants.{Inactive, Structure, Unknown}
use Rattle.ray_contents.specs.Gathering.{gathered, with_next}
use Rattle.ray_primitives.specs.Outcomes.{at_element}
use Rattle.ray_top.specs.declared.used.Used.{Used}
use Rattle.ray_top.specs.Contents.{top_with, top_built, has_both_fast}
use Rattle.ray_top.specs.Instances.{InstanceValue}
use Rattle.ray_top.specs.InstanceReading.{referring, instance_read, updated_instance, instance_element}
use Rattle.ray_form.specs.Heads.{element_size, count_in, elements_size, geometry_size, is_head, is_whole, is_geometry}
use Rattle.ray_form.specs.Rows.{after_first, row_total}
use Rattle.ray_form.specs.InstanceBytes.{is_active, instance_parts}
use Rattle.ray_form.specs.Form.{handle_count_in, payload_in, is_top_payload, flags_of_payload, geometry_count, row_of, instances_of_payload, at_most, bottom_total, top_total, has_flags, total_of_payload}
use Rattle.ray_serial.specs.Meaning.{IsForm, is_top_form, handle_at}
use Rattle.ray_serial.specs.TopMeaning.{with_reference, reference_in, instance_in, instances_in, linked, instance_linked, linked_at, top_in, not_zero, put_reference, put_part, put_parts}
use Rattle.ray_serial.proofs.Words.{AreBytes, AreBytes-drop, three, not_true}
use Rattle.ray_serial.proofs.KeptLines.{KeepsLines-unbroken}
use Rattle.ray_serial.proofs.Headers.{payload_room}
use Rattle.ray_primitives.proofs.Chosen.{if_some}

-- ---- parts one after the other

pub put_none : (bytes : List ℕ) → [] ≡ put_parts bytes []
unfolding put_parts
put_none bytes = refl

put-append : (bytes : List ℕ) (parts : List (List ℕ)) (part : List ℕ) → put_parts bytes (parts ++ part ∷ []) ≡ put_parts bytes parts ++ put_part bytes part
unfolding put_parts
put-append bytes [] part = append-nil (put_part bytes part)
put-append bytes (p ∷ ps) part =
    flat_map-cons (put_part bytes) p (ps ++ part ∷ [])
    ∙ (ap (λ ys. put_part bytes p ++ ys) (put-append bytes ps part)
    ∙ (sym (append_assoc (put_part bytes p) (flat_map (put_part bytes) ps) (put_part bytes part))
    ∙ ap (λ ys. ys ++ put_part bytes part) (sym (flat_map-cons (put_part bytes) p ps))))

pub put_more : (bytes now : List ℕ) (parts : List (List ℕ)) (i : ℕ) → i < length parts → now ≡ put_parts bytes (take i parts) →
    now ++ put_part bytes (get_or parts i []) ≡ put_parts bytes (take (i + 1) parts)
put_more bytes now parts i below e =
    ap (λ ys. ys ++ put_part bytes (get_or parts i [])) e
    ∙ sym (ap (put_parts bytes) (take_more parts i [] below) ∙ put-append bytes (take i parts) (get_or parts i []))

-- ---- one part

front_word : (part ys : List ℕ) (k m : ℕ) → length part ≡ 64 → k + m ≡ 56 → 4 ≤ m → word_at (take 56 part ++ ys) k ≡ word_at part k
unfolding word_at
front_word part ys k m long split enough =
    let front : length (take 56 part) ≡ 56 = length-take-le 56 part (omega arith) in
    let cut : drop k (take 56 part) ≡ take m (drop k part) = ap (λ n. drop k (take n part)) (sym split) ∙ drop-take k m part in
    let left = length-take-le m (drop k part) (let h = length-drop k part in omega arith) in
    ap (little_number 4) (drop-append-le k (take 56 part) ys (omega arith) ∙ ap (λ xs. xs ++ ys) cut)
    ∙ (little_from-append 4 (take m (drop k part)) ys (omega arith) ∙ little_from-take 0 4 m (drop k part) (omega arith))

front_signed : (part ys : List ℕ) (k m : ℕ) → length part ≡ 64 → k + m ≡ 56 → 4 ≤ m → signed_at (take 56 part ++ ys) k ≡ signed_at part k
unfolding signed_at
front_signed part ys k m long split enough = ap (cast_signed w32) (front_word part ys k m long split enough)

put_long : (part : List ℕ) (r : ℕ) → length part ≡ 64 → r < 2 ^ 64 → long_at (take 56 part ++ little_bytes 8 r) 56 ≡ r
unfolding long_at
put_long part r long fits =
    let front : length (take 56 part) ≡ 56 = length-take-le 56 part (omega arith) in
    ap (little_number 8) (drop_at (take 56 part) (little_bytes 8 r) 56 front ∙ sym (append-nil (little_bytes 8 r))) ∙ little_number-reads_back 8 r [] fits

pub instance_put : (part : List ℕ) (r : ℕ) → length part ≡ 64 → r < 2 ^ 64 →
    instance_of (take 56 part ++ little_bytes 8 r) ≡ with_reference r (instance_of part)
instance_put part r long fits =
    let ys = little_bytes 8 r in
    let z : (k m : ℕ) → k + m ≡ 56 → 4 ≤ m → signed_at (take 56 part ++ ys) k ≡ signed_at part k = λ k m e h. front_signed part ys k m long e h in
    let custom = front_word part ys 48 8 long refl (omega arith) in
    let binding = front_word part ys 52 4 long refl (omega arith) in
    let reference = put_long part r long fits in
    let a = z 0 56 refl (omega arith) in
    let b = z 4 52 refl (omega arith) in
    let c = z 8 48 refl (omega arith) in
    let d = z 12 44 refl (omega arith) in
    let e = z 16 40 refl (omega arith) in
    let f = z 20 36 refl (omega arith) in
    let g = z 24 32 refl (omega arith) in
    let h = z 28 28 refl (omega arith) in
    let j = z 32 24 refl (omega arith) in
    let k = z 36 20 refl (omega arith) in
    let l = z 40 16 refl (omega arith) in
    let n = z 44 12 refl (omega arith) in
    λ i. record {
      rows = a i ∷ b i ∷ c i ∷ d i ∷ e i ∷ f i ∷ g i ∷ h i ∷ j i ∷ k i ∷ l i ∷ n i ∷ [];
      custom = low_bits (custom i);
      mask = high_bits (custom i);
      sbt = low_bits (binding i);
      flags = high_bits (binding i);
      reference = reference i;
    }

length-put : (part : List ℕ) (r : ℕ) → length part ≡ 64 → length (take 56 part ++ little_bytes 8 r) ≡ 64
length-put part r long =
    let front : length (take 56 part) ≡ 56 = length-take-le 56 part (omega arith) in
    let back = length-bytes_low_first 0 8 r in
    length-append (take 56 part) (little_bytes 8 r) ∙ omega arith

-- the reference fits 64 bits
handle_fits : (bytes : List ℕ) (k : ℕ) → AreBytes bytes → handle_at bytes k < 2 ^ 64
unfolding handle_at long_at
handle_fits bytes k fits = little_from-lt 0 8 (drop (56 + 8 * k) bytes) (AreBytes-drop (56 + 8 * k) bytes fits).each

unwrapped : (b : Bool) (n : ℕ) → n < 2 ^ 64 → unwrap_or (if b then Some n else None) 0 < 2 ^ 64
unwrapped true n h = h
unwrapped false n h = omega arith

reference_fits : (bytes : List ℕ) (from : InstanceRecord) → AreBytes bytes → reference_in bytes from < 2 ^ 64
unfolding reference_in
reference_fits bytes from fits =
    unwrapped (nat_lt (from.reference - 1) (handle_count_in bytes)) (handle_at bytes (from.reference - 1)) (handle_fits bytes (from.reference - 1) fits)

not_zero_fits : (z : Bool) (n : ℕ) → n < 2 ^ 64 → (if z then 1 else n) < 2 ^ 64
not_zero_fits true n h = omega arith
not_zero_fits false n h = h

zero_fits : (b : Bool) (n : ℕ) → n < 2 ^ 64 → (if b then n else 0) < 2 ^ 64
zero_fits true n h = h
zero_fits false n h = omega arith

put_fits : (bytes : List ℕ) (from : InstanceRecord) → AreBytes bytes → put_reference bytes from < 2 ^ 64
unfolding put_reference
put_fits bytes from fits =
    zero_fits (is_active from) (not_zero (reference_in bytes from))
    (not_zero_fits (reference_in bytes from == 0) (reference_in bytes from) (reference_fits bytes from fits))

-- ---- what a buffer says of it

by_name : (used : List Used) (from : InstanceRecord) (named : Bool) (id : ℕ) →
    referring used from (if named then Structure id else Unknown) ≡ linked used from (if named then Structure id else Unknown)
by_name used from true id = refl
by_name used from false id = refl

by_zero : (used : List Used) (from : InstanceRecord) (r : ℕ) (z : Bool) → (r == 0) ≡ z →
    referring used (with_reference (if z then 1 else r) from) (structure_of (if z then 1 else r)) ≡ linked used (with_reference r from) (structure_of r)
by_zero used from r true e =
    let zero_is : r ≡ 0 = grind (arith, nat_tests) in
    ap (λ (n : ℕ). linked used (with_reference n from) (structure_of n)) (sym zero_is)
by_zero used from r false e =
    (λ i. referring used (with_reference r from) (if e i then Inactive else if names_structure r then Structure (r / 256 - 1) else Unknown))
    ∙ (by_name used (with_reference r from) (names_structure r) (r / 256 - 1)
    ∙ sym (λ i. linked used (with_reference r from) (if e i then Inactive else if names_structure r then Structure (r / 256 - 1) else Unknown)))

same_reading : (r : Result (Option InstanceValue) DataRule) → updated_instance None r ≡ r
same_reading (Ok i) = refl
same_reading (Err rule) = refl

by_active : (used : List Used) (from : InstanceRecord) (active : Bool) (r : ℕ) →
    instance_read used (Some (with_reference (if active then not_zero r else 0) from)) ≡ instance_linked used (if active then Some (with_reference r from) else None)
by_active used from true r = by_zero used from r (r == 0) refl
by_active used from false r = refl

part_read : (used : List Used) (bytes part : List ℕ) → AreBytes bytes → length part ≡ 64 →
    instance_read used (Some (instance_of (put_part bytes part))) ≡ instance_linked used (instance_in bytes part)
unfolding put_part put_reference instance_in
part_read used bytes part fits long =
    ap (λ from. instance_read used (Some from)) (instance_put part (if is_active (instance_of part) then not_zero (reference_in bytes (instance_of part)) else 0) long
    (zero_fits (is_active (instance_of part)) (not_zero (reference_in bytes (instance_of part)))
    (not_zero_fits (reference_in bytes (instance_of part) == 0) (reference_in bytes (instance_of part)) (reference_fits bytes (instance_of part) fits))))
    ∙ by_active used (instance_of part) (is_active (instance_of part)) (reference_in bytes (instance_of part))

-- ---- all of them

-- parts of one size
record AreSized (n : ℕ) (parts : List (List ℕ)) : Type 0 where
  each : (i : ℕ) (part : List ℕ) → slice_get parts i ≡ Some part → length part ≡ n

chunks_sized : (n k : ℕ) (xs : List ℕ) → n * k ≤ length xs → (i : ℕ) (part : List ℕ) → slice_get (first_chunks n k xs) i ≡ Some part → length part ≡ n
chunks_sized n zero xs long i part e = absurd cc
chunks_sized n (suc k) xs long zero part e =
    let same : take n xs ≡ part = cc in
    let more = mul-suc n k in
    ap length (sym same) ∙ length-take-le n xs (omega arith)
chunks_sized n (suc k) xs long (suc i) part e =
    let more = mul-suc n k in
    let left = length-drop n xs in
    chunks_sized n k (drop n xs) (omega arith) i part e

length-chunks : (n k : ℕ) (xs : List ℕ) → length (first_chunks n k xs) ≡ k
length-chunks n zero xs = refl
length-chunks n (suc k) xs = ap suc (length-chunks n k (drop n xs))

tail_sized : (n : ℕ) (p : List ℕ) (ps : List (List ℕ)) → AreSized n (p ∷ ps) → AreSized n ps
tail_sized n p ps h = record { each = λ i part e. h.each (suc i) part e }

length-put_part : (bytes part : List ℕ) → length part ≡ 64 → length (put_part bytes part) ≡ 64
unfolding put_part
length-put_part bytes part long = length-put part (put_reference bytes (instance_of part)) long

length-put_parts : (bytes : List ℕ) (parts : List (List ℕ)) → AreSized 64 parts → length (put_parts bytes parts) ≡ 64 * length parts
unfolding put_parts
length-put_parts bytes [] sized = omega arith
length-put_parts bytes (p ∷ ps) sized =
    let rest = length-put_parts bytes ps (tail_sized 64 p ps sized) in
    let first = length-put_part bytes p (sized.each 0 p refl) in
    ap length (flat_map-cons (put_part bytes) p ps)
    ∙ (length-append (put_part bytes p) (flat_map (put_part bytes) ps) ∙ omega (arith, mul-suc 64 (length ps)))

part_of : (bytes : List ℕ) (parts : List (List ℕ)) (k : ℕ) (part : List ℕ) → AreSized 64 parts → slice_get parts k ≡ Some part →
    take 64 (drop (64 * k) (put_parts bytes parts)) ≡ put_part bytes part
unfolding put_parts
part_of bytes [] k part sized e = absurd cc
part_of bytes (p ∷ ps) zero part sized e =
    let same : p ≡ part = cc in
    let none : 64 * 0 ≡ 0 = omega arith in
    let long = length-put_part bytes p (sized.each 0 p refl) in
    ap (λ j. take 64 (drop j (flat_map (put_part bytes) (p ∷ ps)))) none
    ∙ (ap (λ ys. take 64 ys) (flat_map-cons (put_part bytes) p ps)
    ∙ (take_at (put_part bytes p) (flat_map (put_part bytes) ps) 64 long ∙ ap (put_part bytes) same))
part_of bytes (p ∷ ps) (suc k) part sized e =
    let long = length-put_part bytes p (sized.each 0 p refl) in
    let next : 64 * suc k ≡ length (put_part bytes p) + 64 * k = omega (arith, mul-suc 64 k) in
    ap (λ j. take 64 (drop j (flat_map (put_part bytes) (p ∷ ps)))) next
    ∙ (ap (λ ys. take 64 (drop (length (put_part bytes p) + 64 * k) ys)) (flat_map-cons (put_part bytes) p ps)
    ∙ (ap (λ ys. take 64 ys) (drop-append-add (put_part bytes p) (flat_map (put_part bytes) ps) (64 * k))
    ∙ part_of bytes ps k part (tail_sized 64 p ps sized) e))

if_true : {X : Type 0} (b : Bool) (x y : X) → b ≡ true → (if b then x else y) ≡ x
if_true true x y e = refl
if_true false x y e = absurd cc

le_test : (a b : ℕ) → a ≤ b → nat_le a b ≡ true
le_test a b h = grind (arith, nat_tests)

record_put : (bytes : List ℕ) (parts : List (List ℕ)) (k : ℕ) (part : List ℕ) → AreSized 64 parts → k < length parts → slice_get parts k ≡ Some part →
    record_at (put_parts bytes parts) 0 64 64 k ≡ Some (put_part bytes part)
record_put bytes parts k part sized below e =
    let long = length-put_parts bytes parts sized in
    let start : 0 + k * 64 ≡ 64 * k = omega arith in
    if_true (nat_le (0 + k * 64 + 64) (length (put_parts bytes parts))) (Some (take 64 (drop (0 + k * 64) (put_parts bytes parts)))) None
    (le_test (0 + k * 64 + 64) (length (put_parts bytes parts)) (omega arith))
    ∙ ap Some (ap (λ j. take 64 (drop j (put_parts bytes parts))) start ∙ part_of bytes parts k part sized e)

slice_get-map : {X Y : Type 0} (f : X → Y) (xs : List X) (k : ℕ) (x : X) → slice_get xs k ≡ Some x → slice_get (map f xs) k ≡ Some (f x)
slice_get-map f [] k x e = absurd cc
slice_get-map f (z ∷ zs) zero x e = let same : z ≡ x = cc in ap (λ y. Some (f y)) same
slice_get-map f (z ∷ zs) (suc k) x e = slice_get-map f zs k x e

item_below : {X : Type 0} (xs : List X) (k : ℕ) → k < length xs → (x : X) × (slice_get xs k ≡ Some x)
item_below [] k below = absurd (omega arith)
item_below (x ∷ xs) zero below = (x, refl)
item_below (x ∷ xs) (suc k) below = item_below xs k (omega arith)

-- instance k as a buffer says it, and as the form does
element_same : (used : List Used) (bytes : List ℕ) (parts : List (List ℕ)) (k : ℕ) → AreBytes bytes → AreSized 64 parts → k < length parts →
    instance_element used (record { bytes = put_parts bytes parts; start = 0 }) None k ≡ linked_at used (map (instance_in bytes) parts) k
unfolding instance_element linked_at
element_same used bytes parts k fits sized below =
    let part = item_below parts k below in
    let read = record_put bytes parts k part.0 sized below part.1 in
    let stands = slice_get-map (instance_in bytes) parts k part.0 part.1 in
    ap (λ (o : Option (List ℕ)). at_element 0 k (updated_instance None (instance_read used (option_map instance_of o)))) read
    ∙ (ap (at_element 0 k) (same_reading (instance_read used (Some (instance_of (put_part bytes part.0))))
    ∙ part_read used bytes part.0 fits (sized.each k part.0 part.1))
    ∙ sym (ap (λ (o : Option (Option InstanceRecord)). at_element 0 k (instance_linked used (option_and_then (λ x. x) o))) stands))

gathered_same : {X F : Type 0} (f g : ℕ → Result X F) (n : ℕ) → ((k : ℕ) → k < n → f k ≡ g k) → gathered f n ≡ gathered g n
unfolding gathered
gathered_same f g zero same = refl
gathered_same f g (suc n) same = λ i. with_next (gathered_same f g n (λ k below. same k (omega arith)) i) (same n (omega arith) i)

-- ---- the payload of a top structure

pub record KeepsTop (payload : List ℕ) (total : ℕ) : Type 0 where
  pub known : word_at payload 4 < 32
  pub not_both : has_both_fast (flags_of_payload payload) ≡ false
  pub few : total ≤ 2 ^ 16
  pub long : length (instances_of_payload payload) ≡ 64 * total

both : (a b : Bool) → (a && b) ≡ true → (a ≡ true) × (b ≡ true)
both true b e = (refl, e)
both false b e = absurd cc

first_of_five : (a b c d e : Bool) → (a && b && c && d && e) ≡ true → a ≡ true
first_of_five true b c d e p = refl
first_of_five false b c d e p = absurd cc

number_is : (a b : ℕ) → (a == b) ≡ true → a ≡ b
number_is a b e = grind (arith, nat_tests)

is_below : (a b : ℕ) → nat_lt a b ≡ true → a < b
is_below a b e = grind (arith, nat_tests)

is_at_most : (a b : ℕ) → nat_le a b ≡ true → a ≤ b
is_at_most a b e = grind (arith, nat_tests)

some_number : (a b : ℕ) → Some a ≡ Some b → a ≡ b
some_number a b e = cc

at_most_kept : (greatest : ℕ) (o : Option ℕ) (total : ℕ) → at_most greatest o ≡ Some total → (o ≡ Some total) × (total ≤ greatest)
at_most_kept greatest None total e = absurd cc
at_most_kept greatest (Some n) total e =
    let h = if_some (nat_le n greatest) (Some n) total e in
    let same : n ≡ total = some_number n total h.1 in
    (h.1, let few = is_at_most n greatest h.0 in omega arith)

-- one geometry of instances that fills the row
row_long : (row : List ℕ) (total : ℕ) → row_total 2 1 row ≡ Some total → length row ≡ 32 + 64 * total
unfolding is_geometry is_whole is_head elements_size after_first
row_long row total e =
    let h = if_some (is_geometry 2 row && (length (after_first row) == 0)) (Some (count_in row + 0)) total e in
    let p = both (is_geometry 2 row) (length (after_first row) == 0) h.0 in
    let q = both (is_whole row) (is_head 2 row) p.0 in
    let w = both (nat_le 32 (length row)) (nat_le (geometry_size row) (length row)) q.0 in
    let kind = number_is (word_at row 0) 2 (first_of_five (word_at row 0 == 2) _ _ _ _ q.1) in
    let size : elements_size row ≡ 64 * count_in row = ap (λ k. element_size k * count_in row) kind in
    let none = number_is (length (after_first row)) 0 p.1 in
    let left : length (after_first row) ≡ length row - geometry_size row = length-drop (geometry_size row) row in
    let enough = is_at_most (geometry_size row) (length row) w.1 in
    let sum = some_number (count_in row + 0) total h.1 in
    omega arith

kind_kept : (a b : Bool) (o p : Option ℕ) (total : ℕ) → a ≡ false → (if a then o else if b then p else None) ≡ Some total → p ≡ Some total
kind_kept true b o p total q e = absurd cc
kind_kept false true o p total q e = e
kind_kept false false o p total q e = absurd cc

not_zero_kind : (n : ℕ) → (n == 1) ≡ true → (n == 0) ≡ false
not_zero_kind n e = grind (arith, nat_tests)

pub top_kept : (handles : ℕ) (payload : List ℕ) (total : ℕ) → 16 ≤ length payload → is_top_payload payload ≡ true → total_of_payload handles payload ≡ Some total →
    KeepsTop payload total
unfolding is_top_payload total_of_payload has_flags top_total row_of instances_of_payload
top_kept handles payload total room top e =
    let w = word_at payload 0 in
    let outer = if_some (has_flags payload)
    (if w == 0 then (if handles == 0 then bottom_total payload else None) else if w == 1 then top_total payload else None) total e in
    let flags = three (nat_lt (word_at payload 4) 32) (not (has_both_fast (flags_of_payload payload))) (word_at payload 12 == 0) outer.0 in
    let inner = kind_kept (w == 0) (w == 1) (if handles == 0 then bottom_total payload else None) (top_total payload) total (not_zero_kind w top) outer.1 in
    let one = if_some (geometry_count payload == 1) (at_most 65536 (row_total 2 1 (drop 16 payload))) total inner in
    let most = at_most_kept 65536 (row_total 2 1 (drop 16 payload)) total one.1 in
    let row = row_long (drop 16 payload) total most.0 in
    let left = length-drop 16 payload in
    let instances = length-drop 48 payload in
    let few = most.1 in
    record {
      known = is_below (word_at payload 4) 32 flags.0;
      not_both = not_true (has_both_fast (flags_of_payload payload)) flags.1;
      few = omega arith;
      long = omega arith;
    }

-- ---- the form of a top structure

pub record SaysTop (bytes : List ℕ) : Type 0 where
  pub total : ℕ
  pub keeps : KeepsTop (payload_in bytes) total
  pub many : length (instance_parts (instances_of_payload (payload_in bytes))) ≡ total

pub top_says : (bytes : List ℕ) → IsForm bytes → is_top_form bytes ≡ true → SaysTop bytes
top_says bytes is top =
    let k = KeepsLines-unbroken bytes is.unbroken in
    let keeps = top_kept (handle_count_in bytes) (payload_in bytes) k.total (payload_room bytes k) top k.payload in
    let elements = instances_of_payload (payload_in bytes) in
    let long = keeps.long in
    record { total = k.total; keeps = keeps; many = length-chunks 64 (length elements / 64) elements ∙ omega arith }

pub top_same : (used : List Used) (bytes : List ℕ) → AreBytes bytes → IsForm bytes → is_top_form bytes ≡ true →
    top_built (flags_of_payload (payload_in bytes)) used
    (record { bytes = put_parts bytes (instance_parts (instances_of_payload (payload_in bytes))); start = 0 })
    (length (instance_parts (instances_of_payload (payload_in bytes))))
    ≡ top_in used bytes
unfolding top_in instances_in
top_same used bytes fits is top =
    let elements = instances_of_payload (payload_in bytes) in
    let parts = instance_parts elements in
    let says = top_says bytes is top in
    let long = says.keeps.long in
    let sized : AreSized 64 parts = record { each = chunks_sized 64 (length elements / 64) elements (omega arith) } in
    let many : length parts ≡ length (map (instance_in bytes) parts) = sym (length-map parts (instance_in bytes)) in
    ap (top_with (flags_of_payload (payload_in bytes)) used)
    (gathered_same (instance_element used (record { bytes = put_parts bytes parts; start = 0 }) None) (linked_at used (map (instance_in bytes) parts)) (length parts)
    (λ k below. element_same used bytes parts k fits sized below)
    ∙ ap (gathered (linked_at used (map (instance_in bytes) parts))) many)
