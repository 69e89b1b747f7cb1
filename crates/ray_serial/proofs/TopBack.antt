-- What a top structure is written as is a form.
use Rattle.std.proofs.Common.{ℕ, suc, ◌≡◌, ◌<◌, ◌≤◌, ◌+◌, ◌*◌, ◌/◌, ◌%◌, ◌++◌, ◌==◌, ◌&&◌, ◌||◌, ◌^◌, Bool, true, false, not, List, [], ◌∷◌, length, take, drop, get_or, Option, Some, None, Result, Ok, Err, refl, sym, ap, ◌∙◌, arith, length-append}
use Rattle.std.specs.Prelude.{ℤ, All, IfSome, IfOk, OnOk, replicate, nat_le, nat_lt, is_some, is_none, if◌then◌else◌}
use Rattle.std.specs.Int.{w32, cast_signed, cast_unsigned}
use Rattle.std.specs.Int.RustNames.{FitsSigned}
use Rattle.std.specs.List.{flat_map, list_all, position_or_len}
use Rattle.std.specs.Simd.{first_chunks}
use Rattle.std.proofs.lemmas.Bool.Decides.{nat_tests}
use Rattle.std.proofs.lemmas.Int.{ints, to_z-of_z}
use Rattle.std.proofs.Math.Facts.{Fits-of_z}
use Rattle.std.proofs.lemmas.List.{take_at, drop_at, length-drop}
use Rattle.std.proofs.lemmas.List.Concat.{flat_map-cons}
use Rattle.byteorder.specs.Endian.{little_bytes, little_number}
use Rattle.byteorder.specs.Numbers.{little_number-reads_back}
use Rattle.ray_geom.specs.Transform.{MatrixValue, IsMatrix}
use Rattle.ray_geom.specs.Decided.{where_so, matrix_decided}
use Rattle.ray_bytes.specs.Fields.{word_at, signed_at, long_at}
use Rattle.ray_bytes.specs.Records.{instance_of, low_bits, high_bits}
use Rattle.ray_bytes.specs.References.{reference_of}
use Rattle.ray_bytes.specs.StructureSizes.{structure_size}
use Rattle.ray_bytes.specs.declared.instance_record.InstanceRecord.{InstanceRecord}
use Rattle.ray_flags.specs.declared.build_flags.BuildFlags.{BuildFlags}
use Rattle.ray_contents.specs.Limits.{matrix_within}
use Rattle.ray_geometries.specs.Storing.{bytes_of_words}
use Rattle.ray_top.specs.declared.instance.Instance.{Instance}
use Rattle.ray_top.specs.declared.used.Used.{Used}
use Rattle.ray_top.specs.Contents.{ContentsValue, TopValue, IsTop, IsActive, has_both_fast}
use Rattle.ray_top.specs.Instances.{InstanceValue, told_instance, matrix_from, flags_in, forces_both}
use Rattle.ray_form.specs.Heads.{element_size, count_in, elements_size, geometry_size, is_head, is_whole, is_geometry}
use Rattle.ray_form.specs.Rows.{after_first, row_total, geometries_in}
use Rattle.ray_form.specs.InstanceBytes.{is_active, is_placed, is_instance, are_instances}
use Rattle.ray_form.specs.Form.{is_top_payload, flags_of_payload, geometry_count, row_of, instances_of_payload, at_most, bottom_total, top_total, has_flags, total_of_payload, has_bad_element}
use Rattle.ray_serial.specs.Meaning.{text_of, KeepsLines, IsForm}
use Rattle.ray_serial.specs.TopWritten.{handles_of, handle_number, placed_bytes, instance_bytes, all_instance_bytes, top_head, top_payload, top_form, FitsTold}
use Rattle.ray_serial.proofs.Words.{head_bytes, head_back, length-head_bytes}
use Rattle.ray_serial.proofs.KeptLines.{unbroken-KeepsLines}
use Rattle.ray_serial.proofs.Endings.{plain_ends}
use Rattle.ray_serial.proofs.Headers.{HasHeader, header_back}
use Rattle.ray_serial.proofs.TopSteps.{length-handles_of, length-instance_bytes, length-all_instance_bytes, length-top_payload, top_few}
use Rattle.ray_serial.proofs.Distinct.{has, has_handle}

-- ---- tests

both_true : (a b : Bool) → a ≡ true → b ≡ true → (a && b) ≡ true
both_true a b p q = λ i. p i && q i

le_test : (a b : ℕ) → a ≤ b → nat_le a b ≡ true
le_test a b h = grind (arith, nat_tests)

lt_test : (a b : ℕ) → a < b → nat_lt a b ≡ true
lt_test a b h = grind (arith, nat_tests)

same_number : (a b : ℕ) → a ≡ b → (a == b) ≡ true
same_number a b e = grind (arith, nat_tests)

-- ---- numbers

coordinate : (z : ℤ) → FitsSigned w32 z → cast_signed w32 (little_number 4 (little_bytes 4 (cast_unsigned w32 z) ++ [])) ≡ z
coordinate z f =
    let fits = Fits-of_z {w = w32} {z = z} f in
    ap (cast_signed w32) (little_number-reads_back 4 (cast_unsigned w32 z) [] (omega arith)) ∙ to_z-of_z w32 z f

word : (n : ℕ) → n < 2 ^ 32 → little_number 4 (little_bytes 4 n ++ []) ≡ n
word n below = little_number-reads_back 4 n [] below

long : (n : ℕ) → n < 2 ^ 64 → little_number 8 (little_bytes 8 n ++ []) ≡ n
long n below = little_number-reads_back 8 n [] below

low : (a b : ℕ) → a < 2 ^ 24 → low_bits (a + 16777216 * b) ≡ a
low a b h = omega arith

high : (a b : ℕ) → a < 2 ^ 24 → high_bits (a + 16777216 * b) ≡ b
high a b h = omega arith

-- ---- one instance

record FitsMatrix (m : MatrixValue) : Type 0 where
  ax : FitsSigned w32 m.a.x
  ay : FitsSigned w32 m.a.y
  az : FitsSigned w32 m.a.z
  tx : FitsSigned w32 m.t.x
  bx : FitsSigned w32 m.b.x
  by_ : FitsSigned w32 m.b.y
  bz : FitsSigned w32 m.b.z
  ty : FitsSigned w32 m.t.y
  cx : FitsSigned w32 m.c.x
  cy : FitsSigned w32 m.c.y
  cz : FitsSigned w32 m.c.z
  tz : FitsSigned w32 m.t.z

matrix_fits : (m : MatrixValue) → IsMatrix m → FitsMatrix m
matrix_fits m is =
    let a = is.a_short in
    let b = is.b_short in
    let c = is.c_short in
    let t = is.t_short in
    record {
      ax = let h = a.x_within in omega (arith, ints);
      ay = let h = a.y_within in omega (arith, ints);
      az = let h = a.z_within in omega (arith, ints);
      tx = let h = t.x_within in omega (arith, ints);
      bx = let h = b.x_within in omega (arith, ints);
      by_ = let h = b.y_within in omega (arith, ints);
      bz = let h = b.z_within in omega (arith, ints);
      ty = let h = t.y_within in omega (arith, ints);
      cx = let h = c.x_within in omega (arith, ints);
      cy = let h = c.y_within in omega (arith, ints);
      cz = let h = c.z_within in omega (arith, ints);
      tz = let h = t.z_within in omega (arith, ints);
    }

abbrev pub entries : MatrixValue → List ℤ
entries m = m.a.x ∷ m.a.y ∷ m.a.z ∷ m.t.x ∷ m.b.x ∷ m.b.y ∷ m.b.z ∷ m.t.y ∷ m.c.x ∷ m.c.y ∷ m.c.z ∷ m.t.z ∷ []

-- the record of an instance with the number of its handle
abbrev pub placed_record : ℕ → Instance → InstanceRecord
placed_record number told = record {
  rows = entries told.matrix;
  custom = told.custom;
  mask = told.mask;
  sbt = told.sbt;
  flags = told.flags.0;
  reference = number;
}

pub placed_back : (number : ℕ) (told : Instance) → IsMatrix told.matrix → told.custom < 2 ^ 24 → told.sbt < 2 ^ 24 → told.flags.0 < 16 → told.mask < 2 ^ 8 →
    number < 2 ^ 64 → instance_of (placed_bytes number told) ≡ placed_record number told
unfolding placed_bytes word_at signed_at long_at
placed_back number told is custom sbt flags mask fits =
    let m = matrix_fits told.matrix is in
    let w = told.matrix in
    let c = word (told.custom + 16777216 * told.mask) (omega arith) in
    let b = word (told.sbt + 16777216 * told.flags.0) (omega arith) in
    let low_c = ap low_bits c ∙ low told.custom told.mask custom in
    let high_c = ap high_bits c ∙ high told.custom told.mask custom in
    let low_b = ap low_bits b ∙ low told.sbt told.flags.0 sbt in
    let high_b = ap high_bits b ∙ high told.sbt told.flags.0 sbt in
    let r = long number fits in
    λ i. record {
      rows = coordinate w.a.x m.ax i ∷ coordinate w.a.y m.ay i ∷ coordinate w.a.z m.az i ∷ coordinate w.t.x m.tx i
          ∷ coordinate w.b.x m.bx i ∷ coordinate w.b.y m.by_ i ∷ coordinate w.b.z m.bz i ∷ coordinate w.t.y m.ty i
          ∷ coordinate w.c.x m.cx i ∷ coordinate w.c.y m.cy i ∷ coordinate w.c.z m.cz i ∷ coordinate w.t.z m.tz i ∷ [];
      custom = low_c i;
      mask = high_c i;
      sbt = low_b i;
      flags = high_b i;
      reference = r i;
    }

yes_so : {P X : Type 0} (d : Dec P) (x : X) → P → is_some (where_so d x) ≡ true
yes_so (yes p) x h = refl
yes_so (no n) x h = absurd (n h)

matrix_some : (m : MatrixValue) → IsMatrix m → is_some (matrix_within (matrix_from (entries m))) ≡ true
unfolding matrix_within matrix_from
matrix_some m is = yes_so (matrix_decided m) m is

flags_same : (flags : ℕ) → flags < 16 → flags % 16 ≡ flags
flags_same flags h = omega arith

four : (a b c d : Bool) → a ≡ true → b ≡ true → c ≡ true → d ≡ true → (a && b && c && d) ≡ true
four a b c d p q r s = λ i. p i && q i && r i && s i

placed_good : (handles number : ℕ) (told : Instance) → IsMatrix told.matrix → told.flags.0 < 16 → forces_both told.flags ≡ false → number ≤ handles →
    is_placed handles (placed_record number told) ≡ true
unfolding is_placed
placed_good handles number told is flags not_both below =
    let same = flags_same told.flags.0 flags in
    four (nat_le number handles) (is_some (matrix_within (matrix_from (entries told.matrix)))) (nat_lt told.flags.0 16)
    (not (forces_both (flags_in (placed_record number told))))
    (le_test number handles below) (matrix_some told.matrix is) (lt_test told.flags.0 16 flags)
    (λ i. not ((ap (λ (n : ℕ). forces_both (record { 0 = n })) same ∙ not_both) i))

pub if_true : {X : Type 0} (b : Bool) (x y : X) → b ≡ true → (if b then x else y) ≡ x
if_true true x y e = refl
if_true false x y e = absurd cc

active_number : (n : ℕ) → not (n + 1 == 0) ≡ true
active_number n = grind (arith, nat_tests)

zeros_good : (handles : ℕ) → is_instance handles (replicate 64 0) ≡ true
unfolding is_instance long_at
zeros_good handles = refl

placed_is : (handles place : ℕ) (told : Instance) → IsMatrix told.matrix → told.custom < 2 ^ 24 → told.sbt < 2 ^ 24 → told.flags.0 < 16 → told.mask < 2 ^ 8 →
    forces_both told.flags ≡ false → place < handles → handles ≤ 65536 → is_instance handles (placed_bytes (place + 1) told) ≡ true
unfolding is_instance
placed_is handles place told is custom sbt flags mask not_both below few =
    let e = placed_back (place + 1) told is custom sbt flags mask (omega arith) in
    (λ i. if is_active (e i) then is_placed handles (e i) else list_all (λ byte. byte == 0) (placed_bytes (place + 1) told))
    ∙ (if_true (not (place + 1 == 0)) (is_placed handles (placed_record (place + 1) told)) (list_all (λ byte. byte == 0) (placed_bytes (place + 1) told)) (active_number place)
    ∙ placed_good handles (place + 1) told is flags not_both (omega arith))

-- ---- where its handle stands

by_first : (b others : Bool) (n m : ℕ) → (b || others) ≡ true → (others ≡ true → n < m) → (if not b then 1 + n else 0) < suc m
by_first true others n m e f = omega arith
by_first false others n m e f = let h = f e in omega arith

pub place_below : (r : ℕ) (hs : List ℕ) → has r hs ≡ true → position_or_len (λ h. h == r) hs < length hs
unfolding has
place_below r [] e = absurd cc
place_below r (h ∷ hs) e = by_first (h == r) (has r hs) (position_or_len (λ x. x == r) hs) (length hs) e (place_below r hs)

told_is : (used : List Used) (handles : List ℕ) (o : Option InstanceValue) → IfSome o (IsActive used) → FitsTold (told_instance o) → length handles ≤ 65536 →
    ((told_instance o).active ≡ true → has (reference_of (told_instance o).id) handles ≡ true) → is_instance (length handles) (instance_bytes handles (told_instance o)) ≡ true
unfolding instance_bytes handle_number
told_is used handles (Some x) a fits few stands =
    placed_is (length handles) (position_or_len (λ h. h == reference_of x.id) handles) (told_instance (Some x)) a.matrix a.custom a.sbt a.flags fits.mask a.not_both
    (place_below (reference_of x.id) handles (stands refl)) few
told_is used handles None a fits few stands = zeros_good (length handles)

-- ---- all of them

all_good : (p : List ℕ → Bool) (f : Option InstanceValue → List ℕ) (xs : List (Option InstanceValue)) → ((x : Option InstanceValue) → length (f x) ≡ 64) →
    ((k : ℕ) → k < length xs → p (f (get_or xs k None)) ≡ true) → list_all p (first_chunks 64 (length xs) (flat_map f xs)) ≡ true
all_good p f [] sized each = refl
all_good p f (x ∷ xs) sized each =
    let rest = all_good p f xs sized (λ k below. each (suc k) (omega arith)) in
    let split = flat_map-cons f x xs in
    (λ i. p (take 64 (split i)) && list_all p (first_chunks 64 (length xs) (drop 64 (split i))))
    ∙ ((λ i. p (take_at (f x) (flat_map f xs) 64 (sized x) i) && list_all p (first_chunks 64 (length xs) (drop_at (f x) (flat_map f xs) 64 (sized x) i)))
    ∙ both_true (p (f x)) (list_all p (first_chunks 64 (length xs) (flat_map f xs))) (each 0 (omega arith)) rest)

-- what a structure is written from
pub record CanWrite (t : TopValue) : Type 0 where
  pub is : IsTop t
  pub fits : All (λ i. FitsTold (told_instance i)) t.contents.instances
  pub known : t.contents.flags.0 < 32

pub length-all : (handles : List ℕ) (instances : List (Option InstanceValue)) →
    length (flat_map (λ i. instance_bytes handles (told_instance i)) instances) ≡ 64 * length instances
unfolding all_instance_bytes
length-all handles instances = length-all_instance_bytes handles instances

elements_good : (t : TopValue) → CanWrite t →
    are_instances (length (handles_of t.contents.instances)) (all_instance_bytes (handles_of t.contents.instances) t.contents.instances) ≡ true
unfolding are_instances all_instance_bytes
elements_good t can =
    let instances = t.contents.instances in
    let handles = handles_of instances in
    let f : Option InstanceValue → List ℕ = λ i. instance_bytes handles (told_instance i) in
    let all = length-all handles instances in
    let many : length (flat_map f instances) / 64 ≡ length instances = omega arith in
    ap (λ n. list_all (is_instance (length handles)) (first_chunks 64 n (flat_map f instances))) many
    ∙ all_good (is_instance (length handles)) f instances (λ x. length-instance_bytes handles (told_instance x))
    (λ k below. told_is t.used handles (get_or instances k None) (can.is.each k None below).limits (can.fits k None below)
    (let few = length-handles_of instances in let most = can.is.count in omega arith) (has_handle instances k below))

-- ---- the payload

record TopWords (payload : List ℕ) (flags count : ℕ) (rest : List ℕ) : Type 0 where
  kind_is : word_at payload 0 ≡ 1
  flags_is : word_at payload 4 ≡ flags
  count_is : word_at payload 8 ≡ 1
  zero_is : word_at payload 12 ≡ 0
  row_is : row_of payload ≡ head_bytes 2 0 0 0 count ++ rest
  instances_is : instances_of_payload payload ≡ rest

top_words : (flags count : ℕ) (rest : List ℕ) → flags < 2 ^ 32 → TopWords (top_head flags count ++ rest) flags count rest
unfolding top_head bytes_of_words word_at row_of instances_of_payload
top_words flags count rest fits = record {
  kind_is = refl;
  flags_is = word flags fits;
  count_is = refl;
  zero_is = refl;
  row_is = refl;
  instances_is = refl;
}

row_fills : (count : ℕ) (rest : List ℕ) → count ≤ 2 ^ 16 → length rest ≡ 64 * count → row_total 2 1 (head_bytes 2 0 0 0 count ++ rest) ≡ Some count
unfolding is_geometry is_whole is_head elements_size after_first
row_fills count rest few long =
    let row = head_bytes 2 0 0 0 count ++ rest in
    let w = head_back 2 0 0 0 count rest (omega arith) (omega arith) (omega arith) (omega arith) (omega arith) in
    let size : elements_size row ≡ 64 * count = λ i. element_size (w.kind_is i) * w.count_is i in
    let whole : length row ≡ 32 + 64 * count = length-append (head_bytes 2 0 0 0 count) rest ∙ (λ i. length-head_bytes 2 0 0 0 count i + long i) in
    let left = length-drop (geometry_size row) row in
    let is_there = both_true (nat_le 32 (length row)) (nat_le (geometry_size row) (length row)) (le_test 32 (length row) (omega arith))
    (le_test (geometry_size row) (length row) (omega arith)) in
    let head : is_head 2 row ≡ true =
    λ i. (w.kind_is i == 2) && nat_le (w.opaque_is i) 0 && nat_le (w.format_is i) 0 && nat_le (w.index_is i) 0 && w.zeros i in
    let none = same_number (length (after_first row)) 0 (omega arith) in
    let sum : count_in row + 0 ≡ count = let c = w.count_is in omega arith in
    if_true (is_geometry 2 row && (length (after_first row) == 0)) (Some (count_in row + 0)) None
    (both_true (is_geometry 2 row) (length (after_first row) == 0) (both_true (is_whole row) (is_head 2 row) is_there head) none)
    ∙ ap Some sum

within : (greatest n : ℕ) → n ≤ greatest → at_most greatest (Some n) ≡ Some n
within greatest n h = ap (λ b. if b then Some n else None) (le_test n greatest h)

flags_are : (payload : List ℕ) (flags : BuildFlags) → word_at payload 4 ≡ flags.0 → flags_of_payload payload ≡ flags
unfolding flags_of_payload
flags_are payload flags e = let P : ℕ → BuildFlags = λ n. record { 0 = n } in ap P e

one_is : (payload : List ℕ) → word_at payload 8 ≡ 1 → geometry_count payload ≡ 1
unfolding geometry_count
one_is payload e = e

total_is : (handles : ℕ) (payload : List ℕ) (flags : BuildFlags) (count : ℕ) (rest : List ℕ) → TopWords payload flags.0 count rest → flags.0 < 32 →
    has_both_fast flags ≡ false → count ≤ 2 ^ 16 → length rest ≡ 64 * count → total_of_payload handles payload ≡ Some count
unfolding total_of_payload has_flags top_total
total_is handles payload flags count rest w known not_both few long =
    let small : nat_lt flags.0 32 ≡ true = lt_test flags.0 32 known in
    let flagged : has_flags payload ≡ true =
    (λ i. nat_lt (w.flags_is i) 32 && not (has_both_fast (flags_are payload flags w.flags_is i)) && (w.zero_is i == 0)) ∙ (λ i. small i && not (not_both i) && true) in
    (λ i. if flagged i then
    (if w.kind_is i == 0 then (if handles == 0 then bottom_total payload else None) else if w.kind_is i == 1 then top_total payload else None) else None)
    ∙ ((λ i. if one_is payload w.count_is i == 1 then at_most 65536 (row_total 2 1 (w.row_is i)) else None)
    ∙ (ap (at_most 65536) (row_fills count rest few long) ∙ within 65536 count (omega arith)))

top_is : (payload : List ℕ) → word_at payload 0 ≡ 1 → is_top_payload payload ≡ true
unfolding is_top_payload
top_is payload e = ap (λ (n : ℕ). n == 1) e

no_bad : (handles : ℕ) (payload rest : List ℕ) → word_at payload 0 ≡ 1 → instances_of_payload payload ≡ rest → are_instances handles rest ≡ true →
    has_bad_element handles payload ≡ false
unfolding has_bad_element
no_bad handles payload rest kind e good =
    (λ i. if top_is payload kind i then not (are_instances handles (e i)) else is_none (geometries_in (geometry_count payload) (row_of payload)))
    ∙ ap not good

-- ---- the form

pub top_header : (c : ContentsValue) → length c.instances ≤ 2 ^ 16 →
    HasHeader (top_form c) (structure_size 1 (length c.instances)) (handles_of c.instances) (top_payload (handles_of c.instances) c)
unfolding top_form
top_header c few =
    header_back (structure_size 1 (length c.instances)) (handles_of c.instances) (top_payload (handles_of c.instances) c) (omega arith) (top_few c few)

lines_of : (t : TopValue) → CanWrite t → KeepsLines (top_form t.contents)
lines_of t can =
    let c = t.contents in
    let bytes = top_form c in
    let handles = handles_of c.instances in
    let payload = top_payload handles c in
    let rest = all_instance_bytes handles c.instances in
    let few = can.is.count in
    let known = can.known in
    let h = top_header c few in
    let w = top_words c.flags.0 (length c.instances) rest (omega arith) in
    let all = length-all_instance_bytes handles c.instances in
    let long = length-top_payload handles c in
    let some = length-handles_of c.instances in
    let size = h.length_is in
    let count = h.count in
    record {
      total = length c.instances;
      long = omega arith;
      device = h.device;
      form = h.form ∙ sym (ap text_of h.plain);
      ending = plain_ends bytes h.plain;
      size = h.size ∙ sym h.length_is;
      handles = omega arith;
      room = omega arith;
      payload = (λ i. total_of_payload (h.count i) (h.payload_is i))
          ∙ total_is (length handles) payload c.flags (length c.instances) rest w known can.is.flags few all;
      structure = h.deserialized_is ∙ ap (λ n. structure_size n (length c.instances)) (sym (ap geometry_count h.payload_is ∙ one_is payload w.count_is));
      elements = (λ i. has_bad_element (h.count i) (h.payload_is i)) ∙ no_bad (length handles) payload rest w.kind_is w.instances_is (elements_good t can);
    }

pub IsForm-top_form : (t : TopValue) → CanWrite t → IsForm (top_form t.contents)
IsForm-top_form t can = record { unbroken = unbroken-KeepsLines (top_form t.contents) (lines_of t can) }

-- what follows where a result is Ok, of its value and of what holds then
pub IfOk-both : {T E : Type 0} (P Q : T → Type 0) (N : Type 0) (r : Result T E) → ((x : T) → P x → N → Q x) → IfOk r P → OnOk r N → IfOk r Q
IfOk-both P Q N (Ok x) f p n = f x p n
IfOk-both P Q N (Err e) f p n = tt

-- what the payload says
pub record SaysHead (c : ContentsValue) (payload : List ℕ) : Type 0 where
  pub top : is_top_payload payload ≡ true
  pub flags : flags_of_payload payload ≡ c.flags
  pub instances : instances_of_payload payload ≡ all_instance_bytes (handles_of c.instances) c.instances

pub says_head : (t : TopValue) → CanWrite t → SaysHead t.contents (top_payload (handles_of t.contents.instances) t.contents)
says_head t can =
    let c = t.contents in
    let payload = top_payload (handles_of c.instances) c in
    let known = can.known in
    let w = top_words c.flags.0 (length c.instances) (all_instance_bytes (handles_of c.instances) c.instances) (omega arith) in
    record { top = top_is payload w.kind_is; flags = flags_are payload c.flags w.flags_is; instances = w.instances_is }
