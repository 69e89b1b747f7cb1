-- A form whose handles are replaced.
use Rattle.std.proofs.Common.{ℕ, zero, suc, ◌≡◌, ◌<◌, ◌≤◌, ◌+◌, ◌*◌, ◌++◌, ◌^◌, Bool, true, false, List, [], ◌∷◌, length, drop, get_or, Some, None, refl, sym, ap, ◌∙◌, arith, append_assoc, mul-suc, inl, inr}
use Rattle.std.specs.Prelude.{slice_get, nat_lt, if◌then◌else◌}
use Rattle.std.proofs.lemmas.Bool.{cases_lt}
use Rattle.std.proofs.lemmas.Bool.Decides.{nat_tests}
use Rattle.std.proofs.lemmas.List.{drop-drop}
use Rattle.std.proofs.lemmas.List.Concat.{flat_map-cons}
use Rattle.std.proofs.lemmas.Option.{slice_get-get_or}
use Rattle.std.proofs.Math.Seq.{drop-append-add}
use Rattle.byteorder.specs.Endian.{little_bytes, little_number}
use Rattle.byteorder.specs.Numbers.{little_number-reads_back, little_from-lt, length-bytes_low_first}
use Rattle.ray_bytes.specs.Fields.{long_at}
use Rattle.ray_bytes.specs.StructureSizes.{structure_size}
use Rattle.ray_form.specs.Form.{has_tree, handle_count_in, payload_in, geometry_count, total_of_payload, has_bad_element}
use Rattle.ray_serial.specs.Meaning.{text_of, KeepsLines, IsForm, is_top_form, deserialized_in, handle_at, handle_in}
use Rattle.ray_serial.specs.Written.{long_bytes, form_bytes}
use Rattle.ray_serial.specs.Replaced.{with_handles, IsReplaced}
use Rattle.ray_serial.proofs.Words.{AreBytes, AreBytes-drop}
use Rattle.ray_serial.proofs.KeptLines.{KeepsLines-unbroken, unbroken-KeepsLines}
use Rattle.ray_serial.proofs.Endings.{plain_ends, plain_top}
use Rattle.ray_serial.proofs.Headers.{HasHeader, header_back, after_header, length-payload_in}

-- numbers of 64 bits
pub record AreLong (handles : List ℕ) : Type 0 where
  pub each : (k : ℕ) → get_or handles k 0 < 2 ^ 64

long_from : (handles payload : List ℕ) (k : ℕ) → k < length handles → AreLong handles → little_number 8 (drop (8 * k) (long_bytes handles ++ payload)) ≡ get_or handles k 0
unfolding long_bytes
long_from [] payload k below fits = absurd (omega arith)
long_from (h ∷ hs) payload zero below fits =
    let none : 8 * 0 ≡ 0 = omega arith in
    let whole = ap (λ ys. ys ++ payload) (flat_map-cons (little_bytes 8) h hs) ∙ append_assoc (little_bytes 8 h) (long_bytes hs) payload in
    (λ i. little_number 8 (drop (none i) (whole i))) ∙ little_number-reads_back 8 h (long_bytes hs ++ payload) (fits.each 0)
long_from (h ∷ hs) payload (suc k) below fits =
    let size = length-bytes_low_first 0 8 h in
    let next : 8 * suc k ≡ length (little_bytes 8 h) + 8 * k = omega (arith, mul-suc 8 k) in
    let whole = ap (λ ys. ys ++ payload) (flat_map-cons (little_bytes 8) h hs) ∙ append_assoc (little_bytes 8 h) (long_bytes hs) payload in
    (λ i. little_number 8 (drop (next i) (whole i)))
    ∙ (ap (little_number 8) (drop-append-add (little_bytes 8 h) (long_bytes hs ++ payload) (8 * k))
    ∙ long_from hs payload k (omega arith) (record { each = λ j. fits.each (suc j) }))

pub handle_back : (deserialized : ℕ) (handles payload : List ℕ) (k : ℕ) → k < length handles → AreLong handles →
    handle_at (form_bytes deserialized handles payload) k ≡ get_or handles k 0
unfolding handle_at long_at
handle_back deserialized handles payload k below fits =
    ap (little_number 8) (sym (drop-drop (8 * k) 56 (form_bytes deserialized handles payload)) ∙ ap (drop (8 * k)) (after_header deserialized handles payload))
    ∙ long_from handles payload k below fits

long_fits : (bytes : List ℕ) (at : ℕ) → AreBytes bytes → long_at bytes at < 2 ^ 64
unfolding long_at
long_fits bytes at fits = little_from-lt 0 8 (drop at bytes) (AreBytes-drop at bytes fits).each

deserialized_is : (bytes : List ℕ) → deserialized_in bytes ≡ long_at bytes 40
unfolding deserialized_in
deserialized_is bytes = refl

other_header : (bytes handles : List ℕ) → AreBytes bytes → KeepsLines bytes → has_tree bytes ≡ false → length handles ≡ handle_count_in bytes →
    HasHeader (with_handles bytes handles) (deserialized_in bytes) handles (payload_in bytes)
other_header bytes handles fits k plain many =
    let size = k.size in
    let room = k.room in
    let left = length-payload_in bytes plain in
    let whole = long_fits bytes 32 fits in
    let d = deserialized_is bytes in
    let small = long_fits bytes 40 fits in
    header_back (deserialized_in bytes) handles (payload_in bytes) (omega arith) (omega arith)

other_lines : (bytes handles : List ℕ) → AreBytes bytes → KeepsLines bytes → has_tree bytes ≡ false → length handles ≡ handle_count_in bytes → KeepsLines (with_handles bytes handles)
other_lines bytes handles fits k plain many =
    let h = other_header bytes handles fits k plain many in
    let size = h.length_is in
    let count = h.count in
    let left = length-payload_in bytes plain in
    let room = k.room in
    let few = k.handles in
    let same = h.count ∙ many in
    record {
      total = k.total;
      long = omega arith;
      device = h.device;
      form = h.form ∙ sym (ap text_of h.plain);
      ending = plain_ends (with_handles bytes handles) h.plain;
      size = h.size ∙ sym h.length_is;
      handles = omega arith;
      room = omega arith;
      payload = (λ i. total_of_payload (same i) (h.payload_is i)) ∙ k.payload;
      structure = h.deserialized_is ∙ (deserialized_is bytes ∙ (k.structure ∙ ap (λ n. structure_size n k.total) (sym (ap geometry_count h.payload_is))));
      elements = (λ i. has_bad_element (same i) (h.payload_is i)) ∙ k.elements;
    }

if_true : {X : Type 0} (b : Bool) (x y : X) → b ≡ true → (if b then x else y) ≡ x
if_true true x y e = refl
if_true false x y e = absurd cc

if_false : {X : Type 0} (b : Bool) (x y : X) → b ≡ false → (if b then x else y) ≡ y
if_false true x y e = absurd cc
if_false false x y e = refl

lt_test : (a b : ℕ) → a < b → nat_lt a b ≡ true
lt_test a b h = grind (arith, nat_tests)

lt_fails : (a b : ℕ) → b ≤ a → nat_lt a b ≡ false
lt_fails a b h = grind (arith, nat_tests)

none_past : (xs : List ℕ) (k : ℕ) → length xs ≤ k → slice_get xs k ≡ None
none_past [] k h = refl
none_past (x ∷ xs) zero h = absurd (omega arith)
none_past (x ∷ xs) (suc k) h = none_past xs k (omega arith)

pub handle_said : (deserialized : ℕ) (handles payload : List ℕ) (k : ℕ) → AreLong handles →
    handle_count_in (form_bytes deserialized handles payload) ≡ length handles →
    handle_in (form_bytes deserialized handles payload) k ≡ slice_get handles k
handle_said deserialized handles payload k fits count =
    let other = form_bytes deserialized handles payload in
    elim (cases_lt k (length handles)) [
      | inl below ↦ if_true (nat_lt k (handle_count_in other)) (Some (handle_at other k)) None (lt_test k (handle_count_in other) (omega arith))
          ∙ (ap Some (handle_back deserialized handles payload k below fits) ∙ sym (slice_get-get_or handles k 0 below))
      | inr past ↦ if_false (nat_lt k (handle_count_in other)) (Some (handle_at other k)) None (lt_fails k (handle_count_in other) (omega arith))
          ∙ sym (none_past handles k past)
    ]

pub IsReplaced-form : (bytes handles : List ℕ) → AreBytes bytes → AreLong handles → IsForm bytes → is_top_form bytes ≡ true → length handles ≡ handle_count_in bytes →
    IsReplaced bytes handles (with_handles bytes handles)
IsReplaced-form bytes handles fits longs is top many =
    let k = KeepsLines-unbroken bytes is.unbroken in
    let plain = plain_top bytes k top in
    let h = other_header bytes handles fits k plain many in
    record {
      form = record { unbroken = unbroken-KeepsLines (with_handles bytes handles) (other_lines bytes handles fits k plain many) };
      payload = h.payload_is;
      each = λ j. handle_said (deserialized_in bytes) handles (payload_in bytes) j longs h.count;
    }
