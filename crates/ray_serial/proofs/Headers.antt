-- The first bytes of a form: what they are written as, read back, and the other way round.
use Rattle.std.proofs.Common.{ℕ, zero, suc, ◌≡◌, ◌<◌, ◌≤◌, ◌+◌, ◌*◌, ◌-◌, ◌^◌, ◌++◌, Bool, true, false, List, [], ◌∷◌, length, take, drop, get_or, map, append-nil, append_assoc, refl, sym, ap, ◌∙◌, arith, length-append, mul-suc}
use Rattle.std.specs.List.{flat_map, range_with_len}
use Rattle.std.proofs.lemmas.List.{take_more, drop-drop, drop_at, take-append-drop, length-drop, length-take}
use Rattle.std.proofs.lemmas.List.Concat.{flat_map-cons}
use Rattle.byteorder.specs.Endian.{little_bytes, little_number}
use Rattle.byteorder.specs.Numbers.{little_number-reads_back, length-bytes_low_first}
use Rattle.ray_bytes.specs.Fields.{long_at}
use Rattle.ray_bytes.proofs.LittleBytes.{little_bytes-at}
use Rattle.ray_form.specs.Form.{device_text, form_text, lacks, has_tree, handle_count_in, body_in, payload_size, payload_of_body, payload_in}
use Rattle.ray_serial.specs.Meaning.{text_of, KeepsLines, deserialized_in, handle_at, handles_in}
use Rattle.ray_serial.specs.Written.{long_bytes, form_size, form_bytes}
use Rattle.ray_serial.proofs.Words.{AreBytes, AreBytes-drop, AreBytes-take}

-- ---- long numbers

long_bytes-cons : (n : ℕ) (ns : List ℕ) → long_bytes (n ∷ ns) ≡ little_bytes 8 n ++ long_bytes ns
unfolding long_bytes
long_bytes-cons n ns = flat_map-cons (little_bytes 8) n ns

pub length-long_bytes : (ns : List ℕ) → length (long_bytes ns) ≡ 8 * length ns
unfolding long_bytes
length-long_bytes [] = omega arith
length-long_bytes (n ∷ ns) =
    let rest = length-long_bytes ns in
    let first = length-bytes_low_first 0 8 n in
    ap length (flat_map-cons (little_bytes 8) n ns) ∙ (length-append (little_bytes 8 n) (flat_map (little_bytes 8) ns) ∙ omega (arith, mul-suc 8 (length ns)))

-- none, and one more
pub long_bytes_none : (xs : List ℕ) → xs ≡ xs ++ long_bytes []
unfolding long_bytes
long_bytes_none xs = sym (append-nil xs)

long_bytes-append : (ns : List ℕ) (n : ℕ) → long_bytes (ns ++ n ∷ []) ≡ long_bytes ns ++ little_bytes 8 n
unfolding long_bytes
long_bytes-append [] n = append-nil (little_bytes 8 n)
long_bytes-append (m ∷ ns) n =
    flat_map-cons (little_bytes 8) m (ns ++ n ∷ [])
    ∙ (ap (λ ys. little_bytes 8 m ++ ys) (long_bytes-append ns n)
    ∙ (sym (append_assoc (little_bytes 8 m) (flat_map (little_bytes 8) ns) (little_bytes 8 n))
    ∙ ap (λ ys. ys ++ little_bytes 8 n) (sym (flat_map-cons (little_bytes 8) m ns))))

pub long_bytes_more : (start now : List ℕ) (ns : List ℕ) (i d : ℕ) → i < length ns → now ≡ start ++ long_bytes (take i ns) →
    now ++ little_bytes 8 (get_or ns i d) ≡ start ++ long_bytes (take (i + 1) ns)
long_bytes_more start now ns i d below e =
    ap (λ ys. ys ++ little_bytes 8 (get_or ns i d)) e
    ∙ (append_assoc start (long_bytes (take i ns)) (little_bytes 8 (get_or ns i d))
    ∙ ap (λ ys. start ++ ys) (sym (ap long_bytes (take_more ns i d below) ∙ long_bytes-append (take i ns) (get_or ns i d))))

long : (n : ℕ) → n < 2 ^ 64 → little_number 8 (little_bytes 8 n ++ []) ≡ n
long n below = little_number-reads_back 8 n [] below

-- ---- written and read back

pub record HasHeader (bytes : List ℕ) (deserialized : ℕ) (handles payload : List ℕ) : Type 0 where
  pub length_is : length bytes ≡ form_size handles payload
  pub device : take 16 bytes ≡ device_text
  pub plain : has_tree bytes ≡ false
  pub form : take 16 (drop 16 bytes) ≡ form_text
  pub size : long_at bytes 32 ≡ form_size handles payload
  pub deserialized_is : long_at bytes 40 ≡ deserialized
  pub count : handle_count_in bytes ≡ length handles
  pub payload_is : payload_in bytes ≡ payload

texts_back : (deserialized : ℕ) (handles payload : List ℕ) → take 16 (form_bytes deserialized handles payload) ≡ device_text
unfolding form_bytes
texts_back deserialized handles payload = refl

form_back : (deserialized : ℕ) (handles payload : List ℕ) → take 16 (drop 16 (form_bytes deserialized handles payload)) ≡ form_text
unfolding form_bytes
form_back deserialized handles payload = refl

plain_back : (deserialized : ℕ) (handles payload : List ℕ) → has_tree (form_bytes deserialized handles payload) ≡ false
unfolding form_bytes has_tree lacks
plain_back deserialized handles payload = refl

size_back : (deserialized : ℕ) (handles payload : List ℕ) → form_size handles payload < 2 ^ 64 →
    long_at (form_bytes deserialized handles payload) 32 ≡ form_size handles payload
unfolding form_bytes long_bytes long_at
size_back deserialized handles payload fits = long (form_size handles payload) fits

deserialized_back : (deserialized : ℕ) (handles payload : List ℕ) → deserialized < 2 ^ 64 → long_at (form_bytes deserialized handles payload) 40 ≡ deserialized
unfolding form_bytes long_bytes long_at
deserialized_back deserialized handles payload fits = long deserialized fits

count_back : (deserialized : ℕ) (handles payload : List ℕ) → length handles < 2 ^ 64 → handle_count_in (form_bytes deserialized handles payload) ≡ length handles
unfolding form_bytes long_bytes long_at handle_count_in
count_back deserialized handles payload fits = long (length handles) fits

pub after_header : (deserialized : ℕ) (handles payload : List ℕ) → drop 56 (form_bytes deserialized handles payload) ≡ long_bytes handles ++ payload
unfolding form_bytes long_bytes
after_header deserialized handles payload = refl

header_split : (deserialized : ℕ) (handles payload : List ℕ) → length (form_bytes deserialized handles payload) ≡ 56 + length (long_bytes handles ++ payload)
unfolding form_bytes long_bytes
header_split deserialized handles payload = let h : suc 55 ≡ 56 = refl in omega arith

pub length-form_bytes : (deserialized : ℕ) (handles payload : List ℕ) → length (form_bytes deserialized handles payload) ≡ form_size handles payload
length-form_bytes deserialized handles payload =
    header_split deserialized handles payload
    ∙ (let a = length-append (long_bytes handles) payload in let b = length-long_bytes handles in omega arith)

payload_back : (deserialized : ℕ) (handles payload : List ℕ) → length handles < 2 ^ 64 → payload_in (form_bytes deserialized handles payload) ≡ payload
unfolding payload_in body_in
payload_back deserialized handles payload fits =
    let bytes = form_bytes deserialized handles payload in
    let n = length-long_bytes handles in
    ap (λ tree. payload_of_body tree (body_in bytes)) (plain_back deserialized handles payload)
    ∙ (ap (λ k. drop (56 + 8 * k) bytes) (count_back deserialized handles payload fits)
    ∙ (sym (drop-drop (8 * length handles) 56 bytes)
    ∙ (ap (drop (8 * length handles)) (after_header deserialized handles payload)
    ∙ drop_at (long_bytes handles) payload (8 * length handles) n)))

pub header_back : (deserialized : ℕ) (handles payload : List ℕ) → deserialized < 2 ^ 64 → form_size handles payload < 2 ^ 64 →
    HasHeader (form_bytes deserialized handles payload) deserialized handles payload
header_back deserialized handles payload p q = record {
  length_is = length-form_bytes deserialized handles payload;
  device = texts_back deserialized handles payload;
  plain = plain_back deserialized handles payload;
  form = form_back deserialized handles payload;
  size = size_back deserialized handles payload q;
  deserialized_is = deserialized_back deserialized handles payload p;
  count = count_back deserialized handles payload (omega arith);
  payload_is = payload_back deserialized handles payload (omega arith);
}

-- ---- read and written again

handles_from : (bytes : List ℕ) (i n : ℕ) → AreBytes bytes → 56 + 8 * (i + n) ≤ length bytes →
    long_bytes (map (handle_at bytes) (range_with_len i n)) ++ drop (56 + 8 * (i + n)) bytes ≡ drop (56 + 8 * i) bytes
unfolding long_bytes handle_at long_at
handles_from bytes i zero fits long = let none : 56 + 8 * (i + 0) ≡ 56 + 8 * i = omega arith in ap (λ k. drop k bytes) none
handles_from bytes i (suc n) fits long =
    let here : i + suc n ≡ i + 1 + n = omega arith in
    let next : 56 + 8 * (i + 1) ≡ 56 + 8 * i + 8 = omega arith in
    let ns = map (handle_at bytes) (range_with_len (i + 1) n) in
    let others = handles_from bytes (i + 1) n fits (omega arith) in
    let whole = little_bytes-at 8 (56 + 8 * i) bytes (flat_map (little_bytes 8) ns ++ drop (56 + 8 * (i + suc n)) bytes) fits.each (omega arith)
    (ap (λ k. flat_map (little_bytes 8) ns ++ drop (56 + 8 * k) bytes) here ∙ (others ∙ ap (λ k. drop k bytes) next)) in
    whole

three_again : (bytes : List ℕ) → AreBytes bytes → 56 ≤ length bytes →
    long_bytes (long_at bytes 32 ∷ long_at bytes 40 ∷ long_at bytes 48 ∷ []) ++ drop 56 bytes ≡ drop 32 bytes
unfolding long_bytes long_at
three_again bytes fits long =
    little_bytes-at 8 32 bytes _ fits.each (omega arith)
    (little_bytes-at 8 40 bytes _ fits.each (omega arith)
    (little_bytes-at 8 48 bytes _ fits.each (omega arith) refl))

length-range : (i n : ℕ) (bytes : List ℕ) → length (map (handle_at bytes) (range_with_len i n)) ≡ n
length-range i zero bytes = refl
length-range i (suc n) bytes = ap suc (length-range (i + 1) n bytes)

pub length-handles_in : (bytes : List ℕ) → length (handles_in bytes) ≡ handle_count_in bytes
length-handles_in bytes = length-range 0 (handle_count_in bytes) bytes

-- the payload of a form 1 is all that follows the handles
pub plain_payload : (bytes : List ℕ) → has_tree bytes ≡ false → payload_in bytes ≡ drop (56 + 8 * handle_count_in bytes) bytes
unfolding payload_in body_in
plain_payload bytes plain = ap (λ tree. payload_of_body tree (drop (56 + 8 * handle_count_in bytes) bytes)) plain

pub length-payload_in : (bytes : List ℕ) → has_tree bytes ≡ false → length (payload_in bytes) ≡ length bytes - (56 + 8 * handle_count_in bytes)
length-payload_in bytes plain = ap length (plain_payload bytes plain) ∙ length-drop (56 + 8 * handle_count_in bytes) bytes

pub length-body_in : (bytes : List ℕ) → length (body_in bytes) ≡ length bytes - (56 + 8 * handle_count_in bytes)
unfolding body_in
length-body_in bytes = length-drop (56 + 8 * handle_count_in bytes) bytes

-- the payload has room for its head, whatever follows it
front_room : (body : List ℕ) (tree : Bool) → 16 ≤ length body → 16 ≤ length (payload_of_body tree body)
unfolding payload_size
front_room body true room = omega (arith, length-take (payload_size body) body)
front_room body false room = room

pub payload_room : (bytes : List ℕ) → KeepsLines bytes → 16 ≤ length (payload_in bytes)
unfolding payload_in
payload_room bytes k = let room = k.room in let left = length-body_in bytes in front_room (body_in bytes) (has_tree bytes) (omega arith)

-- it is bytes, too
front_fits : (body : List ℕ) (tree : Bool) → AreBytes body → AreBytes (payload_of_body tree body)
front_fits body true fits = AreBytes-take (payload_size body) body fits
front_fits body false fits = fits

pub fits_payload : (bytes : List ℕ) → AreBytes bytes → AreBytes (payload_in bytes)
unfolding payload_in body_in
fits_payload bytes fits = front_fits (body_in bytes) (has_tree bytes) (AreBytes-drop (56 + 8 * handle_count_in bytes) bytes fits)

size_again : (bytes : List ℕ) → KeepsLines bytes → has_tree bytes ≡ false → form_size (handles_in bytes) (payload_in bytes) ≡ long_at bytes 32
size_again bytes k plain =
    let many = length-handles_in bytes in
    let left = length-payload_in bytes plain in
    let room = k.room in
    let size = k.size in
    omega arith

count_again : (bytes : List ℕ) → length (handles_in bytes) ≡ long_at bytes 48
unfolding handle_count_in
count_again bytes = length-handles_in bytes

handles_again : (bytes : List ℕ) → AreBytes bytes → KeepsLines bytes → has_tree bytes ≡ false → long_bytes (handles_in bytes) ++ payload_in bytes ≡ drop 56 bytes
handles_again bytes fits k plain =
    let n = handle_count_in bytes in
    let room = k.room in
    let none : 0 + n ≡ n = omega arith in
    let whole = handles_from bytes 0 n fits (omega arith) in
    let start : 56 + 8 * 0 ≡ 56 = omega arith in
    ap (λ ys. long_bytes (handles_in bytes) ++ ys) (plain_payload bytes plain)
    ∙ ap (λ m. long_bytes (handles_in bytes) ++ drop (56 + 8 * m) bytes) (sym none) ∙ (whole ∙ ap (λ m. drop m bytes) start)

-- what stands before a place, and what follows it
joined : (n at next : ℕ) (bytes : List ℕ) → at + n ≡ next → take n (drop at bytes) ++ drop next bytes ≡ drop at bytes
joined n at next bytes e =
    ap (λ k. take n (drop at bytes) ++ drop k bytes) (sym e)
    ∙ (ap (λ ys. take n (drop at bytes) ++ ys) (sym (drop-drop n at bytes)) ∙ take-append-drop n (drop at bytes))

pub form_again : (bytes : List ℕ) → AreBytes bytes → KeepsLines bytes → has_tree bytes ≡ false → form_bytes (deserialized_in bytes) (handles_in bytes) (payload_in bytes) ≡ bytes
unfolding form_bytes deserialized_in
form_again bytes fits k plain =
    let size = size_again bytes k plain in
    let count = count_again bytes in
    let device = sym k.device in
    let form = sym (k.form ∙ ap text_of plain) in
    let handles = handles_again bytes fits k plain in
    (λ i. device i ++ (form i ++ (long_bytes (size i ∷ long_at bytes 40 ∷ count i ∷ []) ++ handles i)))
    ∙ (ap (λ ys. take 16 bytes ++ (take 16 (drop 16 bytes) ++ ys)) (three_again bytes fits k.long)
    ∙ (ap (λ ys. take 16 bytes ++ ys) (joined 16 16 32 bytes refl) ∙ joined 16 0 16 bytes refl))
