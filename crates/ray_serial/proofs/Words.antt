-- Words and long numbers that are written and read back, and the other way round.
use Rattle.std.proofs.Common.{not, ℕ, suc, zero, ◌≡◌, ◌<◌, ◌≤◌, ◌+◌, ◌==◌, ◌&&◌, ◌^◌, ◌++◌, Bool, true, false, List, [], ◌∷◌, length, take, drop, slice_index, refl, sym, ◌∙◌, arith}
use Rattle.std.proofs.lemmas.List.{get_or-drop}
use Rattle.std.proofs.lemmas.Bool.Decides.{nat_tests}
use Rattle.byteorder.specs.Endian.{little_bytes, little_number}
use Rattle.byteorder.specs.Numbers.{little_number-reads_back}
use Rattle.ray_bytes.specs.Fields.{word_at}
use Rattle.ray_bytes.proofs.LittleBytes.{little_bytes-at}
use Rattle.ray_geometries.specs.Storing.{bytes_of_words}
use Rattle.ray_form.specs.Heads.{has_zeros, count_in}

-- bytes are below 256
pub record AreBytes (bytes : List ℕ) : Type 0 where
  pub each : (i : ℕ) → slice_index bytes i < 256

pub AreBytes-drop : (n : ℕ) (bytes : List ℕ) → AreBytes bytes → AreBytes (drop n bytes)
AreBytes-drop n bytes fits = record { each = λ i. let byte = fits.each (n + i) in rw (get_or-drop n bytes i 0) byte }

take_fits : (n : ℕ) (bytes : List ℕ) → AreBytes bytes → (i : ℕ) → slice_index (take n bytes) i < 256
take_fits zero bytes fits i = omega arith
take_fits (suc n) [] fits i = omega arith
take_fits (suc n) (b ∷ bs) fits zero = fits.each 0
take_fits (suc n) (b ∷ bs) fits (suc i) = take_fits n bs (record { each = λ j. fits.each (suc j) }) i

pub AreBytes-take : (n : ℕ) (bytes : List ℕ) → AreBytes bytes → AreBytes (take n bytes)
AreBytes-take n bytes fits = record { each = take_fits n bytes fits }

-- a word that is read back
word : (n : ℕ) → n < 2 ^ 32 → little_number 4 (little_bytes 4 n ++ []) ≡ n
word n below = little_number-reads_back 4 n [] below

-- ---- the head of a geometry

-- the words of a head
pub record HasWords (rest : List ℕ) (kind opaque format index count : ℕ) : Type 0 where
  pub kind_is : word_at rest 0 ≡ kind
  pub opaque_is : word_at rest 4 ≡ opaque
  pub format_is : word_at rest 8 ≡ format
  pub index_is : word_at rest 12 ≡ index
  pub count_is : count_in rest ≡ count
  pub zeros : has_zeros rest ≡ true

abbrev pub head_bytes : ℕ → ℕ → ℕ → ℕ → ℕ → List ℕ
head_bytes kind opaque format index count = bytes_of_words (kind ∷ opaque ∷ format ∷ index ∷ count ∷ 0 ∷ 0 ∷ 0 ∷ [])

pub head_back : (kind opaque format index count : ℕ) (others : List ℕ) → kind < 2 ^ 32 → opaque < 2 ^ 32 → format < 2 ^ 32 → index < 2 ^ 32 →
    count < 2 ^ 32 → HasWords (head_bytes kind opaque format index count ++ others) kind opaque format index count
unfolding word_at bytes_of_words has_zeros count_in
head_back kind opaque format index count others p q r s t = record {
  kind_is = word kind p;
  opaque_is = word opaque q;
  format_is = word format r;
  index_is = word index s;
  count_is = word count t;
  zeros = refl;
}

pub length-head_bytes : (kind opaque format index count : ℕ) → length (head_bytes kind opaque format index count) ≡ 32
unfolding bytes_of_words
length-head_bytes kind opaque format index count = refl

-- what follows a head
pub after_head : (kind opaque format index count : ℕ) (others : List ℕ) → drop 32 (head_bytes kind opaque format index count ++ others) ≡ others
unfolding bytes_of_words
after_head kind opaque format index count others = refl

-- ---- a head that is read is written again

abbrev eight_words : List ℕ → List ℕ
eight_words bytes =
    word_at bytes 0 ∷ word_at bytes 4 ∷ word_at bytes 8 ∷ word_at bytes 12 ∷ word_at bytes 16 ∷ word_at bytes 20
    ∷ word_at bytes 24 ∷ word_at bytes 28 ∷ []

eight_again : (bytes : List ℕ) → AreBytes bytes → 32 ≤ length bytes → bytes_of_words (eight_words bytes) ++ drop 32 bytes ≡ bytes
unfolding word_at bytes_of_words
eight_again bytes fits long =
    little_bytes-at 4 0 bytes _ fits.each (omega arith)
    (little_bytes-at 4 4 bytes _ fits.each (omega arith)
    (little_bytes-at 4 8 bytes _ fits.each (omega arith)
    (little_bytes-at 4 12 bytes _ fits.each (omega arith)
    (little_bytes-at 4 16 bytes _ fits.each (omega arith)
    (little_bytes-at 4 20 bytes _ fits.each (omega arith)
    (little_bytes-at 4 24 bytes _ fits.each (omega arith)
    (little_bytes-at 4 28 bytes _ fits.each (omega arith) refl)))))))

pub three : (a b c : Bool) → (a && b && c) ≡ true → (a ≡ true) × (b ≡ true) × (c ≡ true)
three true true c e = (refl, refl, e)
three true false c e = absurd cc
three false b c e = absurd cc

pub not_true : (a : Bool) → not a ≡ true → a ≡ false
not_true true e = absurd cc
not_true false e = refl

number_is : (a b : ℕ) → (a == b) ≡ true → a ≡ b
number_is a b e = grind (arith, nat_tests)

pub head_again : (bytes : List ℕ) (kind opaque format index count : ℕ) → AreBytes bytes → 32 ≤ length bytes → HasWords bytes kind opaque format index count →
    head_bytes kind opaque format index count ++ drop 32 bytes ≡ bytes
unfolding has_zeros count_in
head_again bytes kind opaque format index count fits long has =
    let zeros = three (word_at bytes 20 == 0) (word_at bytes 24 == 0) (word_at bytes 28 == 0) has.zeros in
    let p = sym has.kind_is in
    let q = sym has.opaque_is in
    let r = sym has.format_is in
    let s = sym has.index_is in
    let t = sym has.count_is in
    let x = sym (number_is (word_at bytes 20) 0 zeros.0) in
    let y = sym (number_is (word_at bytes 24) 0 zeros.1) in
    let z = sym (number_is (word_at bytes 28) 0 zeros.2) in
    (λ i. bytes_of_words (p i ∷ q i ∷ r i ∷ s i ∷ t i ∷ x i ∷ y i ∷ z i ∷ []) ++ drop 32 bytes) ∙ eight_again bytes fits long

-- the head of a payload
pub four_again : (bytes : List ℕ) → AreBytes bytes → 16 ≤ length bytes →
    bytes_of_words (word_at bytes 0 ∷ word_at bytes 4 ∷ word_at bytes 8 ∷ word_at bytes 12 ∷ []) ++ drop 16 bytes ≡ bytes
unfolding word_at bytes_of_words
four_again bytes fits long =
    little_bytes-at 4 0 bytes _ fits.each (omega arith)
    (little_bytes-at 4 4 bytes _ fits.each (omega arith)
    (little_bytes-at 4 8 bytes _ fits.each (omega arith)
    (little_bytes-at 4 12 bytes _ fits.each (omega arith) refl)))

pub record HasFour (payload : List ℕ) (kind flags count : ℕ) : Type 0 where
  pub kind_is : word_at payload 0 ≡ kind
  pub flags_is : word_at payload 4 ≡ flags
  pub count_is : word_at payload 8 ≡ count
  pub zero_is : word_at payload 12 ≡ 0

abbrev pub four_bytes : ℕ → ℕ → ℕ → List ℕ
four_bytes kind flags count = bytes_of_words (kind ∷ flags ∷ count ∷ 0 ∷ [])

pub four_back : (kind flags count : ℕ) (others : List ℕ) → kind < 2 ^ 32 → flags < 2 ^ 32 → count < 2 ^ 32 →
    HasFour (four_bytes kind flags count ++ others) kind flags count
unfolding word_at bytes_of_words
four_back kind flags count others p q r = record { kind_is = word kind p; flags_is = word flags q; count_is = word count r; zero_is = refl }

pub length-four_bytes : (kind flags count : ℕ) → length (four_bytes kind flags count) ≡ 16
unfolding bytes_of_words
length-four_bytes kind flags count = refl

pub after_four : (kind flags count : ℕ) (others : List ℕ) → drop 16 (four_bytes kind flags count ++ others) ≡ others
unfolding bytes_of_words
after_four kind flags count others = refl
