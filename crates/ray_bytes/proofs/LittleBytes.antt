-- The bytes of a number that was read from bytes are those bytes.
use Rattle.std.proofs.Common.{◌≡◌, ℕ, zero, suc, ◌+◌, ◌/◌, ◌%◌, ◌^◌, ◌<◌, ◌≤◌, List, ◌++◌, length, take, drop, slice_index, refl, sym, ap, ◌∙◌, arith}
use Rattle.std.proofs.Math.Nat.{div-div-eq-div-mul, div-one, pow-suc}
use Rattle.std.proofs.Math.Seq.{drop-cons}
use Rattle.std.proofs.lemmas.List.{take-append-drop, drop-drop, get_or-drop, length-drop}
use Rattle.std.specs.Int.{byte_at, bytes_low_first}
use Rattle.byteorder.specs.Endian.{little_from, little_bytes, little_number}

-- a byte of a number, by its place
byte_at-pow : (k x : ℕ) → byte_at k x ≡ x / 256 ^ k % 256
byte_at-pow zero x = ap (λ (y : ℕ). y % 256) (sym (div-one x))
byte_at-pow (suc k) x = refl

-- the bytes of a number from byte j on are those that the number is read from
bytes_low_first-little_from :
    (n j x : ℕ) (xs : List ℕ) → ((i : ℕ) → slice_index xs i < 256)
    → j + n ≤ length xs → x / 256 ^ j ≡ little_from j n xs
    → bytes_low_first j n x ≡ take n (drop j xs)
bytes_low_first-little_from zero j x xs fits long same = refl
bytes_low_first-little_from (suc n) j x xs fits long same =
    let byte = fits j in
    let first : byte_at j x ≡ slice_index xs j = byte_at-pow j x ∙ ap (λ (y : ℕ). y % 256) same ∙ omega arith in
    let shift : x / 256 ^ suc j ≡ x / 256 ^ j / 256 = ap (λ (p : ℕ). x / p) (pow-suc 256 j) ∙ sym (div-div-eq-div-mul x (256 ^ j) 256) in
    let rest : x / 256 ^ suc j ≡ little_from (suc j) n xs = shift ∙ ap (λ (y : ℕ). y / 256) same ∙ omega arith in
    let others = bytes_low_first-little_from n (suc j) x xs fits (omega arith) rest in
    let here : j < length xs = omega arith in
    rw (drop-cons xs j 0 here, first, others) refl

-- the bytes of the number in the first n bytes
little_bytes-little_number :
    (n : ℕ) (xs : List ℕ) → ((i : ℕ) → slice_index xs i < 256) → n ≤ length xs
    → little_bytes n (little_number n xs) ≡ take n xs
little_bytes-little_number n xs fits long =
    bytes_low_first-little_from n 0 (little_number n xs) xs fits (omega arith) (div-one (little_number n xs))

-- n bytes at a place, written again in front of those that follow them
pub little_bytes-at :
    (n at : ℕ) (xs rest : List ℕ) → ((i : ℕ) → slice_index xs i < 256) → at + n ≤ length xs
    → rest ≡ drop (at + n) xs → little_bytes n (little_number n (drop at xs)) ++ rest ≡ drop at xs
little_bytes-at n at xs rest fits long follows =
    let ys : List ℕ = drop at xs in
    let fit : (i : ℕ) → slice_index ys i < 256 = λ i. let byte = fits (at + i) in rw (get_or-drop at xs i 0) byte in
    let room : n ≤ length ys = omega (arith, length-drop at xs) in
    let whole : rest ≡ drop n ys = follows ∙ sym (drop-drop n at xs) in
    rw (little_bytes-little_number n ys fit room, whole) (take-append-drop n ys)
