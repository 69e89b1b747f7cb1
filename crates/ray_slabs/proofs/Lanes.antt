-- Eight lanes of a vector, number by number.
use Rattle.std.proofs.Common.{◌≡◌, ℕ, zero, suc, Bool, true, false, cond, ◌&&◌, List, [], ◌∷◌, map, length, replicate, refl, ap, ap₂, arith, rules, nat_lt, nat_le, w32, w64}
use lib.Lanes.{zip2, sel_l, top, Each1, Each2}
use mir.Syntax.{bit_and, mask, lt, le, unsigned, wrap_mul, wrap_add, div, rem, cast}
use borrow.Table.Row.{s_int}
use borrow.Rule.Simd.Lanes.{act1, act2, Asks1, Asks2}
use Rattle.ray_slabs.specs.Rows.{greater_row, high_row, lesser_row, overlap_row, stored_word}

-- ---- the greater and the lesser of two

abbrev pub lt32 : ℕ → ℕ → ℕ
lt32 a b = act2 (mask (lt unsigned)) (s_int w32) (s_int w32) (s_int w32) a b

abbrev pub le32 : ℕ → ℕ → ℕ
le32 a b = act2 (mask (le unsigned)) (s_int w32) (s_int w32) (s_int w32) a b

abbrev pub and32 : ℕ → ℕ → ℕ
and32 a b = act2 bit_and (s_int w32) (s_int w32) (s_int w32) a b

topped : (t : Bool) → top 31 (cond t 4294967295 0) ≡ t
topped true = refl
topped false = refl

pub greater-is : (a b : List ℕ) → sel_l (map (top 31) (zip2 lt32 a b)) b a ≡ greater_row a b
greater-is [] b = refl
greater-is (x ∷ xs) [] = refl
greater-is (x ∷ xs) (y ∷ ys) = ap₂ (λ r s. r ∷ s) (ap (λ t. cond t y x) (topped (nat_lt x y))) (greater-is xs ys)

pub lesser-is : (a b : List ℕ) → sel_l (map (top 31) (zip2 lt32 a b)) a b ≡ lesser_row a b
lesser-is [] b = refl
lesser-is (x ∷ xs) [] = refl
lesser-is (x ∷ xs) (y ∷ ys) = ap₂ (λ r s. r ∷ s) (ap (λ t. cond t x y) (topped (nat_lt x y))) (lesser-is xs ys)

-- ---- whether planes overlap

both : (p q : Bool) → top 31 (and32 (cond p 4294967295 0) (cond q 4294967295 0)) ≡ (p && q)
both true true = refl
both true false = refl
both false true = refl
both false false = refl

abbrev pub lift32 : ℕ → List ℕ → List ℕ
lift32 n xs =
    zip2 (act2 wrap_add (s_int w32) (s_int w32) (s_int w32)) (zip2 (act2 wrap_mul (s_int w32) (s_int w32) (s_int w32)) xs (replicate n 1024)) (replicate n 2147483648)

pub overlap-is : (n : ℕ) (lo hi : List ℕ) (from to other : ℕ) → length lo ≡ n → length hi ≡ n
    → sel_l (map (top 31) (zip2 and32 (zip2 le32 (lift32 n lo) (replicate n to)) (zip2 le32 (replicate n from) (lift32 n hi)))) (replicate n 0) (replicate n other)
    ≡ overlap_row lo hi from to other
overlap-is zero [] hi from to other a b = refl
overlap-is zero (x ∷ xs) hi from to other a b = absurd (omega arith)
overlap-is (suc n) [] hi from to other a b = absurd (omega arith)
overlap-is (suc n) (x ∷ xs) [] from to other a b = absurd (omega arith)
overlap-is (suc n) (x ∷ xs) (y ∷ ys) from to other a b =
    ap₂ (λ r s. r ∷ s) (ap (λ t. cond t 0 other) (both (nat_le (stored_word x) to) (nat_le from (stored_word y))))
    (overlap-is n xs ys from to other (omega arith) (omega arith))

-- ---- products

abbrev pub mul64 : ℕ → ℕ → ℕ
mul64 a b = act2 wrap_mul (s_int w64) (s_int w64) (s_int w64) a b

abbrev pub div64 : ℕ → ℕ → ℕ
div64 a b = act2 (div unsigned) (s_int w64) (s_int w64) (s_int w64) a b

abbrev pub rem64 : ℕ → ℕ → ℕ
rem64 a b = act2 (rem unsigned) (s_int w64) (s_int w64) (s_int w64) a b

abbrev pub wide : ℕ → ℕ
wide a = act1 (cast unsigned unsigned w64) (s_int w32) (s_int w64) a

abbrev pub narrow : ℕ → ℕ
narrow a = act1 (cast unsigned unsigned w32) (s_int w64) (s_int w32) a

pub div-ok : (n : ℕ) (xs : List ℕ) → Each2 (Asks2 (div unsigned) (s_int w64) (s_int w64)) xs (replicate n 4194304)
div-ok zero [] = tt
div-ok zero (x ∷ xs) = tt
div-ok (suc n) [] = tt
div-ok (suc n) (x ∷ xs) = (search rules, div-ok n xs)

pub rem-ok : (n : ℕ) (xs : List ℕ) → Each2 (Asks2 (rem unsigned) (s_int w64) (s_int w64)) xs (replicate n 4294967296)
rem-ok zero [] = tt
rem-ok zero (x ∷ xs) = tt
rem-ok (suc n) [] = tt
rem-ok (suc n) (x ∷ xs) = (search rules, rem-ok n xs)

pub narrow-ok : (n : ℕ) (xs : List ℕ) → Each1 (Asks1 (cast unsigned unsigned w32) (s_int w64)) (zip2 rem64 xs (replicate n 4294967296))
narrow-ok zero [] = tt
narrow-ok zero (x ∷ xs) = tt
narrow-ok (suc n) [] = tt
narrow-ok (suc n) (x ∷ xs) = (search rules, narrow-ok n xs)

pub high-is : (n factor : ℕ) (xs : List ℕ) → length xs ≡ n
    → map narrow (zip2 rem64 (zip2 div64 (zip2 mul64 (map wide xs) (replicate n factor)) (replicate n 4194304)) (replicate n 4294967296)) ≡ high_row xs factor
high-is zero factor [] e = refl
high-is zero factor (x ∷ xs) e = absurd (omega arith)
high-is (suc n) factor [] e = absurd (omega arith)
high-is (suc n) factor (x ∷ xs) e = ap₂ (λ r s. r ∷ s) refl (high-is n factor xs (omega arith))
