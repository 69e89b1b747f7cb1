-- What a compare of lanes gives, and what the mask of one axis is.
use Rattle.std.proofs.Common.{◌≡◌, ◌∙◌, ℕ, zero, suc, ℤ, Bool, true, false, cond, ◌&&◌, List, [], ◌∷◌, map, length, replicate, refl, ap₂, arith, to_z, of_z, FitsSigned, to_z-of_z, w32}
use Rattle.std.specs.Prelude.{int_le}
use lib.Lanes.{zip2}
use mir.Syntax.{bit_and, mask, le, signed}
use borrow.Table.Row.{s_int}
use borrow.Rule.Simd.Lanes.{act2}
use Rattle.ray_lanes.specs.Masks.{AreInt32, axis_tests, lane_of, mask_of}

-- the compare and the conjunction of two lanes, on their bits
abbrev pub le32 : ℕ → ℕ → ℕ
le32 a b = act2 (mask (le signed)) (s_int w32) (s_int w32) (s_int w32) a b

abbrev pub and32 : ℕ → ℕ → ℕ
and32 a b = act2 bit_and (s_int w32) (s_int w32) (s_int w32) a b

-- numbers that fit are what their bits say
pub held : (xs : List ℤ) → AreInt32 xs → map (to_z w32) (map (of_z w32) xs) ≡ xs
held [] fit = refl
held (x ∷ xs) fit = ap₂ (λ a b. a ∷ b) (to_z-of_z fit.0) (held xs fit.1)

compared : (a b : ℤ) → FitsSigned w32 a → FitsSigned w32 b → le32 (of_z w32 a) (of_z w32 b) ≡ cond (int_le a b) 4294967295 0
compared a b f g = λ i. cond (int_le (to_z-of_z f i) (to_z-of_z g i)) 4294967295 0

joined : (p q : Bool) → to_z w32 (and32 (cond p 4294967295 0) (cond q 4294967295 0)) ≡ lane_of (p && q)
joined true true = refl
joined true false = refl
joined false true = refl
joined false false = refl

-- the mask of one axis: below n boxes, at most the window's end and at least its beginning
pub axis_mask : (from to : ℤ) → FitsSigned w32 from → FitsSigned w32 to → (n : ℕ) (lo hi : List ℤ) → length lo ≡ n → length hi ≡ n → AreInt32 lo → AreInt32 hi
    → map (to_z w32) (zip2 and32 (zip2 le32 (map (of_z w32) lo) (replicate n (of_z w32 to))) (zip2 le32 (replicate n (of_z w32 from)) (map (of_z w32) hi)))
    ≡ mask_of (axis_tests from to lo hi)
axis_mask from to f g zero [] hi a b p q = refl
axis_mask from to f g zero (x ∷ xs) hi a b p q = absurd (omega arith)
axis_mask from to f g (suc n) [] hi a b p q = absurd (omega arith)
axis_mask from to f g (suc n) (x ∷ xs) [] a b p q = absurd (omega arith)
axis_mask from to f g (suc n) (x ∷ xs) (y ∷ ys) a b p q =
    ap₂ (λ r s. r ∷ s)
    ((λ i. to_z w32 (and32 (compared x to p.0 g i) (compared from y f q.0 i))) ∙ joined (int_le x to) (int_le from y))
    (axis_mask from to f g n xs ys (omega arith) (omega arith) p.1 q.1)
