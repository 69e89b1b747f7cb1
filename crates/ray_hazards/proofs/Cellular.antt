-- Ranges meet exactly where they have a cell in common.
use Rattle.std.proofs.Common.{◌≡◌, ◌<◌, ◌≤◌, ◌+◌, ◌||◌, ◌==◌, ℕ, zero, suc, max, if◌then◌else◌, length, get_or, Bool, true, false, nat_lt, List, [], ◌∷◌, inl, inr, arith}
use Rattle.std.specs.List.{list_any}
use Rattle.std.proofs.lemmas.Bool.{cases_Bool, ltb-true}
use Rattle.std.proofs.lemmas.Bool.Decides.{nat_tests}
use Rattle.ray_ranges.specs.declared.range.Range.{Range}
use Rattle.ray_ranges.specs.Meeting.{meets}
use Rattle.ray_hazards.specs.Cells.{cell_of, has_cell, is_start}

-- a Boolean's number, added
parted-none : (b : Bool) (q : ℕ) → b ≡ false → 0 ≡ q → 0 ≡ (if b then 1 else 0) + q
parted-none true q f e = absurd cc
parted-none false q f e = omega arith

parted-one : (b : Bool) (i q : ℕ) → b ≡ true → i ≡ q → suc i ≡ (if b then 1 else 0) + q
parted-one true i q t e = omega arith
parted-one false i q t e = absurd cc

-- one start more
step-le :
    (s x y p q : ℕ) → x ≤ y → p ≤ q → (if nat_lt s x then 1 else 0) + p ≤ (if nat_lt s y then 1 else 0) + q
step-le s x y p q e f = grind (arith, nat_tests)

step-lt :
    (s x y p q : ℕ) → x ≤ y → p < q → (if nat_lt s x then 1 else 0) + p < (if nat_lt s y then 1 else 0) + q
step-lt s x y p q e f = grind (arith, nat_tests)

step-at :
    (s x y p q : ℕ) → (s == x) ≡ true → x < y → p ≤ q
    → (if nat_lt s x then 1 else 0) + p < (if nat_lt s y then 1 else 0) + q
step-at s x y p q t e f = grind (arith, nat_tests)

-- the cells of numbers rise as the numbers do
pub cell-le : (starts : List ℕ) (x y : ℕ) → x ≤ y → cell_of starts x ≤ cell_of starts y
unfolding cell_of
cell-le [] x y e = omega arith
cell-le (s ∷ starts) x y e = step-le s x y (cell_of starts x) (cell_of starts y) e (cell-le starts x y e)

-- above a start is a later cell
pub cell-lt : (starts : List ℕ) (x y : ℕ) → is_start starts x ≡ true → x < y → cell_of starts x < cell_of starts y
unfolding cell_of
cell-lt [] x y there e = absurd cc
cell-lt (s ∷ starts) x y there e =
    elim (cases_Bool (s == x)) [
      | inl t ↦ step-at s x y (cell_of starts x) (cell_of starts y) t e (cell-le starts x y (omega arith))
      | inr f ↦
          step-lt s x y (cell_of starts x) (cell_of starts y) (omega arith)
          (cell-lt starts x y (later (s == x) (list_any (λ i. i == x) starts) f there) e)
    ]
  where
    later : (a b : Bool) → a ≡ false → (a || b) ≡ true → b ≡ true
    later true b f t = absurd cc
    later false b f t = t

-- the cell is where a list is parted at a number
pub cell-parted :
    (starts : List ℕ) (x i : ℕ) → i ≤ length starts
    → ((k d : ℕ) → k < i → nat_lt (get_or starts k d) x ≡ true)
    → ((k d : ℕ) → i ≤ k → k < length starts → nat_lt (get_or starts k d) x ≡ false)
    → i ≡ cell_of starts x
unfolding cell_of
cell-parted [] x i e below from = omega (arith, e)
cell-parted (s ∷ starts) x zero e below from =
    let here : nat_lt s x ≡ false = from 0 0 (omega arith) (omega arith) in
    let rest : 0 ≡ cell_of starts x =
    cell-parted starts x 0 (omega arith) (λ k d l. absurd (omega (arith, l)))
    (λ k d f l. from (suc k) d (omega arith) (omega (arith, l)))
    in
    parted-none (nat_lt s x) (cell_of starts x) here rest
cell-parted (s ∷ starts) x (suc i) e below from =
    let here : nat_lt s x ≡ true = below 0 0 (omega arith) in
    let rest : i ≡ cell_of starts x =
    cell-parted starts x i (omega (arith, e)) (λ k d l. below (suc k) d (omega (arith, l)))
    (λ k d f l. from (suc k) d (omega (arith, f)) (omega (arith, l)))
    in
    parted-one (nat_lt s x) i (cell_of starts x) here rest

-- ranges that meet have a cell in common, where both begin at starts
pub meet-share :
    (starts : List ℕ) (r s : Range) → is_start starts r.from ≡ true → is_start starts s.from ≡ true
    → meets r s ≡ true → (c : ℕ) × (has_cell starts r c ≡ true) × (has_cell starts s c ≡ true)
meet-share starts r s first second meet =
    let a : r.from < s.end = grind (arith, nat_tests) in
    let b : s.from < r.end = grind (arith, nat_tests) in
    let d : r.from < r.end = grind (arith, nat_tests) in
    let e : s.from < s.end = grind (arith, nat_tests) in
    let ca = cell-lt starts r.from s.end first a in
    let cb = cell-lt starts s.from r.end second b in
    let cd = cell-lt starts r.from r.end first d in
    let ce = cell-lt starts s.from s.end second e in
    (max (cell_of starts r.from) (cell_of starts s.from), grind (arith, nat_tests), grind (arith, nat_tests))

-- a number is below another where no cell tells otherwise
below-by : (starts : List ℕ) (x y : ℕ) → cell_of starts x < cell_of starts y → x < y
below-by starts x y less =
    elim (cases_Bool (nat_lt x y)) [
      | inl t ↦ ltb-true x y t
      | inr f ↦
          let back : y ≤ x = grind (arith, nat_tests) in
          let q = cell-le starts y x back in
          absurd (omega arith)
    ]

-- ranges that have a cell in common meet
pub share-meet :
    (starts : List ℕ) (r s : Range) (c : ℕ) → has_cell starts r c ≡ true → has_cell starts s c ≡ true
    → meets r s ≡ true
share-meet starts r s c first second =
    let a = below-by starts r.from s.end (grind (arith, nat_tests)) in
    let b = below-by starts s.from r.end (grind (arith, nat_tests)) in
    let d = below-by starts r.from r.end (grind (arith, nat_tests)) in
    let e = below-by starts s.from s.end (grind (arith, nat_tests)) in
    grind (arith, nat_tests)
