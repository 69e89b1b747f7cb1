-- Lists with the same numbers: what is so of all of one is so of all of the other, they are as long, as many pass a
-- test, and where neither falls they are one list.
use Rattle.std.proofs.Common.{◌≡◌, ◌∙◌, ◌+◌, ◌<◌, ◌≤◌, ◌⊎◌, inl, inr, ◌++◌, ℕ, suc, Bool, true, false, cond, List, [], ◌∷◌, length, get_or, refl, sym, ap, ap₂, subst, arith}
use Rattle.std.specs.Prelude.{◌==◌}
use Rattle.std.specs.List.{All, filter, count_by}
use Rattle.std.specs.List.Sorted.{IsNonDecreasingBy}
use Rattle.std.proofs.lemmas.Bool.{eqb-true, ne_eqb, cases_order, cases_Bool, true≢false}
use Rattle.std.proofs.lemmas.Bool.Decides.{nat_tests}
use Rattle.std.proofs.lemmas.List.Elements.{All-head, All-tail, All-weaker, All-from_get_or, All-map, All-filter}
use Rattle.std.proofs.lemmas.List.Sums.{sum_by-cons, sum_by-append, get_or-le-sum_by, length-filter}
use Rattle.ray_tree.specs.Trees.{times}
use Rattle.ray_tree.proofs.Counting.{one, total-same, total-times}
use Rattle.ray_stated.specs.declared.entry.Entry.{Entry}
use Rattle.ray_stated.specs.Entries.{IsRising, items_in}

-- the same numbers, each as often
abbrev pub AreSame : List ℕ → List ℕ → Type 0
AreSame xs ys = (p : ℕ) → times p xs ≡ times p ys

itself : (p : ℕ) → one p p ≡ 1
itself p = grind (arith, nat_tests)

different : (p q : ℕ) → (q ≡ p → ⊥) → one p q ≡ 0
different p q ne = ap {B = ℕ} (λ b. cond b 1 0) (ne_eqb q p ne)

pub times-cons : (p q : ℕ) (qs : List ℕ) → times p (q ∷ qs) ≡ one p q + times p qs
times-cons p q qs = sum_by-cons (λ r. one p r) q qs

pub times-append : (p : ℕ) (xs ys : List ℕ) → times p (xs ++ ys) ≡ times p xs + times p ys
times-append p xs ys = sum_by-append (λ r. one p r) xs ys

pub times-some : (qs : List ℕ) (i : ℕ) → i < length qs → 0 < times (get_or qs i 0) qs
times-some qs i small =
    let p = get_or qs i 0 in
    let here : one p p ≤ times p qs = get_or-le-sum_by (λ r. one p r) qs i 0 small in
    omega (arith, here, itself p)

-- a number that stands somewhere has what holds of all
first_or : (b : Bool) (n : ℕ) → 0 < cond b 1 0 + n → (b ≡ true) ⊎ (0 < n)
first_or true n h = inl refl
first_or false n h = inr (omega arith)

pub holds_of : (P : ℕ → Type 0) (p : ℕ) (qs : List ℕ) → All P qs → 0 < times p qs → P p
holds_of P p [] h some = absurd (omega arith)
holds_of P p (q ∷ qs) h some = elim (first_or (q == p) (times p qs) (omega (arith, times-cons p q qs))) [
  | inl a ↦ subst P (eqb-true q p a) (All-head P q qs h)
  | inr b ↦ holds_of P p qs (All-tail P q qs h) b
]

-- each number of a list stands there
pub all_stand : (P : ℕ → Type 0) (qs : List ℕ) → ((p : ℕ) → 0 < times p qs → P p) → All P qs
all_stand P qs h = All-from_get_or P qs 0 (λ i small. h (get_or qs i 0) (times-some qs i small))

pub all_same : (P : ℕ → Type 0) (xs ys : List ℕ) → AreSame xs ys → All P ys → All P xs
all_same P xs ys same all = all_stand P xs (λ p some. holds_of P p ys all (omega (arith, same p)))

pub length_same : (n : ℕ) (xs ys : List ℕ) → AreSame xs ys → All (λ q. q < n) xs → All (λ q. q < n) ys → length xs ≡ length ys
length_same n xs ys same a b =
    sym (total-times n xs a) ∙ total-same n (λ p. times p xs) (λ p. times p ys) (λ p small. same p) ∙ total-times n ys b

-- a number that passes is kept as often as it stands, and one that doesn't is left out
pub times-kept : (test : ℕ → Bool) (p : ℕ) (qs : List ℕ) → test p ≡ true → times p (filter test qs) ≡ times p qs
times-kept test p [] passes = refl
times-kept test p (q ∷ qs) passes = by (times-kept test p qs passes) (test q) refl
  where
    by : times p (filter test qs) ≡ times p qs → (b : Bool) → test q ≡ b → times p (cond b (q ∷ filter test qs) (filter test qs)) ≡ times p (q ∷ qs)
    by rest true e = times-cons p q (filter test qs) ∙ ap (λ n. one p q + n) rest ∙ sym (times-cons p q qs)
    by rest false e =
        let ne : (q ≡ p → ⊥) = λ same. true≢false (sym passes ∙ ap test (sym same) ∙ e) in
        omega (arith, rest, times-cons p q qs, different p q ne)

pub times-left_out : (test : ℕ → Bool) (p : ℕ) (qs : List ℕ) → test p ≡ false → times p (filter test qs) ≡ 0
times-left_out test p [] fails = refl
times-left_out test p (q ∷ qs) fails = by (times-left_out test p qs fails) (test q) refl
  where
    by : times p (filter test qs) ≡ 0 → (b : Bool) → test q ≡ b → times p (cond b (q ∷ filter test qs) (filter test qs)) ≡ 0
    by rest true e =
        let ne : (q ≡ p → ⊥) = λ same. true≢false (sym e ∙ ap test same ∙ fails) in
        omega (arith, rest, times-cons p q (filter test qs), different p q ne)
    by rest false e = rest

pub filter_same : (test : ℕ → Bool) (xs ys : List ℕ) → AreSame xs ys → AreSame (filter test xs) (filter test ys)
filter_same test xs ys same p = elim (cases_Bool (test p)) [
  | inl a ↦ times-kept test p xs a ∙ same p ∙ sym (times-kept test p ys a)
  | inr b ↦ times-left_out test p xs b ∙ sym (times-left_out test p ys b)
]

pub count_same : (n : ℕ) (test : ℕ → Bool) (xs ys : List ℕ) → AreSame xs ys → All (λ q. q < n) xs → All (λ q. q < n) ys → count_by test xs ≡ count_by test ys
count_same n test xs ys same a b =
    sym (length-filter test xs)
    ∙ length_same n (filter test xs) (filter test ys) (filter_same test xs ys same) (All-filter test (λ q. q < n) xs a) (All-filter test (λ q. q < n) ys b)
    ∙ length-filter test ys

-- what is left of a list that never falls doesn't fall
pub rising-filter : (test : ℕ → Bool) (qs : List ℕ) → IsRising qs → IsRising (filter test qs)
rising-filter test [] up = tt
rising-filter test (q ∷ qs) up = by (rising-filter test qs up.1) (test q)
  where
    by : IsRising (filter test qs) → (b : Bool) → IsRising (cond b (q ∷ filter test qs) (filter test qs))
    by rest true = (All-filter test (λ y. q ≤ y) qs up.0, rest)
    by rest false = rest

-- a number below all of a list isn't in it
below_all : (p : ℕ) (qs : List ℕ) → All (λ y. p < y) qs → times p qs ≡ 0
below_all p [] all = refl
below_all p (q ∷ qs) all =
    let lt : p < q = All-head (λ y. p < y) q qs all in
    omega (arith, times-cons p q qs, different p q (λ e. omega arith), below_all p qs (All-tail (λ y. p < y) q qs all))

before_first : (x y : ℕ) (xs ys : List ℕ) → AreSame (x ∷ xs) (y ∷ ys) → IsRising (y ∷ ys) → x < y → ⊥
before_first x y xs ys same up lt =
    let none : times x ys ≡ 0 = below_all x ys (All-weaker (λ z. y ≤ z) (λ z. x < z) (λ z le. omega arith) ys up.0) in
    omega (arith, same x, times-cons x x xs, times-cons x y ys, itself x, different x y (λ e. omega arith), none)

pub rising_same : (xs ys : List ℕ) → IsRising xs → IsRising ys → AreSame xs ys → xs ≡ ys
rising_same [] [] a b same = refl
rising_same [] (y ∷ ys) a b same = absurd (let e = same y in omega (arith, e, times-cons y y ys, itself y))
rising_same (x ∷ xs) [] a b same = absurd (let e = same x in omega (arith, e, times-cons x x xs, itself x))
rising_same (x ∷ xs) (y ∷ ys) a b same = elim (cases_order x y) [
  | inl e ↦ (let rest : AreSame xs ys = λ p. omega (arith, same p, times-cons p x xs, times-cons p y ys, ap (one p) e) in
      ap₂ (λ (u : ℕ) (us : List ℕ). u ∷ us) e (rising_same xs ys a.1 b.1 rest))
  | inr c ↦ elim c [
    | inl lt ↦ absurd (before_first x y xs ys same b lt)
    | inr lt ↦ absurd (before_first y x ys xs (λ p. sym (same p)) a lt)
  ]
]

-- sorted entries have numbers that don't fall
pub rising_sorted : (es : List Entry) → IsNonDecreasingBy (λ e. e.item) es → IsRising (items_in es)
rising_sorted [] up = tt
rising_sorted (e ∷ es) up = (
  All-map (λ y. e.item ≤ y) (λ (x : Entry). x.item) es (λ k d lt. up 0 (suc k) d (omega arith) (omega arith)),
  rising_sorted es (λ i j d le lt. up (suc i) (suc j) d (omega arith) (omega arith)),
)
