-- The active items in rising number.
use Rattle.std.proofs.Common.{◌≡◌, ◌∙◌, ◌+◌, ◌<◌, ◌≤◌, ◌⊎◌, inl, inr, ◌++◌, ℕ, zero, suc, Bool, true, false, cond, Option, List, [], ◌∷◌, length, refl, sym, ap, subst, arith, length-append}
use Rattle.std.specs.Prelude.{is_some}
use Rattle.std.specs.List.{All}
use Rattle.std.proofs.lemmas.Bool.Decides.{nat_tests}
use Rattle.std.proofs.lemmas.List.Elements.{All-nil, All-cons, All-append, All-head, All-tail, All-weaker}
use Rattle.std.proofs.lemmas.List.Sums.{sum_by-append}
use Rattle.ray_geom.specs.Boxes.{BoxValue}
use Rattle.ray_tree.specs.Trees.{active, times, item_box}
use Rattle.ray_tree.specs.Local.{IsActive}
use Rattle.ray_tree.proofs.Counting.{one, either}
use Rattle.ray_stated.specs.Order.{actives}
use Rattle.ray_stated.specs.Entries.{IsRising}

pub actives_zero : (items : List (Option BoxValue)) → actives items zero ≡ []
unfolding actives
actives_zero items = refl

-- the item of a number, if it is active
abbrev pub if_active : Bool → ℕ → List ℕ
if_active b n = cond b (n ∷ []) []

pub actives_suc : (items : List (Option BoxValue)) (n : ℕ) → actives items (suc n) ≡ actives items n ++ if_active (is_some (item_box items n)) n
unfolding actives
actives_suc items n = refl

pub actives_more : (items : List (Option BoxValue)) (n : ℕ) → actives items (n + 1) ≡ actives items n ++ if_active (is_some (item_box items n)) n
actives_more items n = let same : n + 1 ≡ suc n = omega arith in ap (actives items) same ∙ actives_suc items n

-- a fact of each active item below a number
all_if : (P : ℕ → Type 0) (b : Bool) (n : ℕ) → (b ≡ true → P n) → All P (if_active b n)
all_if P true n h = All-cons P n [] (h refl) (All-nil P)
all_if P false n h = All-nil P

pub actives-all : (items : List (Option BoxValue)) (P : ℕ → Type 0) (n : ℕ) → ((p : ℕ) → p < n → is_some (item_box items p) ≡ true → P p) → All P (actives items n)
actives-all items P zero h = subst (All P) (sym (actives_zero items)) (All-nil P)
actives-all items P (suc n) h =
    subst (All P) (sym (actives_suc items n))
    (All-append P (actives items n) (if_active (is_some (item_box items n)) n)
    (actives-all items P n (λ p lt. h p (omega arith))) (all_if P (is_some (item_box items n)) n (h n (omega arith))))

pub actives-below : (items : List (Option BoxValue)) (n : ℕ) → All (λ p. p < n) (actives items n)
actives-below items n = actives-all items (λ p. p < n) n (λ p lt some. lt)

pub actives-active : (items : List (Option BoxValue)) (n : ℕ) → All (IsActive items) (actives items n)
actives-active items n = actives-all items (IsActive items) n (λ p lt some. ap {B = ℕ} (λ b. cond b 1 0) some)

-- they rise
rising-append : (xs ys : List ℕ) → IsRising xs → IsRising ys → All (λ x. All (λ y. x ≤ y) ys) xs → IsRising (xs ++ ys)
rising-append [] ys a b h = b
rising-append (x ∷ xs) ys a b h =
    let P : ℕ → Type 0 = λ u. All (λ y. u ≤ y) ys in (
      All-append (λ y. x ≤ y) xs ys a.0 (All-head P x xs h),
      rising-append xs ys a.1 b (All-tail P x xs h),
    )

rising-if : (b : Bool) (n : ℕ) → IsRising (if_active b n)
rising-if true n = (All-nil (λ y. n ≤ y), tt)
rising-if false n = tt

before-if : (b : Bool) (n x : ℕ) → x < n → All (λ y. x ≤ y) (if_active b n)
before-if b n x lt = all_if (λ y. x ≤ y) b n (λ e. omega arith)

pub actives-rise : (items : List (Option BoxValue)) (n : ℕ) → IsRising (actives items n)
actives-rise items zero = subst IsRising (sym (actives_zero items)) tt
actives-rise items (suc n) =
    let b = is_some (item_box items n) in
    subst IsRising (sym (actives_suc items n))
    (rising-append (actives items n) (if_active b n) (actives-rise items n) (rising-if b n)
    (All-weaker (λ x. x < n) (λ x. All (λ y. x ≤ y) (if_active b n)) (λ x lt. before-if b n x lt) (actives items n) (actives-below items n)))

-- there are at most so many
few-if : (b : Bool) (n : ℕ) → length (if_active b n) ≤ 1
few-if true n = omega arith
few-if false n = omega arith

pub actives-few : (items : List (Option BoxValue)) (n : ℕ) → length (actives items n) ≤ n
actives-few items zero = omega (arith, ap length (actives_zero items))
actives-few items (suc n) =
    omega (
      arith,
      ap length (actives_suc items n),
      length-append (actives items n) (if_active (is_some (item_box items n)) n),
      few-if (is_some (item_box items n)) n,
      actives-few items n,
    )

-- each stands once
itself : (p : ℕ) → one p p ≡ 1
itself p = grind (arith, nat_tests)

differ : (p n : ℕ) → (p < n) ⊎ (n < p) → one p n ≡ 0
differ p n (inl a) = grind (arith, nat_tests)
differ p n (inr b) = grind (arith, nat_tests)

times-if : (b : Bool) (n : ℕ) → times n (if_active b n) ≡ cond b 1 0
times-if true n = omega (arith, itself n)
times-if false n = refl

others-if : (b : Bool) (p n : ℕ) → (p < n) ⊎ (n < p) → times p (if_active b n) ≡ 0
others-if true p n h = omega (arith, differ p n h)
others-if false p n h = refl

times-suc : (items : List (Option BoxValue)) (n p : ℕ) → times p (actives items (suc n)) ≡ times p (actives items n) + times p (if_active (is_some (item_box items n)) n)
times-suc items n p =
    ap (times p) (actives_suc items n) ∙ sum_by-append (λ q. one p q) (actives items n) (if_active (is_some (item_box items n)) n)

pub times-past : (items : List (Option BoxValue)) (n p : ℕ) → n ≤ p → times p (actives items n) ≡ 0
times-past items zero p le = ap (times p) (actives_zero items)
times-past items (suc n) p le =
    omega (arith, times-suc items n p, times-past items n p (omega arith), others-if (is_some (item_box items n)) p n (inr (omega arith)))

pub times-actives : (items : List (Option BoxValue)) (n p : ℕ) → p < n → times p (actives items n) ≡ active items p
times-actives items zero p lt = absurd (omega arith)
times-actives items (suc n) p lt = elim (either p n) [
  | inl a ↦ omega (arith, times-suc items n p, times-actives items n p a, others-if (is_some (item_box items n)) p n (inl a))
  | inr b ↦ (let same : p ≡ n = omega arith in
      subst (λ q. times q (actives items (suc n)) ≡ active items q) (sym same)
      (omega (arith, times-suc items n n, times-past items n n (omega arith), times-if (is_some (item_box items n)) n)))
]
