-- Sums over all numbers below one, and that a list without repeats that is as long as there are active items
-- and has active ones alone has each of them once.
use Rattle.std.proofs.Common.{◌≡◌, ◌∙◌, ◌+◌, ◌-◌, ◌<◌, ◌≤◌, ℕ, zero, suc, ◌⊎◌, inl, inr, Bool, true, false, cond, Option, None, List, [], ◌∷◌, length, take, get_or, refl, sym, ap, subst, arith}
use Rattle.std.specs.Prelude.{is_some, ◌==◌}
use Rattle.std.specs.List.{All, count_by}
use Rattle.std.proofs.lemmas.Bool.Decides.{nat_tests}
use Rattle.std.proofs.lemmas.Bool.{eqb-true}
use Rattle.std.proofs.lemmas.List.Elements.{All-head, All-tail, All-weaker, All-from_get_or}
use Rattle.std.proofs.lemmas.List.Sums.{sum_by-cons, sum_by_more, get_or-le-sum_by}
use Rattle.std.proofs.lemmas.List.{take_all, get_or_past}
use Rattle.ray_geom.specs.Boxes.{BoxValue}
use Rattle.ray_tree.specs.Shapes.{inside}
use Rattle.ray_tree.specs.Trees.{times, active, active_of, item_box}
use Rattle.ray_tree.specs.Local.{IsActive, HasItems}

-- f 0 + .. + f (n - 1)
abbrev pub total : ℕ → (ℕ → ℕ) → ℕ
total zero f = 0
total (suc n) f = total n f + f n

pub total-none : (n : ℕ) → total n (λ p. 0) ≡ 0
total-none zero = refl
total-none (suc n) = omega (arith, total-none n)

pub total-sum : (n : ℕ) (f g : ℕ → ℕ) → total n (λ p. f p + g p) ≡ total n f + total n g
total-sum zero f g = refl
total-sum (suc n) f g = omega (arith, total-sum n f g)

pub total-same : (n : ℕ) (f g : ℕ → ℕ) → ((p : ℕ) → p < n → f p ≡ g p) → total n f ≡ total n g
total-same zero f g h = refl
total-same (suc n) f g h = omega (arith, total-same n f g (λ p small. h p (omega arith)), h n (omega arith))

pub total-most : (n : ℕ) (f g : ℕ → ℕ) → ((p : ℕ) → p < n → f p ≤ g p) → total n f ≤ total n g
total-most zero f g h = omega arith
total-most (suc n) f g h = omega (arith, total-most n f g (λ p small. h p (omega arith)), h n (omega arith))

apart_by : (d p n : ℕ) → n - p ≡ d → p < suc n → (p < n) ⊎ (p ≡ n)
apart_by zero p n e h = inr (omega arith)
apart_by (suc d) p n e h = inl (omega arith)

pub apart : (p n : ℕ) → p < suc n → (p < n) ⊎ (p ≡ n)
apart p n h = apart_by (n - p) p n refl h

-- two of which one is nowhere greater are the same where their sums are
pub total-equal : (n : ℕ) (f g : ℕ → ℕ) → ((p : ℕ) → p < n → f p ≤ g p) → total n f ≡ total n g → (p : ℕ) → p < n → f p ≡ g p
total-equal zero f g h e p small = absurd (omega arith)
total-equal (suc n) f g h e p small =
    let below : total n f ≤ total n g = total-most n f g (λ q lt. h q (omega arith)) in
    let last : f n ≤ g n = h n (omega arith) in
    elim (apart p n small) [
      | inl a ↦ total-equal n f g (λ q lt. h q (omega arith)) (omega (arith, e, below, last)) p a
      | inr b ↦ subst (λ r. f r ≡ g r) (sym b) (omega (arith, e, below, last))
    ]

-- numbers of a stretch
total-outside : (n from many : ℕ) → n ≤ from → total n (λ p. inside p from many) ≡ 0
total-outside zero from many h = refl
total-outside (suc n) from many h =
    let last : inside n from many ≡ 0 = grind (arith, nat_tests) in
    omega (arith, total-outside n from many (omega arith), last)

pub total-inside : (n from many : ℕ) → from + many ≤ n → total n (λ p. inside p from many) ≡ many
total-inside n from zero h = total-same n (λ p. inside p from 0) (λ p. 0) (λ p small. none p) ∙ total-none n
  where
    none : (p : ℕ) → inside p from 0 ≡ 0
    none p = grind (arith, nat_tests)
total-inside zero from (suc m) h = absurd (omega arith)
total-inside (suc n) from (suc m) h = elim (apart (from + m) n (omega arith)) [
  | inl a ↦ (let last : inside n from (suc m) ≡ 0 = grind (arith, nat_tests) in
      omega (arith, total-inside n from (suc m) (omega arith), last))
  | inr b ↦ (let last : inside n from (suc m) ≡ 1 = grind (arith, nat_tests) in
      omega (arith, total-same n (λ p. inside p from (suc m)) (λ p. inside p from m) (λ p small. short p (omega arith)), total-inside n from m (omega arith), last))
]
  where
    short : (p : ℕ) → p < from + m → inside p from (suc m) ≡ inside p from m
    short p small = grind (arith, nat_tests)

-- numbers of a list
abbrev pub one : ℕ → ℕ → ℕ
one p q = cond (q == p) 1 0

times-cons : (p q : ℕ) (qs : List ℕ) → times p (q ∷ qs) ≡ one p q + times p qs
times-cons p q qs = sum_by-cons (λ r. cond (r == p) 1 0) q qs

one-inside : (p q : ℕ) → one p q ≡ inside p q 1
one-inside p q = grind (arith, nat_tests)

pub total-times : (n : ℕ) (qs : List ℕ) → All (λ q. q < n) qs → total n (λ p. times p qs) ≡ length qs
total-times n [] h = total-none n
total-times n (q ∷ qs) h =
    let small : q < n = All-head (λ r. r < n) q qs h in
    total-same n (λ p. times p (q ∷ qs)) (λ p. inside p q 1 + times p qs) (λ p lt. times-cons p q qs ∙ ap (λ x. x + times p qs) (one-inside p q))
    ∙ total-sum n (λ p. inside p q 1) (λ p. times p qs)
    ∙ omega (arith, total-inside n q 1 (omega arith), total-times n qs (All-tail (λ r. r < n) q qs h))

-- active items
total-active_in : (items : List (Option BoxValue)) (n : ℕ) → n ≤ length items → total n (active items) ≡ count_by is_some (take n items)
total-active_in items zero h = refl
total-active_in items (suc n) h =
    let same : suc n ≡ n + 1 = omega arith in
    omega (arith, total-active_in items n (omega arith), sum_by_more (λ o. cond (is_some o) 1 0) items n None (omega arith), ap (λ k. count_by is_some (take k items)) same)

pub total-active : (items : List (Option BoxValue)) → total (length items) (active items) ≡ active_of items
total-active items = total-active_in items (length items) (omega arith) ∙ ap (count_by is_some) (take_all (length items) items (omega arith))

-- a number in a list stands there at least once
itself : (p : ℕ) → one p p ≡ 1
itself p = grind (arith, nat_tests)

times-some : (qs : List ℕ) (i : ℕ) → i < length qs → 0 < times (get_or qs i 0) qs
times-some qs i small =
    let p = get_or qs i 0 in
    let here : one p p ≤ times p qs = get_or-le-sum_by (λ r. one p r) qs i 0 small in
    omega (arith, here, itself p)

-- a number that stands somewhere has what holds of all
holds-times : (P : ℕ → Type 0) (p : ℕ) (qs : List ℕ) → All P qs → 0 < times p qs → P p
holds-times P p [] h some = absurd (omega arith)
holds-times P p (q ∷ qs) h some = elim (first_or (q == p) (times p qs) (omega (arith, times-cons p q qs))) [
  | inl a ↦ subst P (eqb-true q p a) (All-head P q qs h)
  | inr b ↦ holds-times P p qs (All-tail P q qs h) b
]
  where
    first_or : (b : Bool) (n : ℕ) → 0 < cond b 1 0 + n → (b ≡ true) ⊎ (0 < n)
    first_or true n h = inl refl
    first_or false n h = inr (omega arith)

pub either : (a b : ℕ) → (a < b) ⊎ (b ≤ a)
either a b = by (b - a) a b refl
  where
    by : (d x y : ℕ) → y - x ≡ d → (x < y) ⊎ (y ≤ x)
    by zero x y e = inr (omega arith)
    by (suc d) x y e = inl (omega arith)

past : (items : List (Option BoxValue)) (p : ℕ) → length items ≤ p → active items p ≡ 0
past items p le = ap (λ o. cond (is_some o) 1 0) (get_or_past items p None le)

-- active items have numbers below their count
pub active-below : (items : List (Option BoxValue)) (p : ℕ) → IsActive items p → p < length items
active-below items p h = elim (either p (length items)) [ inl a ↦ a | inr b ↦ absurd (omega (arith, h, past items p b)) ]

pub at_most_active : (items : List (Option BoxValue)) (p : ℕ) → active items p ≤ 1
at_most_active items p = below_one (is_some (item_box items p))
  where
    below_one : (b : Bool) → cond b 1 0 ≤ 1
    below_one true = omega arith
    below_one false = omega arith

below_all : (items : List (Option BoxValue)) (qs : List ℕ) → All (IsActive items) qs → All (λ q. q < length items) qs
below_all items qs h = All-weaker (IsActive items) (λ q. q < length items) (λ q a. active-below items q a) qs h

-- each active item stands there once, and nothing else: so the list has active ones alone, as many as there are
pub has_items : (order : List ℕ) (items : List (Option BoxValue)) → ((p : ℕ) → times p order ≡ active items p) → HasItems order items
has_items order items once =
    let each : All (IsActive items) order = All-from_get_or (IsActive items) order 0 (λ i small.
    let p = get_or order i 0 in omega (arith, times-some order i small, once p, at_most_active items p)) in
    record {
      many = sym (total-times (length items) order (below_all items order each))
          ∙ total-same (length items) (λ p. times p order) (active items) (λ p small. once p)
          ∙ total-active items;
      each = each;
    }

pub items_once : (order : List ℕ) (items : List (Option BoxValue)) → ((p : ℕ) → times p order ≤ 1) → HasItems order items → (p : ℕ) → times p order ≡ active items p
items_once order items most has p = elim (either p (length items)) [
  | inl a ↦ total-equal (length items) (λ q. times q order) (active items) (λ q small. within q)
      (total-times (length items) order (below_all items order has.each) ∙ has.many ∙ sym (total-active items)) p a
  | inr b ↦ omega (arith, within p, past items p b)
]
  where
    within : (q : ℕ) → times q order ≤ active items q
    within q = elim (either 0 (times q order)) [
      | inl a ↦ omega (arith, most q, holds-times (IsActive items) q order has.each a)
      | inr b ↦ omega arith
    ]
