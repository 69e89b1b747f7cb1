-- Entries that are cut in two are the two halves of the items in the order of the stated tree.
use Rattle.std.proofs.Common.{◌≡◌, ◌∙◌, ◌+◌, ◌*◌, ◌^◌, ◌<◌, ◌≤◌, inl, inr, ◌++◌, ℕ, zero, suc, Bool, true, false, cond, Option, List, [], ◌∷◌, length, get_or, refl, sym, ap, subst, arith}
use Rattle.std.specs.Prelude.{nat_lt, nat_le, ◌&&◌}
use Rattle.std.specs.List.{All, filter, count_by}
use Rattle.std.proofs.lemmas.Bool.{lt-ltb, le-ltb, le-leb, lt-leb, cond_both, cases_Bool, true≢false}
use Rattle.std.proofs.lemmas.List.Elements.{All-nil, All-cons, All-head, All-tail, All-weaker, All-map}
use Rattle.std.proofs.lemmas.List.Sums.{sum_by-cons, sum_by-append, count_by-le-length}
use Rattle.ray_geom.specs.Boxes.{BoxValue}
use Rattle.ray_tree.specs.Trees.{times}
use Rattle.ray_tree.specs.Local.{IsActive}
use Rattle.ray_tree.proofs.Counting.{active-below, either}
use Rattle.ray_stated.specs.declared.entry.Entry.{Entry}
use Rattle.ray_stated.specs.Order.{sum_of, greatest, least, width, widest, axis_of, key, rank, half}
use Rattle.ray_stated.specs.Entries.{entry_at, entry_sum, items_in, AreOf}
use Rattle.ray_stated.proofs.Extremes.{greatest-all, greatest-most, least-all, least-least, least-low}
use Rattle.ray_stated.proofs.Numbers.{AreSame, times-append, holds_of, all_stand, all_same, times-kept, times-left_out, count_same}

-- a list that has a number that fails has fewer that pass than numbers
count-cons : (test : ℕ → Bool) (q : ℕ) (qs : List ℕ) → count_by test (q ∷ qs) ≡ cond (test q) 1 0 + count_by test qs
count-cons test q qs = sum_by-cons (λ r. cond (test r) 1 0) q qs

at_most_one : (b : Bool) → cond b 1 0 ≤ 1
at_most_one true = omega arith
at_most_one false = omega arith

-- none passes, all do, or one doesn't
pub count_none : (test : ℕ → Bool) (qs : List ℕ) → All (λ q. test q ≡ false) qs → count_by test qs ≡ 0
count_none test [] all = refl
count_none test (q ∷ qs) all =
    let fails : test q ≡ false = All-head (λ r. test r ≡ false) q qs all in
    omega (arith, count-cons test q qs, ap {B = ℕ} (λ b. cond b 1 0) fails, count_none test qs (All-tail (λ r. test r ≡ false) q qs all))

pub count_all : (test : ℕ → Bool) (qs : List ℕ) → All (λ q. test q ≡ true) qs → count_by test qs ≡ length qs
count_all test [] all = refl
count_all test (q ∷ qs) all =
    let passes : test q ≡ true = All-head (λ r. test r ≡ true) q qs all in
    omega (arith, count-cons test q qs, ap {B = ℕ} (λ b. cond b 1 0) passes, count_all test qs (All-tail (λ r. test r ≡ true) q qs all))

pub count_fewer : (test : ℕ → Bool) (p : ℕ) (qs : List ℕ) → test p ≡ false → 0 < times p qs → count_by test qs < length qs
count_fewer test p qs fails some = elim (either (count_by test qs) (length qs)) [
  | inl lt ↦ lt
  | inr le ↦ absurd (true≢false (sym (holds_of (λ q. test q ≡ true) p qs (full qs le) some) ∙ fails))
]
  where
    full : (l : List ℕ) → length l ≤ count_by test l → All (λ q. test q ≡ true) l
    full [] le = All-nil (λ q. test q ≡ true)
    full (x ∷ xs) le = elim (cases_Bool (test x)) [
      | inl a ↦ All-cons (λ q. test q ≡ true) x xs a (full xs (omega (arith, count-cons test x xs, at_most_one (test x))))
      | inr b ↦ absurd (omega (arith, count-cons test x xs, ap {B = ℕ} (λ t. cond t 1 0) b, count_by-le-length test xs))
    ]

-- the sums of entries are those of their items
pub sums_same : (items : List (Option BoxValue)) (axis : ℕ) (e : Entry) → axis < 3 → e ≡ entry_at items e.item → entry_sum axis e ≡ sum_of items axis e.item
sums_same items zero e lt is = ap (entry_sum 0) is
sums_same items (suc zero) e lt is = ap (entry_sum 1) is
sums_same items (suc (suc zero)) e lt is = ap (entry_sum 2) is
sums_same items (suc (suc (suc n))) e lt is = absurd (omega arith)

-- what is so of each entry's sum is so of each item's, and the other way round
pub to_items : (P : ℕ → Type 0) (items : List (Option BoxValue)) (axis : ℕ) (es : List Entry) → axis < 3 → AreOf items es
    → All (λ e. P (entry_sum axis e)) es → All (λ p. P (sum_of items axis p)) (items_in es)
to_items P items axis es lt of all =
    All-map (λ p. P (sum_of items axis p)) (λ (e : Entry). e.item) es (λ k d low. subst P (sums_same items axis (get_or es k d) lt (of k d low)) (all k d low))

from_items : (P : ℕ → Type 0) (items : List (Option BoxValue)) (axis : ℕ) (es : List Entry) → axis < 3 → AreOf items es
    → All (λ p. P (sum_of items axis p)) (items_in es) → All (λ e. P (entry_sum axis e)) es
from_items P items axis [] lt of all = All-nil (λ e. P (entry_sum axis e))
from_items P items axis (e ∷ es) lt of all =
    All-cons (λ x. P (entry_sum axis x)) e es
    (subst P (sym (sums_same items axis e lt (All-head (λ x. x ≡ entry_at items x.item) e es of))) (All-head (λ p. P (sum_of items axis p)) e.item (items_in es) all))
    (from_items P items axis es lt (All-tail (λ x. x ≡ entry_at items x.item) e es of) (All-tail (λ p. P (sum_of items axis p)) e.item (items_in es) all))

-- so they are as far apart
width_same : (items : List (Option BoxValue)) (axis : ℕ) (es : List Entry) (ns : List ℕ) → axis < 3 → AreOf items es → AreSame ns (items_in es)
    → width (entry_sum axis) es ≡ width (sum_of items axis) ns
width_same items axis es ns lt of same =
    let ms = items_in es in
    let f = entry_sum axis in
    let g = sum_of items axis in
    let top : greatest g ns ≤ greatest f es =
    greatest-most g (greatest f es) ns (all_same (λ p. g p ≤ greatest f es) ns ms same (to_items (λ n. n ≤ greatest f es) items axis es lt of (greatest-all f es))) in
    let top_back : greatest f es ≤ greatest g ns =
    greatest-most f (greatest g ns) es (from_items (λ n. n ≤ greatest g ns) items axis es lt of
    (all_same (λ p. g p ≤ greatest g ns) ms ns (λ p. sym (same p)) (greatest-all g ns))) in
    let low : least f es ≤ least g ns =
    least-least g (least f es) ns (least-low f es) (all_same (λ p. least f es ≤ g p) ns ms same (to_items (λ n. least f es ≤ n) items axis es lt of (least-all f es))) in
    let low_back : least g ns ≤ least f es =
    least-least f (least g ns) es (least-low g ns) (from_items (λ n. least g ns ≤ n) items axis es lt of
    (all_same (λ p. least g ns ≤ g p) ms ns (λ p. sym (same p)) (least-all g ns))) in
    omega (arith, top, top_back, low, low_back)

pub axis_same : (items : List (Option BoxValue)) (es : List Entry) (ns : List ℕ) → AreOf items es → AreSame ns (items_in es)
    → widest (width (entry_sum 0) es) (width (entry_sum 1) es) (width (entry_sum 2) es) ≡ axis_of items ns
axis_same items es ns of same =
    let x = width_same items 0 es ns (omega arith) of same in
    let y = width_same items 1 es ns (omega arith) of same in
    let z = width_same items 2 es ns (omega arith) of same in
    λ i. widest (x i) (y i) (z i)

-- the axis is one of three
pub widest-few : (x y z : ℕ) → widest x y z < 3
widest-few x y z =
    cond_both (nat_le y x && nat_le z x) 0 (cond (nat_le z y) 1 2) (λ n. n < 3) (λ e. omega arith)
    (λ e. cond_both (nat_le z y) 1 2 (λ n. n < 3) (λ a. omega arith) (λ b. omega arith))

-- keys of different items differ
keys_apart : (s t q p : ℕ) → q < 2 ^ 20 → p < 2 ^ 20 → (q ≡ p → ⊥) → s * 2 ^ 20 + q ≤ t * 2 ^ 20 + p → s * 2 ^ 20 + q < t * 2 ^ 20 + p
keys_apart s t q p small low ne le = elim (either (s * 2 ^ 20 + q) (t * 2 ^ 20 + p)) [
  | inl lt ↦ lt
  | inr back ↦ absurd (ne (omega arith))
]

-- items in any order are two lists, none of the first behind one of the second
pub record AreHalved (items : List (Option BoxValue)) (axis : ℕ) (ns xs ys : List ℕ) : Type 0 where
  pub same : AreSame ns (xs ++ ys)
  pub once : (p : ℕ) → times p ns ≤ 1
  pub active : All (IsActive items) (xs ++ ys)
  pub low : All (λ p. p < 2 ^ 20) (xs ++ ys)
  pub apart : All (λ x. All (λ y. key items axis x ≤ key items axis y) ys) xs
  pub long : half (length ns) ≡ length xs

module _ (items : List (Option BoxValue)) (axis : ℕ) (ns xs ys : List ℕ) (h : AreHalved items axis ns xs ys) where
  both : (p : ℕ) → times p ns ≡ times p xs + times p ys
  both p = h.same p ∙ times-append p xs ys

  stands : (p : ℕ) → 0 < times p xs + times p ys → p < 2 ^ 20
  stands p some = holds_of (λ q. q < 2 ^ 20) p (xs ++ ys) h.low (omega (arith, times-append p xs ys, some))

  below : (l : List ℕ) → All (IsActive items) l → All (λ q. q < length items) l
  below l all = All-weaker (IsActive items) (λ q. q < length items) (λ q a. active-below items q a) l all

  -- what passes a test does so in one list or the other
  counted : (test : ℕ → Bool) → count_by test ns ≡ count_by test xs + count_by test ys
  counted test =
      count_same (length items) test ns (xs ++ ys) h.same (below ns (all_same (IsActive items) ns (xs ++ ys) h.same h.active)) (below (xs ++ ys) h.active)
      ∙ sum_by-append (λ q. cond (test q) 1 0) xs ys

  rank_left : (p : ℕ) → 0 < times p xs → rank items axis ns p < length xs
  rank_left p some =
      let test : ℕ → Bool = λ q. nat_lt (key items axis q) (key items axis p) in
      let after : All (λ y. key items axis p ≤ key items axis y) ys = holds_of (λ x. All (λ y. key items axis x ≤ key items axis y) ys) p xs h.apart some in
      let none : count_by test ys ≡ 0 =
      count_none test ys (All-weaker (λ y. key items axis p ≤ key items axis y) (λ y. test y ≡ false) (λ y le. le-ltb (key items axis y) (key items axis p) le) ys after) in
      let fewer : count_by test xs < length xs = count_fewer test p xs (le-ltb (key items axis p) (key items axis p) (omega arith)) some in
      omega (arith, counted test, none, fewer)

  rank_right : (p : ℕ) → 0 < times p ys → length xs ≤ rank items axis ns p
  rank_right p some =
      let test : ℕ → Bool = λ q. nat_lt (key items axis q) (key items axis p) in
      let all : count_by test xs ≡ length xs = count_all test xs (all_stand (λ q. test q ≡ true) xs (λ q there. lt-ltb (key items axis q) (key items axis p) (before q there))) in
      omega (arith, counted test, all)
    where
      before : (q : ℕ) → 0 < times q xs → key items axis q < key items axis p
      before q there =
          let after : All (λ y. key items axis q ≤ key items axis y) ys = holds_of (λ x. All (λ y. key items axis x ≤ key items axis y) ys) q xs h.apart there in
          let le : key items axis q ≤ key items axis p = holds_of (λ y. key items axis q ≤ key items axis y) p ys after some in
          let ne : (q ≡ p → ⊥) = λ e. absurd (let twice : 0 < times p xs = subst (λ n. 0 < times n xs) e there in omega (arith, h.once p, both p, twice, some)) in
          keys_apart (sum_of items axis q) (sum_of items axis p) q p (stands q (omega (arith, there))) (stands p (omega (arith, some))) ne le

  -- a filter that passes what is in one list and not what is in the other leaves that list's numbers
  left_of : (test : ℕ → Bool) (us vs : List ℕ) → ((p : ℕ) → times p ns ≡ times p us + times p vs) → ((p : ℕ) → 0 < times p us → test p ≡ true)
      → ((p : ℕ) → 0 < times p vs → test p ≡ false) → AreSame (filter test ns) us
  left_of test us vs sum passes fails p = elim (either 0 (times p us)) [
    | inl some ↦ omega (arith, times-kept test p ns (passes p some), sum p, h.once p, some)
    | inr none ↦ elim (either 0 (times p vs)) [
      | inl some ↦ omega (arith, times-left_out test p ns (fails p some), none)
      | inr neither ↦ elim (cases_Bool (test p)) [
        | inl a ↦ omega (arith, times-kept test p ns a, sum p, none, neither)
        | inr b ↦ omega (arith, times-left_out test p ns b, none)
      ]
    ]
  ]

  pub firsts : AreSame (filter (λ p. nat_lt (rank items axis ns p) (half (length ns))) ns) xs
  firsts =
      left_of (λ p. nat_lt (rank items axis ns p) (half (length ns))) xs ys both
      (λ p some. lt-ltb (rank items axis ns p) (half (length ns)) (omega (arith, rank_left p some, h.long)))
      (λ p some. le-ltb (rank items axis ns p) (half (length ns)) (omega (arith, rank_right p some, h.long)))

  pub others : AreSame (filter (λ p. nat_le (half (length ns)) (rank items axis ns p)) ns) ys
  others =
      left_of (λ p. nat_le (half (length ns)) (rank items axis ns p)) ys xs (λ p. omega (arith, both p))
      (λ p some. le-leb (half (length ns)) (rank items axis ns p) (omega (arith, rank_right p some, h.long)))
      (λ p some. lt-leb (half (length ns)) (rank items axis ns p) (omega (arith, rank_left p some, h.long)))
