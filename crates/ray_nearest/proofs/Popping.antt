-- Turns that wait: what is pushed, and that what is popped is a first turn.
use mathlib.Core.Bool.{not}
use Rattle.std.proofs.Common.{◌≡◌, ◌∙◌, ◌++◌, ap, sym, refl, subst, Bool, true, false, if◌then◌else◌, List, [], ◌∷◌, All, slice_index_or, Option, Some, None, arith}
use Rattle.std.specs.BinaryHeap.{IsUpperBound}
use Rattle.std.specs.Cmp.{IsTotalOrder}
use Rattle.std.specs.Prelude.{IfSome, IsTrue}
use Rattle.std.specs.List.{cons_option}
use Rattle.std.specs.List.Sorted.{IsPermutation}
use Rattle.std.specs.Ordering.{is_lt, ordering_reverse}
use Rattle.std.specs.declared.cmp.Ordering.{Ordering}
use Rattle.std.specs.declared.cmp.Ordering.TheVariants.{Less, Equal, Greater}
use Rattle.std.proofs.lemmas.List.Elements.{All-cons, All-nil, All-tail}
use Rattle.std.proofs.lemmas.List.Sorted.{All-permutation, IsPermutation-cons, IsPermutation-map, IsPermutation-refl, IsPermutation-swap, IsPermutation-sym, IsPermutation-trans}
use Rattle.ray_geom.specs.declared.ratio.Ratio.{Ratio}
use Rattle.ray_nearest.specs.declared.turn.Turn.{Turn}
use Rattle.ray_nearest.specs.declared.waiting.Waiting.{Waiting}
use Rattle.ray_query.specs.Limits.{is_within}
use Rattle.ray_nearest.specs.TurnLaws.{IsFirst, turn_of, turns_of, waiting_cmp, waiting_cmp-total}
use Rattle.ray_nearest.specs.Turns.{IsTaken, is_before, turn_at, turn_within}
use Rattle.ray_nearest.proofs.Orders.{before-lt, turn-farther}
use Rattle.ray_query.proofs.Orders.{beyond-farther}

abbrev NotBefore : Turn → Turn → Type 0
NotBefore x y = is_before y x ≡ false

-- ---- what comes first

-- what isn't below another isn't below what that isn't below, in any order
not_below_in : {K : Type 0} (R : K → K → Ordering) → IsTotalOrder R → (x a y : K) → is_lt (R x a) ≡ false → is_lt (R a y) ≡ false → is_lt (R x y) ≡ false
not_below_in R order x a y h k = by (R x a) refl (R x y) refl
  where
    by : (p : Ordering) → R x a ≡ p → (q : Ordering) → R x y ≡ q → is_lt q ≡ false
    by p e Equal f = refl
    by p e Greater f = refl
    by Less e Less f = absurd (cc)
    by Equal e Less f = let same = order.congr x a y e in absurd (cc)
    by Greater e Less f =
        let back = order.antisymm a x ∙ ap ordering_reverse e in
        let below = order.trans a x y back f in
        absurd (cc)

not_below : (x a y : Waiting) → is_lt (waiting_cmp x a) ≡ false → is_lt (waiting_cmp a y) ≡ false → is_lt (waiting_cmp x y) ≡ false
not_below x a y h k = not_below_in waiting_cmp waiting_cmp-total x a y h k

-- of two one isn't below the other
not_both : (x a : Waiting) → is_lt (waiting_cmp a x) ≡ true → is_lt (waiting_cmp x a) ≡ false
not_both x a h = by (waiting_cmp a x) refl
  where
    by : (p : Ordering) → waiting_cmp a x ≡ p → is_lt (waiting_cmp x a) ≡ false
    by Less e = let back = waiting_cmp-total.antisymm x a ∙ ap ordering_reverse e in cc
    by Equal e = absurd (cc)
    by Greater e = absurd (cc)

-- what comes no later than a first one is a first one
still_first : (x a : Waiting) (xs : List Waiting) → is_lt (waiting_cmp x a) ≡ false → IsFirst a xs → IsFirst x xs
still_first x a xs h first k d below = not_below x a (slice_index_or xs k d) h (first k d below)

-- what comes before a first one is first among that and the others
pub first_before : (x a y b : Waiting) (xs : List Waiting) → y ≡ x → b ≡ a → is_lt (waiting_cmp a x) ≡ true → IsFirst a xs → IsFirst y (b ∷ xs)
first_before x a y b xs is was h first =
    let later = not_both x a h in
    subst (λ w. IsFirst w (b ∷ xs)) (sym is)
    (subst (λ w. IsFirst x (w ∷ xs)) (sym was)
    (All-cons (λ z. is_lt (waiting_cmp x z) ≡ false) a xs later (still_first x a xs later first)))

-- a first one that isn't after another is first among that and the others
pub first_after : (x a : Waiting) (xs : List Waiting) → is_lt (waiting_cmp a x) ≡ false → IsFirst a xs → IsFirst a (x ∷ xs)
first_after x a xs h first = All-cons (λ z. is_lt (waiting_cmp a z) ≡ false) x xs h first

pub first_known : (next : Option Waiting) (w : Waiting) (xs : List Waiting) → next ≡ Some w → IfSome next (λ v. IsFirst v xs) → IsFirst w xs
first_known next w xs e first = subst (λ o. IfSome o (λ v. IsFirst v xs)) e first

-- what is next is first among the others, one more of which is added in any order
pub next_with : (next given : Option Waiting) (later : Waiting) (xs ys : List Waiting) → given ≡ Some later
    → IfSome next (λ w. IsFirst w (cons_option given xs)) → IsPermutation (later ∷ xs) ys → IfSome next (λ w. IsFirst w ys)
next_with None given later xs ys e first moved = tt
next_with (Some w) given later xs ys e first moved =
    All-permutation (λ z. is_lt (waiting_cmp w z) ≡ false) (later ∷ xs) ys moved (subst (λ o. IsFirst w (cons_option o xs)) e first)

-- or isn't added
pub next_without : (next given : Option Waiting) (later : Waiting) (xs ys : List Waiting) → given ≡ Some later
    → IfSome next (λ w. IsFirst w (cons_option given xs)) → ys ≡ xs → IfSome next (λ w. IsFirst w ys)
next_without None given later xs ys e first same = tt
next_without (Some w) given later xs ys e first same =
    subst (λ zs. IsFirst w zs) (sym same)
    (All-tail (λ z. is_lt (waiting_cmp w z) ≡ false) later xs (subst (λ o. IsFirst w (cons_option o xs)) e first))

-- what isn't below the greatest of a heap is a first one
pub first_of_heap : (x a : Waiting) (xs : List Waiting) → is_lt (waiting_cmp x a) ≡ false → IsUpperBound waiting_cmp a xs → IsFirst x xs
first_of_heap x a [] h bound = All-nil _
first_of_heap x a (y ∷ ys) h (b, bs) =
    All-cons (λ z. is_lt (waiting_cmp x z) ≡ false) y ys (not_below x a y h b) (first_of_heap x a ys h bs)

pub not_so : (b : Bool) → IsTrue (not b) → b ≡ false
not_so true h = absurd (cc)
not_so false h = refl

-- ---- what is pushed

pub exchanged : (x a : Waiting) (was : Option Waiting) (xs : List Waiting) → was ≡ Some a
    → IsPermutation (x ∷ cons_option was xs) (a ∷ x ∷ xs)
exchanged x a was xs e =
    subst (λ o. IsPermutation (x ∷ cons_option o xs) (a ∷ x ∷ xs)) (sym e)
    (IsPermutation-swap (x ∷ a ∷ xs) (a ∷ x ∷ xs) 0 1 (omega arith) (omega arith) refl)

turns_moved : (x : Waiting) (xs ys : List Waiting) (old : List Turn) → IsPermutation (x ∷ xs) ys → turns_of xs ≡ old
    → IsPermutation (turn_of x ∷ old) (turns_of ys)
turns_moved x xs ys old moved is =
    subst (λ ts. IsPermutation (turn_of x ∷ ts) (turns_of ys)) is (IsPermutation-map turn_of (x ∷ xs) ys moved)

-- what is next, before others in another order
beside_next : (next : Option Waiting) (xs ys : List Waiting) → IsPermutation xs ys → IsPermutation (cons_option next xs) (cons_option next ys)
beside_next None xs ys moved = moved
beside_next (Some w) xs ys moved = IsPermutation-cons w xs ys moved

pub pushed_next : (x : Waiting) (given was next : Option Waiting) (xs : List Waiting) (old : List Turn) → given ≡ None
    → IsPermutation (x ∷ cons_option was xs) (cons_option next (cons_option given xs))
    → turns_of (cons_option was xs) ≡ old → IsPermutation (turn_of x ∷ old) (turns_of (cons_option next xs))
pushed_next x given was next xs old e placed is =
    turns_moved x (cons_option was xs) (cons_option next xs) old
    (subst (λ o. IsPermutation (x ∷ cons_option was xs) (cons_option next (cons_option o xs))) e placed) is

pub pushed_later : (x later : Waiting) (given was next : Option Waiting) (xs ys : List Waiting) (old : List Turn) → given ≡ Some later
    → IsPermutation (x ∷ cons_option was xs) (cons_option next (cons_option given xs)) → IsPermutation (later ∷ xs) ys
    → turns_of (cons_option was xs) ≡ old → IsPermutation (turn_of x ∷ old) (turns_of (cons_option next ys))
pushed_later x later given was next xs ys old e placed moved is =
    turns_moved x (cons_option was xs) (cons_option next ys) old
    (IsPermutation-trans (x ∷ cons_option was xs) (cons_option next (later ∷ xs)) (cons_option next ys)
    (subst (λ o. IsPermutation (x ∷ cons_option was xs) (cons_option next (cons_option o xs))) e placed)
    (beside_next next (later ∷ xs) ys moved)) is

-- what is within the limit is pushed
pub pushed : (limit : Option Ratio) (t u : Turn) (old new : List Turn) → is_within limit (turn_at t) ≡ true
    → u ≡ t → IsPermutation (u ∷ old) new → IsPermutation (turn_within limit t ++ old) new
pushed limit t u old new in_ turn moved =
    within (is_within limit (turn_at t)) in_ (subst (λ one. IsPermutation (one ∷ old) new) turn moved)
  where
    within : (b : Bool) → b ≡ true → IsPermutation (t ∷ old) new
        → IsPermutation ((if b then t ∷ [] else []) ++ old) new
    within true p moved = moved
    within false p moved = absurd (cc)

-- ---- what is taken

-- what is known to be first is taken
first_before_none : (x : Waiting) (waiting : List Waiting) → IsFirst x waiting → All (NotBefore (turn_of x)) (turns_of waiting)
first_before_none x [] h = All-nil _
first_before_none x (y ∷ ys) h =
    All-cons (NotBefore (turn_of x)) (turn_of y) (turns_of ys) (before-lt (turn_of y) (turn_of x) ∙ h 0 y (omega arith))
    (first_before_none x ys (All-tail (λ z. is_lt (waiting_cmp x z) ≡ false) y ys h))

taken_first : (x : Waiting) (later : List Waiting) → IsFirst x later → IsTaken (turns_of (x ∷ later)) (Some (turn_of x)) (turns_of later)
taken_first x later first = (IsPermutation-refl (turns_of (x ∷ later)), first_before_none x later first)

pub taken : (x : Waiting) (was now : Option Waiting) (later : List Waiting) (old : List Turn) → was ≡ Some x → now ≡ None
    → IfSome was (λ w. IsFirst w later) → turns_of (cons_option was later) ≡ old
    → IsTaken old (Some (turn_of x)) (turns_of (cons_option now later))
taken x was now later old e gone first is =
    let known = subst (λ o. IfSome o (λ w. IsFirst w later)) e first in
    subst (λ ts. IsTaken ts (Some (turn_of x)) (turns_of (cons_option now later))) is
    (subst (λ o. IsTaken (turns_of (cons_option o later)) (Some (turn_of x)) (turns_of (cons_option now later))) (sym e)
    (subst (λ o. IsTaken (turns_of (x ∷ later)) (Some (turn_of x)) (turns_of (cons_option o later))) (sym gone) (taken_first x later known)))

-- none comes before the greatest of a heap
none_before : (x : Waiting) (waiting : List Waiting) → IsUpperBound waiting_cmp x waiting → All (NotBefore (turn_of x)) (turns_of waiting)
none_before x [] h = All-nil _
none_before x (y ∷ ys) (h, hs) =
    All-cons (NotBefore (turn_of x)) (turn_of y) (turns_of ys) (before-lt (turn_of y) (turn_of x) ∙ h) (none_before x ys hs)

pub popped : (x : Waiting) (was now : Option Waiting) (waiting later : List Waiting) (old : List Turn) → was ≡ None → now ≡ None
    → IsPermutation waiting (x ∷ later) → IsUpperBound waiting_cmp x later → turns_of (cons_option was waiting) ≡ old
    → IsTaken old (Some (turn_of x)) (turns_of (cons_option now later))
popped x was now waiting later old e gone moved above is =
    let same = sym (ap (λ o. turns_of (cons_option o waiting)) e) ∙ is in
    subst (λ ts. IsTaken ts (Some (turn_of x)) (turns_of (cons_option now later))) same
    (subst (λ o. IsTaken (turns_of waiting) (Some (turn_of x)) (turns_of (cons_option o later))) (sym gone)
    (IsPermutation-map turn_of waiting (x ∷ later) moved, none_before x later above))

-- where a first turn is beyond the limit, all are
pub all_beyond : (limit : Option Ratio) (x : Turn) (old new : List Turn) → is_within limit (turn_at x) ≡ false
    → IsPermutation old (x ∷ new) → All (NotBefore x) new → All (λ y. is_within limit (turn_at y) ≡ false) old
all_beyond limit x old new late moved first =
    All-permutation (λ y. is_within limit (turn_at y) ≡ false) (x ∷ new) old (IsPermutation-sym old (x ∷ new) moved)
    (All-cons (λ y. is_within limit (turn_at y) ≡ false) x new late
    (λ k d below. beyond-farther limit (turn_at x) (turn_at (slice_index_or new k d)) (turn-farther x (slice_index_or new k d) (first k d below)) late))

-- a turn that comes beyond the limit isn't
pub left_out : (limit : Option Ratio) (t : Turn) (old : List Turn) → is_within limit (turn_at t) ≡ false → IsPermutation (turn_within limit t ++ old) old
left_out limit t old out = beyond (is_within limit (turn_at t)) out
  where
    beyond : (b : Bool) → b ≡ false → IsPermutation ((if b then t ∷ [] else []) ++ old) old
    beyond true p = absurd (cc)
    beyond false p = IsPermutation-refl old
