-- The first range that meets another, from what a loop over the ranges has seen.
use Rattle.std.proofs.Common.{◌≡◌, ◌<◌, ◌≤◌, ℕ, ◌+◌, Bool, true, false, List, ◌++◌, refl, sym, ◌∙◌, ap, arith, length, take, ◌||◌, get_or}
use Rattle.std.specs.Prelude.{Some, None, nat_lt}
use Rattle.std.specs.List.{position, position_or_len, range_with_len}
use Rattle.std.proofs.lemmas.Bool.{cond-true, cond-false, lt-ltb, le-ltb}
use Rattle.std.proofs.lemmas.List.Sums.{position_or_len_is}
use Rattle.std.proofs.lemmas.List.FromFn.{length-range_with_len, get_or-range_with_len}
use Rattle.std.proofs.lemmas.List.Folds.{list_any-append, list_any_more}
use Rattle.ray_ranges.specs.declared.range.Range.{Range}
use Rattle.ray_ranges.specs.Meeting.{has, covers}

-- the least number below n that passes a test
pub least_number :
    (test : ℕ → Bool) (n k : ℕ) → k ≤ n → ((j : ℕ) → j < k → test j ≡ false) → (k < n → test k ≡ true)
    → position_or_len test (range_with_len 0 n) ≡ k
least_number test n k within none here =
    let long : length (range_with_len 0 n) ≡ n = length-range_with_len 0 n in
    let at : (j : ℕ) → j < n → get_or (range_with_len 0 n) j 0 ≡ j =
    λ j l. get_or-range_with_len 0 n j 0 l ∙ (let e : 0 + j ≡ j = omega arith in e) in
    position_or_len_is test (range_with_len 0 n) k 0 (omega arith)
    (λ j l. ap test (at j (omega arith)) ∙ none j l)
    (λ l. let below : k < n = omega arith in ap test (at k below) ∙ here below)

pub least_number-some :
    (test : ℕ → Bool) (n k : ℕ) → k < n → ((j : ℕ) → j < k → test j ≡ false) → test k ≡ true
    → position test (range_with_len 0 n) ≡ Some k
least_number-some test n k below none here =
    let long : length (range_with_len 0 n) ≡ n = length-range_with_len 0 n in
    let e : position_or_len test (range_with_len 0 n) ≡ k = least_number test n k (omega arith) none (λ _. here) in
    cond-true (nat_lt (position_or_len test (range_with_len 0 n)) (length (range_with_len 0 n))) _ _
    (lt-ltb _ _ (omega arith))
    ∙ ap Some e

pub least_number-none :
    (test : ℕ → Bool) (n : ℕ) → ((j : ℕ) → j < n → test j ≡ false)
    → position test (range_with_len 0 n) ≡ None
least_number-none test n none =
    let long : length (range_with_len 0 n) ≡ n = length-range_with_len 0 n in
    let e : position_or_len test (range_with_len 0 n) ≡ n =
    least_number test n n (omega arith) none (λ l. absurd (omega arith)) in
    cond-false (nat_lt (position_or_len test (range_with_len 0 n)) (length (range_with_len 0 n))) _ _
    (le-ltb _ _ (omega arith))

-- where no item passes a test there is no first
pub position-none :
    {X : Type 0} (test : X → Bool) (xs : List X) (d : X) → ((k : ℕ) → k < length xs → test (get_or xs k d) ≡ false)
    → position test xs ≡ None
position-none test xs d none =
    let e : position_or_len test xs ≡ length xs =
    position_or_len_is test xs (length xs) d (omega arith) none (λ l. absurd (omega arith)) in
    cond-false (nat_lt (position_or_len test xs) (length xs)) _ _ (le-ltb _ _ (omega arith))

or_turned : (a b : Bool) → (a || b) ≡ (b || a)
or_turned true true = refl
or_turned true false = refl
or_turned false true = refl
or_turned false false = refl

or_grouped : (a b c : Bool) → ((a || b) || c) ≡ (a || (b || c))
or_grouped true b c = refl
or_grouped false b c = refl

-- the numbers of one range more
pub covers_more :
    (ranges : List Range) (k n : ℕ) (d : Range) → k < length ranges
    → (has n (get_or ranges k d) || covers (take k ranges) n) ≡ covers (take (k + 1) ranges) n
covers_more ranges k n d l =
    or_turned (has n (get_or ranges k d)) (covers (take k ranges) n)
    ∙ sym (list_any_more (has n) ranges k d l)

-- the same, where others stand before them
pub covers_more_after :
    (others ranges : List Range) (k n : ℕ) (d : Range) → k < length ranges
    → (has n (get_or ranges k d) || covers (others ++ take k ranges) n)
    ≡ covers (others ++ take (k + 1) ranges) n
covers_more_after others ranges k n d l =
    ap (λ b. has n (get_or ranges k d) || b) (list_any-append (has n) others (take k ranges))
    ∙ (or_turned (has n (get_or ranges k d)) (covers others n || covers (take k ranges) n)
    ∙ (or_grouped (covers others n) (covers (take k ranges) n) (has n (get_or ranges k d))
    ∙ (ap (λ b. covers others n || b) (sym (list_any_more (has n) ranges k d l))
    ∙ sym (list_any-append (has n) others (take (k + 1) ranges)))))
