-- What is kept of signals is so of all signals so far, and stays so after one more.
use Rattle.std.proofs.Common.{◌≡◌, ◌<◌, ◌∙◌, ℕ, suc, zero, Bool, true, false, List, [], ◌∷◌, ◌++◌, Option, Some, None, refl, sym, ap, subst, arith}
use Rattle.std.specs.Prelude.{◌&&◌, ◌||◌, ◌==◌, not, max, nat_le, if◌then◌else◌}
use Rattle.std.specs.BTreeMap.{is_at}
use Rattle.std.specs.List.{list_any}
use Rattle.std.specs.Ordering.{nat_cmp}
use Rattle.std.proofs.lemmas.Bool.Decides.{nat_tests}
use Rattle.std.proofs.lemmas.List.Folds.{list_any-append}
use Rattle.ray_submits.specs.declared.point.SemaphorePoint.{SemaphorePoint}
use Rattle.ray_submits.specs.declared.semaphores.Seen.{Seen}
use Rattle.ray_submits.specs.declared.semaphores.Semaphores.{Semaphores}
use Rattle.ray_submits.specs.Seen.{AreSeen, IsSeen, elsewhere_in, is_elsewhere, is_met_in, is_odd_in, is_odd_seen, is_reached, seen_after, seen_at, value_in}
use Rattle.ray_submits.specs.Semaphores.{Signal, is_met, is_odd}

-- ---- tests

-- two tests of each, of which one is to pass, are a test of all and another
joined : (a b c p q : Bool) → ((a && (b || c)) || (p || q)) ≡ (((a && b) || p) || ((a && c) || q))
joined false b c p q = refl
joined true true c p q = refl
joined true false true true q = refl
joined true false true false q = refl
joined true false false p q = refl

any-joined : {X : Type 0} (test one other : X → Bool) (xs : List X)
    → list_any (λ x. test x && (one x || other x)) xs
    ≡ (list_any (λ x. test x && one x) xs || list_any (λ x. test x && other x) xs)
any-joined test one other [] = refl
any-joined test one other (x ∷ xs) =
    ap (λ b. (test x && (one x || other x)) || b) (any-joined test one other xs)
    ∙ joined (test x) (one x) (other x) (list_any (λ y. test y && one y) xs) (list_any (λ y. test y && other y) xs)

or-false : (b : Bool) → (b || false) ≡ b
or-false true = refl
or-false false = refl

any-more : {X : Type 0} (test : X → Bool) (xs : List X) (x : X) → list_any test (xs ++ x ∷ []) ≡ (list_any test xs || test x)
any-more test xs x = list_any-append test xs (x ∷ []) ∙ ap (λ b. list_any test xs || b) (or-false (test x))

above-zero : (v : ℕ) → (suc v == 0) ≡ false
above-zero v = grind (arith, nat_tests)

-- 0 is reached always
least : (n : ℕ) → true ≡ nat_le 0 n
least n = grind (arith, nat_tests)

-- ---- what is asked

-- a wait is met where it is by what is kept
pub met-seen : (earlier : List Signal) (semaphores : Semaphores) (wait : SemaphorePoint) → AreSeen earlier semaphores
    → is_met earlier wait ≡ is_met_in semaphores wait
met-seen earlier semaphores wait are = choose wait.value refl
  where
    choose : (value : ℕ) → wait.value ≡ value
        → ((value == 0) || list_any (is_reached wait.semaphore value) earlier) ≡ nat_le value (value_in (seen_at semaphores wait.semaphore))
    choose zero e = least (value_in (seen_at semaphores wait.semaphore))
    choose (suc v) e = ap (λ b. b || list_any (is_reached wait.semaphore (suc v)) earlier) (above-zero v) ∙ (are.each wait.semaphore).reached (suc v) (omega arith)

-- a signal is at odds where it is with what is kept
pub odd-seen : (earlier : List Signal) (semaphores : Semaphores) (signal : Signal) → AreSeen earlier semaphores
    → is_odd earlier signal ≡ is_odd_in semaphores signal
odd-seen earlier semaphores signal are =
    ap (λ b. (signal.value == 0) || b)
    (any-joined (λ (old : Signal). old.semaphore == signal.semaphore) (λ old. nat_le signal.value old.value)
    (λ old. not (old.queue == signal.queue)) earlier)
    ∙ choose signal.value refl
  where
    choose : (value : ℕ) → signal.value ≡ value
        → ((value == 0)
        || (list_any (is_reached signal.semaphore value) earlier || list_any (is_elsewhere signal.semaphore signal.queue) earlier))
        ≡ is_odd_seen signal.queue value (seen_at semaphores signal.semaphore)
    choose zero e = λ i. least (value_in (seen_at semaphores signal.semaphore)) i || elsewhere_in (seen_at semaphores signal.semaphore) signal.queue
    choose (suc v) e =
        ap (λ b. b || (list_any (is_reached signal.semaphore (suc v)) earlier || list_any (is_elsewhere signal.semaphore signal.queue) earlier)) (above-zero v)
        ∙ (λ i. (are.each signal.semaphore).reached (suc v) (omega arith) i || (are.each signal.semaphore).elsewhere signal.queue i)

-- ---- one more signal

-- the greater of two values reaches what one of them does
reaches-max : (v a b : ℕ) → (nat_le v a || nat_le v b) ≡ nat_le v (max a b)
reaches-max v a b = grind (arith, nat_tests)

value-after : (v queue value : ℕ) (seen : Option Seen) → 0 < v
    → (nat_le v (value_in seen) || nat_le v value) ≡ nat_le v (value_in (Some (seen_after queue value seen)))
value-after v queue value None h = let no : nat_le v 0 ≡ false = grind (arith, nat_tests) in ap (λ b. b || nat_le v value) no
value-after v queue value (Some old) h = reaches-max v old.value value

-- of two numbers that differ at most one is a third
apart : (shared : Bool) (a b k : ℕ)
    → ((shared || not (a == k)) || not (b == k)) ≡ ((shared || not (a == b)) || not (a == k))
apart true a b k = refl
apart false a b k = grind (arith, nat_tests)

elsewhere-after : (k queue value : ℕ) (seen : Option Seen)
    → (elsewhere_in seen k || not (queue == k)) ≡ elsewhere_in (Some (seen_after queue value seen)) k
elsewhere-after k queue value None = refl
elsewhere-after k queue value (Some old) = apart old.shared old.queue queue k

at-key : (a b : ℕ) → is_at (nat_cmp a) b ≡ (b == a)
at-key a b = grind (arith, nat_tests)

same-number : (a b : ℕ) → (b == a) ≡ true → a ≡ b
same-number a b e = grind (arith, nat_tests)

other-number : (a b : ℕ) → (b == a) ≡ false → (a == b) ≡ false
other-number a b e = grind (arith, nat_tests)

self-number : (a : ℕ) → (a == a) ≡ true
self-number a = grind (arith, nat_tests)

-- what is known of the semaphore that is signalled
seen-same : (earlier : List Signal) (signal : Signal) (seen : Option Seen) → IsSeen earlier signal.semaphore seen
    → IsSeen (earlier ++ signal ∷ []) signal.semaphore (Some (seen_after signal.queue signal.value seen))
seen-same earlier signal seen is = record {
  reached = λ v above.
      any-more (is_reached signal.semaphore v) earlier signal
      ∙ ((λ i. is.reached v above i || (self-number signal.semaphore i && nat_le v signal.value))
      ∙ value-after v signal.queue signal.value seen above);
  elsewhere = λ k.
      any-more (is_elsewhere signal.semaphore k) earlier signal
      ∙ ((λ i. is.elsewhere k i || (self-number signal.semaphore i && not (signal.queue == k)))
      ∙ elsewhere-after k signal.queue signal.value seen);
}

-- and of another one
seen-other : (earlier : List Signal) (signal : Signal) (semaphore : ℕ) (seen : Option Seen)
    → (signal.semaphore == semaphore) ≡ false → IsSeen earlier semaphore seen
    → IsSeen (earlier ++ signal ∷ []) semaphore seen
seen-other earlier signal semaphore seen other is = record {
  reached = λ v above.
      any-more (is_reached semaphore v) earlier signal
      ∙ ((λ i. is.reached v above i || (other i && nat_le v signal.value)) ∙ or-false (nat_le v (value_in seen)));
  elsewhere = λ k.
      any-more (is_elsewhere semaphore k) earlier signal
      ∙ ((λ i. is.elsewhere k i || (other i && not (signal.queue == k))) ∙ or-false (elsewhere_in seen k));
}

-- what is known after one more signal
pub seen-more : (earlier : List Signal) (old new : Semaphores) (signal : Signal)
    → ((semaphore : ℕ) → seen_at new semaphore
    ≡ (if is_at (nat_cmp signal.semaphore) semaphore
    then Some (seen_after signal.queue signal.value (seen_at old signal.semaphore)) else seen_at old semaphore))
    → AreSeen earlier old → AreSeen (earlier ++ signal ∷ []) new
seen-more earlier old new signal updates are = record { each = λ s. each s (s == signal.semaphore) refl }
  where
    each : (s : ℕ) (b : Bool) → (s == signal.semaphore) ≡ b → IsSeen (earlier ++ signal ∷ []) s (seen_at new s)
    each s true e =
        subst (IsSeen (earlier ++ signal ∷ []) s)
        (sym (updates s ∙ λ i. if (at-key signal.semaphore s ∙ e) i
        then Some (seen_after signal.queue signal.value (seen_at old signal.semaphore)) else seen_at old s))
        (subst (λ m. IsSeen (earlier ++ signal ∷ []) m
        (Some (seen_after signal.queue signal.value (seen_at old signal.semaphore))))
        (same-number signal.semaphore s e)
        (seen-same earlier signal (seen_at old signal.semaphore) (are.each signal.semaphore)))
    each s false e =
        subst (IsSeen (earlier ++ signal ∷ []) s)
        (sym (updates s ∙ λ i. if (at-key signal.semaphore s ∙ e) i
        then Some (seen_after signal.queue signal.value (seen_at old signal.semaphore)) else seen_at old s))
        (seen-other earlier signal s (seen_at old s) (other-number signal.semaphore s e) (are.each s))
