-- The lists of the numbers below a count, one after the other.
use Rattle.std.proofs.Common.{◌≡◌, ◌∙◌, ◌⊎◌, ◌+◌, ◌≤◌, ◌<◌, ◌++◌, refl, sym, ap, subst, ℕ, zero, suc, List, [], inl, inr, append_assoc, append-nil, sum_by, arith}
use Rattle.std.proofs.lemmas.Bool.{cases_lt}
use Rattle.std.proofs.lemmas.List.Sums.{sum_by-append}
use Rattle.ray_candidates.specs.Candidates.{joined}
use Rattle.ray_query.proofs.Members.{Member, Member-append, Member-append_left, Member-append_right}

pub joined-suc : {X : Type 0} (each : ℕ → List X) (n : ℕ) → joined each (suc n) ≡ joined each n ++ each n
unfolding joined
joined-suc each n = refl

pub joined-zero : {X : Type 0} (each : ℕ → List X) → joined each 0 ≡ []
unfolding joined
joined-zero each = refl

-- a loop's step, and its beginning
pub joined_more : {X : Type 0} (before : List X) (each : ℕ → List X) (n : ℕ) → (before ++ joined each n) ++ each n ≡ before ++ joined each (n + 1)
joined_more before each n =
    let next : suc n ≡ n + 1 = omega arith in
    append_assoc before (joined each n) (each n) ∙ ap (λ xs. before ++ xs) (sym (joined-suc each n) ∙ ap (joined each) next)

pub joined_none : {X : Type 0} (before : List X) (each : ℕ → List X) → before ++ joined each 0 ≡ before
joined_none before each = ap (λ xs. before ++ xs) (joined-zero each) ∙ append-nil before

-- a member is one of a list, and back
pub Member-joined : {X : Type 0} (each : ℕ → List X) (n : ℕ) (x : X) → Member x (joined each n) → (k : ℕ) × (k < n) × Member x (each k)
unfolding joined
Member-joined each zero x m = absurd m
Member-joined each (suc n) x m =
    elim (Member-append (joined each n) (each n) x m) [
      | inl before ↦ later (Member-joined each n x before)
      | inr here ↦ (n, omega arith, here)
    ]
  where
    later : (k : ℕ) × (k < n) × Member x (each k) → (k : ℕ) × (k < suc n) × Member x (each k)
    later (k, below, at) = (k, omega (arith, below), at)

last_or_below : (k n : ℕ) → k < suc n → (k < n) ⊎ (k ≡ n)
last_or_below k n below = elim (cases_lt k n) [ inl less ↦ inl less | inr least ↦ inr (omega (arith, below, least)) ]

pub Member-joined_back : {X : Type 0} (each : ℕ → List X) (n k : ℕ) (x : X) → k < n → Member x (each k) → Member x (joined each n)
unfolding joined
Member-joined_back each zero k x below m = absurd (omega (arith, below))
Member-joined_back each (suc n) k x below m =
    elim (last_or_below k n below) [
      | inl less ↦ Member-append_left (joined each n) (each n) x (Member-joined_back each n k x less m)
      | inr same ↦ Member-append_right (joined each n) (each n) x (subst (λ j. Member x (each j)) same m)
    ]

-- a count that only one of the lists has, and at most once, is at most 1 of all
record Once (j n s : ℕ) : Type 0 where
  pub none : n ≤ j → s ≡ 0
  pub most : s ≤ 1

once_more : (j n s t : ℕ) → Once j n s → ((n ≡ j → ⊥) → t ≡ 0) → t ≤ 1 → Once j (suc n) (s + t)
once_more j n s t once elsewhere most =
    elim (cases_lt n j) [
      | inl less ↦ (let zero_s : s ≡ 0 = once.none (omega (arith, less)) in let zero_t : t ≡ 0 = elsewhere (λ same. omega (arith, less, same)) in
          record { none = λ h. omega (arith, zero_s, zero_t); most = omega (arith, zero_s, zero_t) })
      | inr least ↦ by least (cases_lt j n)
    ]
  where
    by : j ≤ n → (j < n) ⊎ (n ≤ j) → Once j (suc n) (s + t)
    by least (inl less) = let zero_t : t ≡ 0 = elsewhere (λ same. omega (arith, less, same)) in let few : s ≤ 1 = once.most in
        record { none = λ h. absurd (omega (arith, less, h)); most = omega (arith, zero_t, few) }
    by least (inr at) = let zero_s : s ≡ 0 = once.none at in
        record { none = λ h. absurd (omega (arith, at, h, least)); most = omega (arith, zero_s, most) }

joined-once : {X : Type 0} (w : X → ℕ) (each : ℕ → List X) (j : ℕ) → ((k : ℕ) → (k ≡ j → ⊥) → sum_by w (each k) ≡ 0) → ((k : ℕ) → sum_by w (each k) ≤ 1)
    → (n : ℕ) → Once j n (sum_by w (joined each n))
unfolding joined
joined-once w each j elsewhere most zero = record { none = λ h. refl; most = omega arith }
joined-once w each j elsewhere most (suc n) =
    subst (Once j (suc n)) (sym (sum_by-append w (joined each n) (each n)))
    (once_more j n (sum_by w (joined each n)) (sum_by w (each n)) (joined-once w each j elsewhere most n) (elsewhere n) (most n))

pub joined-le-one : {X : Type 0} (w : X → ℕ) (each : ℕ → List X) (j n : ℕ) → ((k : ℕ) → (k ≡ j → ⊥) → sum_by w (each k) ≡ 0) → ((k : ℕ) → sum_by w (each k) ≤ 1)
    → sum_by w (joined each n) ≤ 1
joined-le-one w each j n elsewhere most = (joined-once w each j elsewhere most n).most

pub joined_step : {X : Type 0} (before now added after : List X) (each : ℕ → List X) (n : ℕ) → now ≡ before ++ joined each n → added ≡ each n → after ≡ now ++ added
    → after ≡ before ++ joined each (n + 1)
joined_step before now added after each n so_far one more = more ∙ ((λ i. so_far i ++ one i) ∙ joined_more before each n)

pub joined_first : {X : Type 0} (now added after : List X) (each : ℕ → List X) (n : ℕ) → now ≡ joined each n → added ≡ each n → after ≡ now ++ added
    → after ≡ joined each (n + 1)
joined_first now added after each n so_far one more = joined_step [] now added after each n so_far one more
