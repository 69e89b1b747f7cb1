-- Ranks rise where numbers do, and are below how many there are.
use Rattle.std.proofs.Common.{ℕ, zero, suc, ◌≡◌, ◌<◌, ◌≤◌, ◌+◌, List, [], ◌∷◌, length, map, take, get_or, cond, true, false, inl, inr, refl, ap, ◌∙◌, arith}
use Rattle.std.specs.Prelude.{nat_lt}
use Rattle.std.specs.List.Sorted.{IsPermutation}
use Rattle.std.proofs.lemmas.Bool.{cases_lt, cond-true, cond-false, lt-ltb, le-ltb}
use Rattle.std.proofs.lemmas.List.Sorted.{sum_by-IsPermutation}
use Rattle.std.proofs.lemmas.List.Sums.{sum_by-cons}
use Rattle.ray_cmd.specs.declared.command.Command.{Command}
use Rattle.ray_rules.specs.Order.{last_wait}
use Rattle.ray_permitted.proofs.Waits.{wait_below}
use Rattle.ray_exec.specs.Ranks.{rank_in, ranks_of}
use Rattle.ray_exec.specs.Waves.{AreRanked, AreRun, wave_at}

-- ---- how many are less

-- 1 where a number is less than another
abbrev one_below : ℕ → ℕ → ℕ
one_below x z = cond (nat_lt z x) 1 0

is_one : (x z : ℕ) → z < x → one_below x z ≡ 1
is_one x z less = cond-true (nat_lt z x) 1 0 (lt-ltb z x less)

is_none : (x z : ℕ) → x ≤ z → one_below x z ≡ 0
is_none x z more = cond-false (nat_lt z x) 1 0 (le-ltb z x more)

one_rises : (x y z : ℕ) → x ≤ y → one_below x z ≤ one_below y z
one_rises x y z upto =
    elim (cases_lt z x) [
      | inl less ↦ (let a = is_one x z less in let b = is_one y z (omega (arith, less, upto)) in omega (arith, a, b))
      | inr more ↦ (let a = is_none x z more in omega (arith, a))
    ]

one_at_most : (x z : ℕ) → one_below x z ≤ 1
one_at_most x z =
    elim (cases_lt z x) [
      | inl less ↦ (let a = is_one x z less in omega (arith, a))
      | inr more ↦ (let a = is_none x z more in omega (arith, a))
    ]

next : (x z : ℕ) (zs : List ℕ) → rank_in (z ∷ zs) x ≡ one_below x z + rank_in zs x
unfolding rank_in
next x z zs = sum_by-cons (one_below x) z zs

none : (x : ℕ) → rank_in [] x ≡ 0
unfolding rank_in
none x = refl

rank_grows : (zs : List ℕ) (x y : ℕ) → x ≤ y → rank_in zs x ≤ rank_in zs y
rank_grows [] x y upto = let a = none x in omega (arith, a)
rank_grows (z ∷ zs) x y upto =
    let here = one_rises x y z upto in
    let rest = rank_grows zs x y upto in
    let a = next x z zs in
    let b = next y z zs in
    omega (arith, here, rest, a, b)

-- a number that is there is counted among those less than a greater one
rank_rises : (zs : List ℕ) (i d y : ℕ) → i < length zs → get_or zs i d < y → rank_in zs (get_or zs i d) < rank_in zs y
rank_rises [] i d y there less = absurd (omega (arith, there))
rank_rises (z ∷ zs) zero d y there less =
    let rest = rank_grows zs z y (omega (arith, less)) in
    let a = next z z zs in
    let b = next y z zs in
    let c = is_none z z (omega arith) in
    let e = is_one y z less in
    omega (arith, rest, a, b, c, e)
rank_rises (z ∷ zs) (suc i) d y there less =
    let x : ℕ = get_or zs i d in
    let rest : rank_in zs x < rank_in zs y = rank_rises zs i d y (omega (arith, there)) less in
    let here = one_rises x y z (omega (arith, less)) in
    let a = next x z zs in
    let b = next y z zs in
    omega (arith, rest, here, a, b)

rank_upto : (zs : List ℕ) (x : ℕ) → rank_in zs x ≤ length zs
rank_upto [] x = let a = none x in omega (arith, a)
rank_upto (z ∷ zs) x =
    let rest = rank_upto zs x in
    let here = one_at_most x z in
    let a = next x z zs in
    omega (arith, rest, here, a)

-- and isn't less than itself
rank_short : (zs : List ℕ) (i d : ℕ) → i < length zs → rank_in zs (get_or zs i d) < length zs
rank_short [] i d there = absurd (omega (arith, there))
rank_short (z ∷ zs) zero d there =
    let rest = rank_upto zs z in
    let a = next z z zs in
    let c = is_none z z (omega arith) in
    omega (arith, rest, a, c)
rank_short (z ∷ zs) (suc i) d there =
    let x : ℕ = get_or zs i d in
    let rest : rank_in zs x < length zs = rank_short zs i d (omega (arith, there)) in
    let here = one_at_most x z in
    let a = next x z zs in
    omega (arith, rest, here, a)

-- the same numbers in another order have the same ranks
pub rank_sorted : (numbers sorted : List ℕ) (x : ℕ) → IsPermutation numbers sorted → rank_in sorted x ≡ rank_in numbers x
unfolding rank_in
rank_sorted numbers sorted x same = sum_by-IsPermutation (one_below x) numbers sorted same

-- sorted numbers are less up to a place, and not from there on
pub rank_parted : (zs : List ℕ) (x i : ℕ) → i ≤ length zs → ((k d : ℕ) → k < i → nat_lt (get_or zs k d) x ≡ true)
    → ((k d : ℕ) → i ≤ k → k < length zs → nat_lt (get_or zs k d) x ≡ false) → i ≡ rank_in zs x
rank_parted [] x i upto below from = let a = none x in omega (arith, upto, a)
rank_parted (z ∷ zs) x zero upto below from =
    let here : one_below x z ≡ 0 = cond-false (nat_lt z x) 1 0 (from 0 0 (omega arith) (omega arith)) in
    let rest : 0 ≡ rank_in zs x =
    rank_parted zs x 0 (omega arith) (λ k d l. absurd (omega (arith, l))) (λ k d f l. from (suc k) d (omega (arith, f)) (omega (arith, l))) in
    let a = next x z zs in
    omega (arith, here, rest, a)
rank_parted (z ∷ zs) x (suc i) upto below from =
    let here : one_below x z ≡ 1 = cond-true (nat_lt z x) 1 0 (below 0 0 (omega arith)) in
    let rest : i ≡ rank_in zs x =
    rank_parted zs x i (omega (arith, upto)) (λ k d l. below (suc k) d (omega (arith, l))) (λ k d f l. from (suc k) d (omega (arith, f)) (omega (arith, l))) in
    let a = next x z zs in
    omega (arith, here, rest, a)

-- ---- the ranks of a list

length_map : (f : ℕ → ℕ) (xs : List ℕ) → length (map f xs) ≡ length xs
length_map f [] = refl
length_map f (x ∷ xs) = ap suc (length_map f xs)

map_at : (f : ℕ → ℕ) (xs : List ℕ) (i d : ℕ) → i < length xs → get_or (map f xs) i d ≡ f (get_or xs i d)
map_at f [] i d below = absurd (omega (arith, below))
map_at f (x ∷ xs) zero d below = refl
map_at f (x ∷ xs) (suc i) d below = map_at f xs i d (omega (arith, below))

length_taken : (n : ℕ) (xs : List ℕ) → n ≤ length xs → length (take n xs) ≡ n
length_taken zero xs upto = refl
length_taken (suc n) [] upto = absurd (omega (arith, upto))
length_taken (suc n) (x ∷ xs) upto = ap suc (length_taken n xs (omega (arith, upto)))

taken_at : (n : ℕ) (xs : List ℕ) (i d : ℕ) → i < n → get_or (take n xs) i d ≡ get_or xs i d
taken_at zero xs i d below = absurd (omega (arith, below))
taken_at (suc n) [] i d below = refl
taken_at (suc n) (x ∷ xs) zero d below = refl
taken_at (suc n) (x ∷ xs) (suc i) d below = taken_at n xs i d (omega (arith, below))

module _ (waves : List ℕ) (n : ℕ) (ordered : n ≤ length waves) where
  many : length (take n waves) ≡ n
  many = length_taken n waves ordered

  rank_is : (i : ℕ) → i < n → wave_at (ranks_of waves n) i ≡ rank_in (take n waves) (get_or (take n waves) i 0)
  rank_is i below = map_at (rank_in (take n waves)) (take n waves) i 0 (omega (arith, many, below))

  number_is : (i : ℕ) → i < n → get_or (take n waves) i 0 ≡ wave_at waves i
  number_is i below = taken_at n waves i 0 below

  rises : (i j : ℕ) → i < n → j < n → wave_at waves i < wave_at waves j → wave_at (ranks_of waves n) i < wave_at (ranks_of waves n) j
  rises i j first second less =
      let a = rank_is i first in
      let b = rank_is j second in
      let c = number_is i first in
      let d = number_is j second in
      let e : rank_in (take n waves) (get_or (take n waves) i 0) < rank_in (take n waves) (get_or (take n waves) j 0) =
      rank_rises (take n waves) i 0 (get_or (take n waves) j 0) (omega (arith, many, first)) (omega (arith, less, c, d)) in
      omega (arith, a, b, e)

  short : (i : ℕ) → i < n → wave_at (ranks_of waves n) i < n
  short i below =
      let a = rank_is i below in
      let b : rank_in (take n waves) (get_or (take n waves) i 0) < length (take n waves) = rank_short (take n waves) i 0 (omega (arith, many, below)) in
      omega (arith, many, a, b)

  as_many : length (ranks_of waves n) ≡ n
  as_many = length_map (rank_in (take n waves)) (take n waves) ∙ many

-- ranks separate what numbers separate
pub ranked : (rec : List Command) (waves : List ℕ) (n : ℕ) → AreRun rec waves n → AreRanked rec (ranks_of waves n) n
ranked rec waves n run =
    let up = rises waves n run.ordered in
    let count : length (ranks_of waves n) ≡ n = as_many waves n run.ordered in
    record {
      run = record {
        accepted = run.accepted;
        within = run.within;
        ordered = omega (arith, count);
        separate = record {
          host = λ i j less within host. up i j (omega (arith, less, within)) within (run.separate.host i j less within host);
          host_waits = λ i j s waited within here there.
              let below : last_wait rec j ≤ j = wait_below rec j in
              up i j (omega (arith, waited, below, within)) within (run.separate.host_waits i j s waited within here there);
          conflicts = λ i j s t less within here there conflict.
              up i j (omega (arith, less, within)) within (run.separate.conflicts i j s t less within here there conflict);
        };
      };
      short = short waves n run.ordered;
    }
