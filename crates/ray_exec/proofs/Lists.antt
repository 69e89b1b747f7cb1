-- Lists of numbers, filtered and listed by number.
use Rattle.std.proofs.Common.{ℕ, zero, suc, ◌≡◌, ◌<◌, ◌≤◌, ◌+◌, ◌++◌, ◌⊎◌, inl, inr, Bool, true, false, cond, List, [], ◌∷◌, length, map, filter, flat_map, get_or, refl, ap, sym, subst, ◌∙◌, arith}
use Rattle.std.specs.Prelude.{◌&&◌}
use Rattle.std.specs.List.{range_with_len}
use Rattle.std.proofs.lemmas.Bool.{cases_Bool, cases_eq, cond-true, cond-false}
use Rattle.std.proofs.lemmas.List.FromFn.{fill_by_all}
use Rattle.ray_schedule.specs.Waves.{IsAmong, EachLater}

-- ---- filters

filter_step : {X Y : Type 0} (b c : Bool) (f : X → Y) (x : X) (xs : List X) (ys : List Y) → b ≡ c → ys ≡ map f xs
    → cond b (f x ∷ ys) ys ≡ map f (cond c (x ∷ xs) xs)
filter_step true true f x xs ys e same = ap (λ zs. f x ∷ zs) same
filter_step false false f x xs ys e same = same
filter_step true false f x xs ys e same = absurd cc
filter_step false true f x xs ys e same = absurd cc

-- of a map
pub filter-map : {X Y : Type 0} (P : Y → Bool) (f : X → Y) (xs : List X) → filter P (map f xs) ≡ map f (filter (λ x. P (f x)) xs)
filter-map P f [] = refl
filter-map P f (x ∷ xs) = filter_step (P (f x)) (P (f x)) f x (filter (λ y. P (f y)) xs) (filter P (map f xs)) refl (filter-map P f xs)

-- by a test that is the same for all
pub filter_same : {X Y : Type 0} (P : Y → Bool) (f : X → Y) (b : Bool) → ((x : X) → P (f x) ≡ b) → (xs : List X) → filter P (map f xs) ≡ cond b (map f xs) []
filter_same P f true is [] = refl
filter_same P f false is [] = refl
filter_same P f true is (x ∷ xs) =
    cond-true (P (f x)) (f x ∷ filter P (map f xs)) (filter P (map f xs)) (is x) ∙ ap (λ ys. f x ∷ ys) (filter_same P f true is xs)
filter_same P f false is (x ∷ xs) =
    cond-false (P (f x)) (f x ∷ filter P (map f xs)) (filter P (map f xs)) (is x) ∙ filter_same P f false is xs

block_step : {X Y : Type 0} (b : Bool) (f : X → List Y) (x : X) (xs : List X) (ys : List Y) → ys ≡ flat_map f xs
    → cond b (f x) [] ++ ys ≡ flat_map f (cond b (x ∷ xs) xs)
block_step true f x xs ys same = ap (λ zs. f x ++ zs) same
block_step false f x xs ys same = same

pub filter_append : {Y : Type 0} (P : Y → Bool) (xs ys : List Y) → filter P (xs ++ ys) ≡ filter P xs ++ filter P ys
filter_append P [] ys = refl
filter_append P (x ∷ xs) ys = elim (cases_Bool (P x)) [
  | inl t ↦
      cond-true (P x) (x ∷ filter P (xs ++ ys)) (filter P (xs ++ ys)) t ∙ (ap (λ zs. x ∷ zs) (filter_append P xs ys)
      ∙ ap (λ zs. zs ++ filter P ys) (sym (cond-true (P x) (x ∷ filter P xs) (filter P xs) t)))
  | inr f ↦
      cond-false (P x) (x ∷ filter P (xs ++ ys)) (filter P (xs ++ ys)) f ∙ (filter_append P xs ys
      ∙ ap (λ zs. zs ++ filter P ys) (sym (cond-false (P x) (x ∷ filter P xs) (filter P xs) f)))
]

-- of blocks that pass or don't, each as a whole
pub filter_blocks : {X Y : Type 0} (P : Y → Bool) (Q : X → Bool) (f : X → List Y) → ((x : X) → filter P (f x) ≡ cond (Q x) (f x) [])
    → (xs : List X) → filter P (flat_map f xs) ≡ flat_map f (filter Q xs)
filter_blocks P Q f is [] = refl
filter_blocks P Q f is (x ∷ xs) =
    filter_append P (f x) (flat_map f xs)
    ∙ (ap (λ zs. zs ++ filter P (flat_map f xs)) (is x)
    ∙ block_step (Q x) f x (filter Q xs) (filter P (flat_map f xs)) (filter_blocks P Q f is xs))

both_step : {X : Type 0} (p q : Bool) (x : X) (xs ys : List X) (P : X → Bool) → P x ≡ p → filter P xs ≡ ys
    → filter P (cond q (x ∷ xs) xs) ≡ cond (q && p) (x ∷ ys) ys
both_step true true x xs ys P e same = cond-true (P x) (x ∷ filter P xs) (filter P xs) e ∙ ap (λ zs. x ∷ zs) same
both_step false true x xs ys P e same = cond-false (P x) (x ∷ filter P xs) (filter P xs) e ∙ same
both_step true false x xs ys P e same = same
both_step false false x xs ys P e same = same

-- by one test and then another
pub filter_both : {X : Type 0} (P Q : X → Bool) (xs : List X) → filter P (filter Q xs) ≡ filter (λ x. Q x && P x) xs
filter_both P Q [] = refl
filter_both P Q (x ∷ xs) = both_step (P x) (Q x) x (filter Q xs) (filter (λ y. Q y && P y) xs) P refl (filter_both P Q xs)

-- all or none
pub filter_all : {X : Type 0} (P : X → Bool) (xs : List X) → ((x : X) → IsAmong x xs → P x ≡ true) → filter P xs ≡ xs
filter_all P [] pass = refl
filter_all P (x ∷ xs) pass =
    cond-true (P x) (x ∷ filter P xs) (filter P xs) (pass x (inl refl)) ∙ ap (λ zs. x ∷ zs) (filter_all P xs (λ y a. pass y (inr a)))

pub filter_none : {X : Type 0} (P : X → Bool) (xs : List X) → ((x : X) → IsAmong x xs → P x ≡ false) → filter P xs ≡ []
filter_none P [] pass = refl
filter_none P (x ∷ xs) pass =
    cond-false (P x) (x ∷ filter P xs) (filter P xs) (pass x (inl refl)) ∙ filter_none P xs (λ y a. pass y (inr a))

-- ---- members

among_cond : {X : Type 0} (b : Bool) (y x : X) (xs : List X) → IsAmong y (cond b (x ∷ xs) xs) → ((b ≡ true) × (y ≡ x)) ⊎ IsAmong y xs
among_cond true y x xs (inl same) = inl (refl, same)
among_cond true y x xs (inr later) = inr later
among_cond false y x xs later = inr later

pub among-filter : {X : Type 0} (P : X → Bool) (y : X) (xs : List X) → IsAmong y (filter P xs) → IsAmong y xs × (P y ≡ true)
among-filter P y [] a = absurd a
among-filter P y (x ∷ xs) a = elim (among_cond (P x) y x (filter P xs) a) [
  | inl here ↦ (inl here.1, ap P here.1 ∙ here.0)
  | inr later ↦ (let r = among-filter P y xs later in (inr r.0, r.1))
]

among_later : {X : Type 0} (b : Bool) (y x : X) (xs : List X) → IsAmong y xs → IsAmong y (cond b (x ∷ xs) xs)
among_later true y x xs a = inr a
among_later false y x xs a = a

pub filter-among : {X : Type 0} (P : X → Bool) (y : X) (xs : List X) → IsAmong y xs → P y ≡ true → IsAmong y (filter P xs)
filter-among P y [] a t = absurd a
filter-among P y (x ∷ xs) (inl same) t =
    subst (IsAmong y) (sym (cond-true (P x) (x ∷ filter P xs) (filter P xs) (ap P (sym same) ∙ t))) (inl same)
filter-among P y (x ∷ xs) (inr later) t = among_later (P x) y x (filter P xs) (filter-among P y xs later t)

pub among-range : (a n p : ℕ) → IsAmong p (range_with_len a n) → (a ≤ p) × (p < a + n)
among-range a zero p h = absurd h
among-range a (suc n) p (inl same) = (omega arith, omega arith)
among-range a (suc n) p (inr later) = let r = among-range (a + 1) n p later in let l : a + 1 ≤ p = r.0 in let u : p < (a + 1) + n = r.1 in (omega arith, omega arith)

pub range-among : (a n p : ℕ) → a ≤ p → p < a + n → IsAmong p (range_with_len a n)
range-among a zero p l u = absurd (omega arith)
range-among a (suc n) p l u = elim (cases_eq p a) [
  | inl same ↦ inl same
  | inr differs ↦ inr (range-among (a + 1) n p (omega arith) (omega arith))
]

pub among-map : {X Y : Type 0} (f : X → Y) (x : X) (xs : List X) → IsAmong x xs → IsAmong (f x) (map f xs)
among-map f x [] a = absurd a
among-map f x (y ∷ xs) (inl same) = inl (ap f same)
among-map f x (y ∷ xs) (inr later) = inr (among-map f x xs later)

pub map-among : {X Y : Type 0} (f : X → Y) (y : Y) (xs : List X) → IsAmong y (map f xs) → (x : X) × IsAmong x xs × (y ≡ f x)
map-among f y [] a = absurd a
map-among f y (x ∷ xs) (inl same) = (x, inl refl, same)
map-among f y (x ∷ xs) (inr later) = let r = map-among f y xs later in (r.0, inr r.1, r.2)

-- ---- rising

later_cond : {X : Type 0} (R : X → X → Type 0) (b : Bool) (x : X) (xs : List X) → ((y : X) → IsAmong y xs → R x y) → EachLater R xs
    → EachLater R (cond b (x ∷ xs) xs)
later_cond R true x xs first rest = (first, rest)
later_cond R false x xs first rest = rest

pub later-filter : {X : Type 0} (R : X → X → Type 0) (P : X → Bool) (xs : List X) → EachLater R xs → EachLater R (filter P xs)
later-filter R P [] are = tt
later-filter R P (x ∷ xs) are =
    later_cond R (P x) x (filter P xs) (λ y a. are.0 y (among-filter P y xs a).0) (later-filter R P xs are.1)

pub range-rises : (a n : ℕ) → EachLater (λ p q. p < q) (range_with_len a n)
range-rises a zero = tt
range-rises a (suc n) = (
  λ q h. let r = among-range (a + 1) n q h in let l : a + 1 ≤ q = r.0 in omega arith,
  range-rises (a + 1) n,
)

-- ---- by number

pub listed : {X : Type 0} (xs : List X) (d : X) → xs ≡ map (λ k. get_or xs k d) (range_with_len 0 (length xs))
listed xs d = fill_by_all (λ k. get_or xs k d) xs (length xs) d refl (λ k l. refl)

pub among_get : {X : Type 0} (xs : List X) (p : ℕ) (d : X) → p < length xs → IsAmong (get_or xs p d) xs
among_get [] p d less = absurd (omega (arith, less))
among_get (x ∷ xs) zero d less = inl refl
among_get (x ∷ xs) (suc p) d less = inr (among_get xs p d (omega (arith, less)))
