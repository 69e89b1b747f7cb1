-- What is given of numbers, in whatever order these stand, is what is given of all numbers below a bound.
use Rattle.std.proofs.Common.{ℕ, zero, suc, ◌≡◌, ◌+◌, ◌++◌, ◌<◌, ◌≤◌, List, [], ◌∷◌, refl, sym, ap, subst, ◌∙◌, inl, inr, arith, cond, append_assoc}
use Rattle.std.specs.Prelude.{◌==◌, ◌⊎◌}
use Rattle.std.specs.List.{flat_map}
use Rattle.std.specs.List.Sorted.{IsPermutation}
use Rattle.std.proofs.lemmas.Bool.{cases_eq, cond-true, cond-false, eq-eqb, ne_eqb}
use Rattle.std.proofs.lemmas.List.{append-nil}
use Rattle.std.proofs.lemmas.List.Sums.{sum_by-cons, sum_by-append}
use Rattle.std.proofs.lemmas.List.Concat.{flat_map-cons}
use Rattle.std.proofs.lemmas.List.Sorted.{IsPermutation-refl, IsPermutation-trans, IsPermutation-append, IsPermutation-append_left, IsPermutation-append_right, IsPermutation-append_comm}
use Rattle.std.proofs.lemmas.Grind.{flat_map-append}
use Rattle.ray_tree.specs.Trees.{times}
use Rattle.ray_candidates.specs.Candidates.{joined}
use Rattle.ray_candidates.proofs.Joined.{joined-zero, joined-suc}

-- ---- how often a number stands in a list

abbrev one : ℕ → ℕ → ℕ
one p q = cond {A = ℕ} (q == p) 1 0

one-itself : (p : ℕ) → one p p ≡ 1
one-itself p = cond-true {A = ℕ} (p == p) 1 0 (eq-eqb p p refl)

one-other : (p q : ℕ) → (q ≡ p → ⊥) → one p q ≡ 0
one-other p q differs = cond-false {A = ℕ} (q == p) 1 0 (ne_eqb q p differs)

times-cons : (p q : ℕ) (qs : List ℕ) → times p (q ∷ qs) ≡ one p q + times p qs
times-cons p q qs = sum_by-cons (one p) q qs

pub times-append : (p : ℕ) (xs ys : List ℕ) → times p (xs ++ ys) ≡ times p xs + times p ys
times-append p xs ys = sum_by-append (one p) xs ys

-- with a number in the middle
times-middle : (p x : ℕ) (front back : List ℕ) → times p (front ++ x ∷ back) ≡ one p x + times p (front ++ back)
times-middle p x front back =
    let whole = times-append p front (x ∷ back) in
    let first = times-cons p x back in
    let rest = times-append p front back in
    omega (arith, whole, first, rest)

all_none : (xs : List ℕ) → ((p : ℕ) → times p xs ≡ 0) → xs ≡ []
all_none [] none = refl
all_none (x ∷ xs) none =
    let here = times-cons x x xs in
    let itself = one-itself x in
    let never = none x in
    absurd (omega (arith, here, itself, never))

-- a list with a number in it, and the parts before and behind
pub record Cut (x : ℕ) (ys : List ℕ) : Type 0 where
  pub front : List ℕ
  pub back : List ℕ
  pub is : ys ≡ front ++ x ∷ back

cut : (x : ℕ) (ys : List ℕ) → 0 < times x ys → Cut x ys
cut x [] some = absurd (omega (arith, some))
cut x (y ∷ ys) some =
    elim (cases_eq y x) [
      | inl e ↦ record { front = []; back = ys; is = ap (λ z. z ∷ ys) e }
      | inr differs ↦
          let more = times-cons x y ys in
          let none = one-other x y differs in
          let c = cut x ys (omega (arith, more, none, some)) in
          record { front = y ∷ c.front; back = c.back; is = ap (λ zs. y ∷ zs) c.is }
    ]

-- ---- what is given of each

module _ {X : Type 0} (F : ℕ → List X) where
  -- that of one in the middle comes last
  last_of : (x : ℕ) (front back : List ℕ) → IsPermutation (flat_map F (front ++ x ∷ back)) (flat_map F (front ++ back) ++ F x)
  last_of x front back =
      let a = flat_map F front in
      let b = flat_map F back in
      let whole : flat_map F (front ++ x ∷ back) ≡ a ++ (F x ++ b) =
      flat_map-append F front (x ∷ back) ∙ ap (λ zs. a ++ zs) (flat_map-cons F x back) in
      let parts : a ++ (b ++ F x) ≡ flat_map F (front ++ back) ++ F x =
      sym (append_assoc a b (F x)) ∙ ap (λ zs. zs ++ F x) (sym (flat_map-append F front back)) in
      subst (λ zs. IsPermutation zs (flat_map F (front ++ back) ++ F x)) (sym whole)
      (subst (λ zs. IsPermutation (a ++ (F x ++ b)) zs) parts
      (IsPermutation-append_right a (F x ++ b) (b ++ F x) (IsPermutation-append_comm (F x) b)))

  -- each number below a bound stands in a list once, or not at all where nothing is given of it; no other stands there
  pub record IsSpread (n : ℕ) (xs : List ℕ) : Type 0 where
    pub none : (p : ℕ) → n ≤ p → times p xs ≡ 0
    pub each : (p : ℕ) → p < n → (times p xs ≡ 1) ⊎ ((times p xs ≡ 0) × (F p ≡ []))

  spread_less : (n : ℕ) (front back : List ℕ) → IsSpread (suc n) (front ++ n ∷ back) → times n (front ++ n ∷ back) ≡ 1 → IsSpread n (front ++ back)
  spread_less n front back spread once = record {
    none = λ p from.
        let moved = times-middle p n front back in
        elim (cases_eq n p) [
          | inl e ↦
              let at : one p n ≡ 1 = subst (λ q. one q n ≡ 1) e (one-itself n) in
              let all : times p (front ++ n ∷ back) ≡ 1 = subst (λ q. times q (front ++ n ∷ back) ≡ 1) e once in
              omega (arith, moved, at, all)
          | inr differs ↦
              let beyond = spread.none p (omega (arith, from, differs)) in
              omega (arith, moved, beyond)
        ];
    each = λ p below.
        let moved = times-middle p n front back in
        let other = one-other p n (λ e. absurd (omega (arith, e, below))) in
        elim (spread.each p (omega (arith, below))) [
          | inl there ↦ inl (omega (arith, moved, other, there))
          | inr gone ↦ inr (let none = gone.0 in omega (arith, moved, other, none), gone.1)
        ];
  }

  spread_same : (n : ℕ) (xs : List ℕ) → IsSpread (suc n) xs → times n xs ≡ 0 → IsSpread n xs
  spread_same n xs spread never = record {
    none = λ p from. elim (cases_eq n p) [
      | inl e ↦ subst (λ q. times q xs ≡ 0) e never
      | inr differs ↦ spread.none p (omega (arith, from, differs))
    ];
    each = λ p below. spread.each p (omega (arith, below));
  }

  pub joined-spread : (n : ℕ) (xs : List ℕ) → IsSpread n xs → IsPermutation (flat_map F xs) (joined F n)
  joined-spread zero xs spread =
      let none : xs ≡ [] = all_none xs (λ p. spread.none p (omega arith)) in
      subst (λ zs. IsPermutation zs (joined F 0)) (sym (ap (flat_map F) none))
      (subst (λ zs. IsPermutation [] zs) (sym (joined-zero F)) (IsPermutation-refl []))
  joined-spread (suc n) xs spread =
      elim (spread.each n (omega arith)) [
        | inl once ↦
            let c = cut n xs (omega (arith, once)) in
            let parts : IsSpread (suc n) (c.front ++ n ∷ c.back) = subst (λ zs. IsSpread (suc n) zs) c.is spread in
            let less = spread_less n c.front c.back parts (subst (λ zs. times n zs ≡ 1) c.is once) in
            let rest = joined-spread n (c.front ++ c.back) less in
            let ys = flat_map F (c.front ++ c.back) in
            subst (λ zs. IsPermutation (flat_map F zs) (joined F (suc n))) (sym c.is)
            (subst (λ zs. IsPermutation (flat_map F (c.front ++ n ∷ c.back)) zs) (sym (joined-suc F n))
            (IsPermutation-trans (flat_map F (c.front ++ n ∷ c.back)) (ys ++ F n) (joined F n ++ F n)
            (last_of n c.front c.back) (IsPermutation-append_left (F n) ys (joined F n) rest)))
        | inr gone ↦
            let rest = joined-spread n xs (spread_same n xs spread gone.0) in
            let same : joined F n ≡ joined F (suc n) =
            sym (append-nil (joined F n)) ∙ (ap (λ zs. joined F n ++ zs) (sym gone.1) ∙ sym (joined-suc F n)) in
            subst (λ zs. IsPermutation (flat_map F xs) zs) same rest
      ]

-- lists that are each the other in another order
pub joined-permuted : {X : Type 0} (F G : ℕ → List X) (n : ℕ) → ((k : ℕ) → k < n → IsPermutation (F k) (G k)) → IsPermutation (joined F n) (joined G n)
joined-permuted F G zero each =
    subst (λ zs. IsPermutation zs (joined G 0)) (sym (joined-zero F)) (subst (λ zs. IsPermutation [] zs) (sym (joined-zero G)) (IsPermutation-refl []))
joined-permuted F G (suc n) each =
    subst (λ zs. IsPermutation zs (joined G (suc n))) (sym (joined-suc F n))
    (subst (λ zs. IsPermutation (joined F n ++ F n) zs) (sym (joined-suc G n))
    (IsPermutation-append (joined F n) (joined G n) (F n) (G n)
    (joined-permuted F G n (λ k below. each k (omega (arith, below)))) (each n (omega arith))))
