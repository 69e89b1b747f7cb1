-- The last command of which something is so.
use Rattle.std.proofs.Common.{◌≡◌, ◌<◌, ◌≤◌, ◌⊎◌, ◌+◌, ℕ, zero, suc, max, Bool, true, false, nat_lt, if◌then◌else◌, List, [], ◌∷◌, ◌++◌, Some, get_or, length, take, refl, sym, ◌∙◌, ap, subst, inl, inr, arith}
use Rattle.std.proofs.lemmas.Bool.{cases_Bool, ltb-true, cond-true, cond-false}
use Rattle.std.proofs.lemmas.Bool.Decides.{nat_tests}
use Rattle.ray_marks.specs.Rising.{IsGreatest, mark_of}
use Rattle.ray_rules.specs.Hazards.{greatest}
use Rattle.std.proofs.Math.Seq.{take-length}
use Rattle.std.proofs.lemmas.List.{take_more}
use Rattle.ray_access.specs.declared.touched.Touched.{Touched}
use Rattle.ray_hazards.specs.Lasts.{AnyOf, IsLast, last_number}

-- nothing is so
pub last-nothing : (P : ℕ → Type 0) (n : ℕ) → ((i : ℕ) → i < n → P i → ⊥) → IsLast P n 0
last-nothing P n none = record { most = λ i l p. absurd (none i l p); there = inl refl }

-- the same is so
pub last-like :
    (P Q : ℕ → Type 0) (n r : ℕ) → ((i : ℕ) → i < n → P i → Q i) → ((i : ℕ) → i < n → Q i → P i) → IsLast P n r
    → IsLast Q n r
last-like P Q n r to from last = record {
  most = λ i l q. last.most i l (from i l q);
  there =
      elim last.there [
        | inl z ↦ inl z
        | inr (i, l, p, e) ↦ inr (i, l, to i l p, e)
      ];
}

-- one of two things is so
pub last-either :
    (P Q : ℕ → Type 0) (n a b : ℕ) → IsLast P n a → IsLast Q n b → IsLast (λ i. P i ⊎ Q i) n (max a b)
last-either P Q n a b first second = record {
  most = λ i l e.
      elim e [
        | inl p ↦ let below = first.most i l p in omega arith
        | inr q ↦ let below = second.most i l q in omega arith
      ];
  there =
      elim (cases_Bool (nat_lt a b)) [
        | inl t ↦
            let less = ltb-true a b t in
            elim second.there [
              | inl z ↦ inl (omega arith)
              | inr (i, l, q, e) ↦ inr (i, l, inr q, omega arith)
            ]
        | inr f ↦
            let least : b ≤ a = grind (arith, nat_tests) in
            elim first.there [
              | inl z ↦ inl (omega arith)
              | inr (i, l, p, e) ↦ inr (i, l, inl p, omega arith)
            ]
      ];
}

-- one command more
pub last-step :
    (P : ℕ → Type 0) (n old new : ℕ) (b : Bool) → (P n → b ≡ true) → (b ≡ true → P n)
    → new ≡ (if b then suc n else old) → IsLast P n old → IsLast P (suc n) new
last-step P n old new true to from e last = record {
  most = λ i l p. let at : new ≡ suc n = e in omega arith;
  there = inr (n, omega arith, from refl, sym e);
}
last-step P n old new false to from e last = record {
  most = λ i l p.
      elim (cases_Bool (nat_lt i n)) [
        | inl t ↦ let below = last.most i (ltb-true i n t) p in let at : new ≡ old = e in omega arith
        | inr f ↦
            let same : i ≡ n = grind (arith, nat_tests) in
            absurd (no-way (to (subst P same p)))
      ];
  there =
      elim last.there [
        | inl z ↦ inl (e ∙ z)
        | inr (i, l, p, at) ↦ inr (i, omega arith, p, at ∙ sym e)
      ];
}
  where
    no-way : false ≡ true → ⊥
    no-way t = absurd cc

-- of the marks above a limit of a range of cells, where a test tells what is below the limit
pub last-cells :
    (P : ℕ → ℕ → Type 0) (f : ℕ → Bool) (marks : List ℕ) (n limit p q g : ℕ)
    → ((c i : ℕ) → P c i → f i ≡ nat_lt i limit) → IsGreatest marks limit p q g
    → ((c : ℕ) → IsLast (P c) n (mark_of marks c))
    → IsLast (λ i. ((c : ℕ) × (p ≤ c) × (c < q) × P c i) × (f i ≡ false)) n g
last-cells P f marks n limit p q g tells great last = record {
  most = λ i l ((c, from, below, so), open_at).
      let least = great.most c from below in
      let more = (last c).most i l so in
      let at : nat_lt i limit ≡ false = sym (tells c i so) ∙ open_at in
      let beyond : limit ≤ i = grind (arith, nat_tests) in
      omega arith;
  there =
      elim great.there [
        | inl z ↦ inl z
        | inr (c, from, below, at, more) ↦
            elim (last c).there [
              | inl z ↦ absurd (omega arith)
              | inr (i, l, so, e) ↦
                  let beyond : nat_lt i limit ≡ false = grind (arith, nat_tests) in
                  inr (i, l, ((c, from, below, so), tells c i so ∙ beyond), e ∙ at)
            ]
      ];
}

-- the last command is the greatest that a test finds
pub last-greatest :
    (P : ℕ → Type 0) (f : ℕ → Bool) (n r : ℕ) → ((i : ℕ) → i < n → P i → f i ≡ true)
    → ((i : ℕ) → i < n → f i ≡ true → P i) → IsLast P n r → greatest f n ≡ last_number r
last-greatest P f zero r to from last =
    elim last.there [
      | inl z ↦ sym (ap last_number z)
      | inr (i, l, p, e) ↦ absurd (omega arith)
    ]
last-greatest P f (suc n) r to from last =
    elim (cases_Bool (f n)) [
      | inl t ↦
          let below = last.most n (omega arith) (from n (omega arith) t) in
          let at : r ≡ suc n =
          elim last.there [
            | inl z ↦ absurd (omega arith)
            | inr (i, l, p, e) ↦ omega arith
          ] in
          cond-true (f n) (Some n) (greatest f n) t ∙ sym (ap last_number at)
      | inr z ↦
          cond-false (f n) (Some n) (greatest f n) z
          ∙ last-greatest P f n r (λ i l p. to i (omega arith) p) (λ i l t. from i (omega arith) t) (record {
            most = λ i l p. last.most i (omega arith) p;
            there =
                elim last.there [
                  | inl q ↦ inl q
                  | inr (i, l, p, e) ↦
                      elim (cases_Bool (nat_lt i n)) [
                        | inl t ↦ inr (i, ltb-true i n t, p, e)
                        | inr q ↦
                            let same : i ≡ n = grind (arith, nat_tests) in
                            absurd (apart (f n) (to n (omega arith) (subst P same p)) z)
                      ]
                ];
          })
    ]
  where
    apart : (b : Bool) → b ≡ true → b ≡ false → ⊥
    apart true t z = absurd cc
    apart false t z = absurd cc

-- one touch more, of which something may be so
pub any-more : (P : Touched → Type 0) (ts : List Touched) (t : Touched) → AnyOf P ts ⊎ P t → AnyOf P (ts ++ t ∷ [])
any-more P [] t (inl q) = absurd q
any-more P [] t (inr p) = inl p
any-more P (u ∷ ts) t (inl (inl p)) = inl p
any-more P (u ∷ ts) t (inl (inr q)) = inr (any-more P ts t (inl q))
any-more P (u ∷ ts) t (inr p) = inr (any-more P ts t (inr p))

pub any-less : (P : Touched → Type 0) (ts : List Touched) (t : Touched) → AnyOf P (ts ++ t ∷ []) → AnyOf P ts ⊎ P t
any-less P [] t (inl p) = inr p
any-less P [] t (inr q) = absurd q
any-less P (u ∷ ts) t (inl p) = inl (inl p)
any-less P (u ∷ ts) t (inr q) =
    elim (any-less P ts t q) [
      | inl r ↦ inl (inr r)
      | inr p ↦ inr p
    ]

-- the last command of one touch more
pub last-next :
    (P : Touched → ℕ → Type 0) (ts : List Touched) (k : ℕ) (d : Touched) (n a b r : ℕ) → r ≡ max a b → k < length ts
    → IsLast (λ i. AnyOf (λ u. P u i) (take k ts)) n a → IsLast (P (get_or ts k d)) n b
    → IsLast (λ i. AnyOf (λ u. P u i) (take (k + 1) ts)) n r
last-next P ts k d n a b r e below before one =
    let x = get_or ts k d in
    subst (IsLast (λ i. AnyOf (λ u. P u i) (take (k + 1) ts)) n) (sym e)
    (subst (λ us. IsLast (λ i. AnyOf (λ u. P u i) us) n (max a b)) (sym (take_more ts k d below))
    (last-like (λ i. AnyOf (λ u. P u i) (take k ts) ⊎ P x i) (λ i. AnyOf (λ u. P u i) (take k ts ++ x ∷ [])) n (max a b)
    (λ i l e. any-more (λ u. P u i) (take k ts) x e) (λ i l e. any-less (λ u. P u i) (take k ts) x e)
    (last-either (λ i. AnyOf (λ u. P u i) (take k ts)) (P x) n a b before one)))

-- that of all touches
pub last-all :
    (P : Touched → ℕ → Type 0) (ts : List Touched) (k n a : ℕ) → k ≡ length ts
    → IsLast (λ i. AnyOf (λ u. P u i) (take k ts)) n a → IsLast (λ i. AnyOf (λ u. P u i) ts) n a
last-all P ts k n a e last =
    subst (λ us. IsLast (λ i. AnyOf (λ u. P u i) us) n a) (subst (λ j. take j ts ≡ ts) (sym e) (take-length ts)) last
