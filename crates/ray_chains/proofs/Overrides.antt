-- What is kept of the last step over a thing alone is enough, at least and at most.
use Rattle.std.proofs.Common.{◌≡◌, ◌<◌, ◌≤◌, ◌⊎◌, ℕ, zero, suc, Bool, true, nat_lt, if◌then◌else◌, List, sym, subst, ◌∙◌, ap, inl, inr, arith}
use Rattle.std.proofs.lemmas.Bool.{cases_Bool, cond-true, cond-false, ltb-true, lt-ltb}
use Rattle.ray_chains.specs.Dependencies.{Step, IsIn}
use Rattle.ray_chains.specs.Fronts.{greatest_of, front}
use Rattle.ray_chains.specs.Overrides.{chain_from, front_since, HoldsStages, IsLastOver, OverridesAreExact}
use Rattle.ray_chains.proofs.Numbers.{beyond, choice-true, among-greatest, greatest-within}
use Rattle.ray_chains.proofs.Fronts.{within-after, stays, stays-on, gives, gives-all, comes}

module _ {N : Type 0} (steps : ℕ → Step N) where
  -- what acts on more has no lesser fronts
  pub over-more :
      (acts more : ℕ → Bool) → ((m : ℕ) → acts m ≡ true → more m ≡ true) → (n : ℕ) (v : N)
      → front acts steps n v ≤ front more steps n v
  over-more acts more over zero v = omega arith
  over-more acts more over (suc n) v =
      let e = over-more acts more over n v in
      let s = stays more steps n v in
      comes acts steps n v (front more steps (suc n) v) (omega arith) (λ a h. (
        λ t. gives-all more steps n v (over n a) t h,
        λ u i.
            let b = over-more acts more over n u in
            let g = gives more steps n u v (over n a) i h in
            omega arith,
      ))

module _ {N : Type 0} (acts everywhere : ℕ → Bool) (steps : ℕ → Step N) (holds : N → ℕ → Bool) (stages : List N) (near : N → Bool) (t : ℕ) where
  -- the fronts just after step t, and those of the chain from a stage
  abbrev own : N → ℕ
  own v = front acts steps (suc t) v

  abbrev chain_front : N → ℕ → N → ℕ
  chain_front u n v = front everywhere (chain_from holds steps u) n v

  -- where a chain that began after step t leads from a stage to a node, what had reached the stage then has
  -- reached the node
  abbrev IsLed : N → ℕ → N → Type 0
  IsLed u n v = (own u ≤ front acts steps n v) ⊎ (chain_front u n v ≤ t)

  led-first : (u : N) (v : N) → IsLed u (suc t) v
  led-first u v = inr (within-after everywhere (chain_from holds steps u) t v)

  led-next :
      (u : N) (n : ℕ) (v : N) → HoldsStages steps holds stages → ((m : ℕ) → everywhere m ≡ true → acts m ≡ true)
      → IsIn u stages → suc t ≤ n → ((w : N) → IsLed u n w) → IsLed u (suc n) v
  led-next u n v stands over i l led =
      elim (beyond (own u) (front acts steps (suc n) v)) [
        | inl b ↦ inl b
        | inr a ↦ inr (comes everywhere (chain_from holds steps u) n v t
            (elim (led v) [
              | inl b ↦ (let s = stays acts steps n v in absurd (omega arith))
              | inr c ↦ c
            ])
            (λ e h. (
              λ held. elim (stands.only u n i held) [
                | inl from ↦
                    (let g = gives acts steps n u v (over n e) from h in
                    let s = stays-on acts steps (suc t) n u l in
                    absurd (omega arith))
                | inr all ↦
                    (let g = gives-all acts steps n v (over n e) all h in
                    let s = within-after acts steps t u in
                    absurd (omega arith))
              ],
              λ w from. elim (led w) [
                | inl b ↦ (let g = gives acts steps n w v (over n e) from h in absurd (omega arith))
                | inr c ↦ c
              ],
            )))
      ]

  led :
      (u : N) (n : ℕ) (v : N) → HoldsStages steps holds stages → ((m : ℕ) → everywhere m ≡ true → acts m ≡ true)
      → IsIn u stages → t < n → IsLed u n v
  led u zero v stands over i l = absurd (omega arith)
  led u (suc n) v stands over i l =
      elim (beyond n t) [
        | inl b ↦
            (let e : n ≡ t = omega arith in
            subst (λ m. IsLed u (suc m) v) (sym e) (led-first u v))
        | inr a ↦ led-next u n v stands over i a (λ w. led u n w stands over i a)
      ]

  -- what counts of a stage
  abbrev counted : ℕ → N → N → ℕ
  counted n v u = if nat_lt t (chain_front u n v) then own u else 0

  counted-within :
      (n : ℕ) (v u : N) → HoldsStages steps holds stages → ((m : ℕ) → everywhere m ≡ true → acts m ≡ true)
      → IsIn u stages → t < n → counted n v u ≤ front acts steps n v
  counted-within n v u stands over i l =
      elim (cases_Bool (nat_lt t (chain_front u n v))) [
        | inr g ↦ (let e = cond-false (nat_lt t (chain_front u n v)) (own u) 0 g in omega arith)
        | inl c ↦
            (let e = cond-true (nat_lt t (chain_front u n v)) (own u) 0 c in
            let more = ltb-true t (chain_front u n v) c in
            elim (led u n v stands over i l) [
              | inl b ↦ omega arith
              | inr b ↦ absurd (omega arith)
            ])
      ]

  since-at-least :
      (n : ℕ) (v : N) → HoldsStages steps holds stages → ((m : ℕ) → everywhere m ≡ true → acts m ≡ true)
      → t < n → front_since everywhere steps holds stages t own n v ≤ front acts steps n v
  since-at-least n v stands over l =
      let a = over-more steps everywhere acts over n v in
      let b = stays-on acts steps (suc t) n v l in
      let c = greatest-within (counted n v) stages (front acts steps n v) (λ u i. counted-within n v u stands over i l) in
      omega arith

  -- what is kept never falls
  counted-stays : (n : ℕ) (v u : N) → counted n v u ≤ counted (suc n) v u
  counted-stays n v u =
      elim (cases_Bool (nat_lt t (chain_front u n v))) [
        | inr g ↦ (let e = cond-false (nat_lt t (chain_front u n v)) (own u) 0 g in omega arith)
        | inl c ↦
            (let e = cond-true (nat_lt t (chain_front u n v)) (own u) 0 c in
            let more = ltb-true t (chain_front u n v) c in
            let s = stays everywhere (chain_from holds steps u) n v in
            choice-true (nat_lt t (chain_front u (suc n) v)) (counted n v u) (own u)
            (lt-ltb t (chain_front u (suc n) v) (omega arith)) (omega arith))
      ]

  since-stays :
      (n : ℕ) (v : N) → front_since everywhere steps holds stages t own n v ≤ front_since everywhere steps holds stages t own (suc n) v
  since-stays n v =
      let s = stays everywhere steps n v in
      let c =
      greatest-within (counted n v) stages (greatest_of (counted (suc n) v) stages) (λ u i.
      let a = among-greatest (counted (suc n) v) stages u i in
      let b = counted-stays n v u in
      omega arith)
      in
      omega arith

  -- and goes where a step on everything hands it on
  counted-gives :
      (n : ℕ) (w v u : N) → everywhere n ≡ true → IsIn w (steps n).from → (steps n).to v ≡ true
      → counted n w u ≤ counted (suc n) v u
  counted-gives n w v u e from h =
      elim (cases_Bool (nat_lt t (chain_front u n w))) [
        | inr g ↦ (let z = cond-false (nat_lt t (chain_front u n w)) (own u) 0 g in omega arith)
        | inl c ↦
            (let z = cond-true (nat_lt t (chain_front u n w)) (own u) 0 c in
            let more = ltb-true t (chain_front u n w) c in
            let s = gives everywhere (chain_from holds steps u) n w v e from h in
            choice-true (nat_lt t (chain_front u (suc n) v)) (counted n w u) (own u)
            (lt-ltb t (chain_front u (suc n) v) (omega arith)) (omega arith))
      ]

  -- what had reached a stage is handed on by a step that holds it
  own-gives :
      (n : ℕ) (w v : N) → HoldsStages steps holds stages → t < n → everywhere n ≡ true → IsIn w stages
      → IsIn w (steps n).from → (steps n).to v ≡ true → own w ≤ counted (suc n) v w
  own-gives n w v stands l e i from h =
      let g = gives-all everywhere (chain_from holds steps w) n v e (stands.taken w n i from) h in
      choice-true (nat_lt t (chain_front w (suc n) v)) (own w) (own w)
      (lt-ltb t (chain_front w (suc n) v) (omega arith)) (omega arith)

  since-gives :
      (n : ℕ) (w v : N) → HoldsStages steps holds stages → t < n → everywhere n ≡ true → IsIn w stages
      → IsIn w (steps n).from → (steps n).to v ≡ true
      → front_since everywhere steps holds stages t own n w ≤ front_since everywhere steps holds stages t own (suc n) v
  since-gives n w v stands l e i from h =
      let a = gives everywhere steps n w v e from h in
      let b = own-gives n w v stands l e i from h in
      let d = among-greatest (counted (suc n) v) stages w i in
      let c =
      greatest-within (counted n w) stages (greatest_of (counted (suc n) v) stages) (λ u j.
      let x = among-greatest (counted (suc n) v) stages u j in
      let y = counted-gives n w v u e from h in
      omega arith)
      in
      omega arith

  since-at-most :
      (n k : ℕ) (v : N) → HoldsStages steps holds stages → IsLastOver acts everywhere steps stages near t n
      → t < k → k ≤ n → near v ≡ true
      → front acts steps k v ≤ front_since everywhere steps holds stages t own k v
  since-at-most n zero v stands last l m is = absurd (omega arith)
  since-at-most n (suc k) v stands last l m is =
      elim (beyond k t) [
        | inl b ↦
            (let e : k ≡ t = omega arith in
            let u = ap (λ j. front acts steps (suc j) v) e in
            omega arith)
        | inr a ↦
            (let old = since-at-most n k v stands last a (omega arith) is in
            let s = since-stays k v in
            comes acts steps k v (front_since everywhere steps holds stages t own (suc k) v) (omega arith) (λ on h.
            let e : everywhere k ≡ true = sym (last.agree k v a (omega arith) is h) ∙ on in (
              λ all. let g = gives-all everywhere steps k v e all h in omega arith,
              λ w from. elim (last.known k v w a (omega arith) is h e from) [
                | inl (close, i) ↦
                    (let x = since-at-most n k w stands last a (omega arith) close in
                    let y = since-gives k w v stands a e i from h in
                    omega arith)
                | inr same ↦ (let g = gives everywhere steps k w v e from h in omega arith)
              ],
            )))
      ]

pub overrides-are-exact : (N : Type 0) → OverridesAreExact N
overrides-are-exact N acts everywhere steps holds stages near t n v stands last is =
    let below : t < n = last.below in
    let a = since-at-least acts everywhere steps holds stages near t n v stands last.over below in
    let b = since-at-most acts everywhere steps holds stages near t n n v stands last below (omega arith) is in
    omega arith
