-- The wave of a command is the length of the longest chain that ends there.
use Rattle.std.proofs.Common.{◌≡◌, ◌<◌, ◌≤◌, ◌⊎◌, ℕ, ◌+◌, zero, suc, Bool, true, max, if◌then◌else◌, List, sym, subst, ◌∙◌, ap, inl, inr, arith}
use Rattle.std.proofs.lemmas.Bool.{cases_Bool, cond-true, cond-false, cases_eq}
use Rattle.ray_chains.specs.Waves.{Chain, alone, longer, IsByKinds, AreWaves, WavesAreLongest}
use Rattle.ray_chains.proofs.Numbers.{beyond, among-greatest, greatest-is}

module _ {K : Type 0} (order : ℕ → ℕ → Bool) (kinds : List K) (is : K → ℕ → Bool) (limit best : ℕ → K → ℕ) (wave : ℕ → ℕ) where
  -- a number is above the waves of its kind
  best-above : AreWaves kinds is limit best wave → (m i : ℕ) (k : K) → i < m → is k i ≡ true → wave i < best m k
  best-above w zero i k l h = absurd (omega arith)
  best-above w (suc m) i k l h =
      let e = w.next m k in
      elim (cases_eq i m) [
        | inl same ↦
            (let c = cond-true (is k m) (suc (wave m)) 0 (sym (ap (is k) same) ∙ h) in
            let v = ap wave same in
            omega arith)
        | inr other ↦ (let u = best-above w m i k (omega arith) h in omega arith)
      ]

  -- and is 0 or one more than such a wave
  abbrev IsReached : ℕ → K → Type 0
  IsReached m k = (best m k ≡ 0) ⊎ ((i : ℕ) × (i < m) × (is k i ≡ true) × (suc (wave i) ≡ best m k))

  reached-next :
      (m : ℕ) (k : K) → best (suc m) k ≡ max (best m k) (if is k m then suc (wave m) else 0) → IsReached m k
      → IsReached (suc m) k
  reached-next m k e old =
      elim (beyond (if is k m then suc (wave m) else 0) (best m k)) [
        | inl b ↦ elim old [
          | inl z ↦ inl (omega arith)
          | inr (i, l, h, s) ↦ inr (i, omega arith, h, omega arith)
        ]
        | inr a ↦ elim (cases_Bool (is k m)) [
          | inl h ↦ (let c = cond-true (is k m) (suc (wave m)) 0 h in inr (m, omega arith, h, omega arith))
          | inr g ↦ (let c = cond-false (is k m) (suc (wave m)) 0 g in absurd (omega arith))
        ]
      ]

  best-reached : AreWaves kinds is limit best wave → (m : ℕ) (k : K) → IsReached m k
  best-reached w zero k = inl (w.first k)
  best-reached w (suc m) k = reached-next m k (w.next m k) (best-reached w m k)

  -- no chain is longer
  chain-most :
      IsByKinds order kinds is limit → AreWaves kinds is limit best wave → (n m : ℕ) → Chain order n m → m ≤ wave n
  chain-most o w _ _ (alone i) = omega arith
  chain-most o w _ _ (longer i j n c h) =
      let u = chain-most o w i n c in
      let (k, among, of, l) = o.only i j h in
      let b = best-above w (limit j k) i k l of in
      let g = among-greatest (λ x. best (limit j x) x) kinds k among in
      let e = w.waves j in
      omega arith

  -- one is as long
  abbrev HasChain : ℕ → Type 0
  HasChain n = Chain order n (wave n)

  has-chain :
      IsByKinds order kinds is limit → AreWaves kinds is limit best wave → (n : ℕ) → ((i : ℕ) → i < n → HasChain i) → HasChain n
  has-chain o w n before =
      elim (greatest-is (λ x. best (limit n x) x) kinds) [
        | inl z ↦ subst (Chain order n) (sym (w.waves n ∙ z)) (alone n)
        | inr (k, among, e) ↦ elim (best-reached w (limit n k) k) [
          | inl z ↦ subst (Chain order n) (sym (w.waves n ∙ (e ∙ z))) (alone n)
          | inr (i, l, of, s) ↦
              (let up = o.within n k in
              let more : wave i + 1 ≡ wave n = (let v = w.waves n in omega arith) in
              subst (Chain order n) more (longer i n (wave i) (before i (omega arith)) (o.ordered i n k among of l)))
        ]
      ]

  has-chains :
      IsByKinds order kinds is limit → AreWaves kinds is limit best wave → (b n : ℕ) → n < b → HasChain n
  has-chains o w zero n l = absurd (omega arith)
  has-chains o w (suc b) n l = has-chain o w n (λ i m. has-chains o w b i (omega arith))

pub waves-are-longest : (K : Type 0) → WavesAreLongest K
waves-are-longest K order kinds is limit best wave o w n = record {
  there = has-chains order kinds is limit best wave o w (suc n) n (omega arith);
  most = λ m c. chain-most order kinds is limit best wave o w n m c;
}
