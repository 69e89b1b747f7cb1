-- Fronts are exact, and five bounds on them, by which all later laws go: no later proof opens a front.
use Rattle.std.proofs.Common.{◌≡◌, ◌<◌, ◌≤◌, ℕ, zero, suc, Bool, true, false, ◌&&◌, ◌||◌, nat_lt, if◌then◌else◌, refl, sym, ◌∙◌, ap, inl, inr, arith}
use Rattle.std.specs.List.{list_any}
use Rattle.std.proofs.lemmas.Bool.{cases_Bool, cond-true, cond-false, ltb-true}
use Rattle.ray_chains.specs.Dependencies.{Step, IsIn, reached, reached_after}
use Rattle.ray_chains.specs.Fronts.{greatest_of, taken_up, front_after, front, FrontsAreExact, FrontsAreBounded, FrontsGoThrough, LaterStepsCount, AreTakenOver}
use Rattle.ray_chains.proofs.Numbers.{lt-max, lt-zero, lt-beyond, below-beyond, lt-choice, choice-within, choice-true, and-swap, lt-greatest, beyond, among-greatest, greatest-within}

module _ {N : Type 0} where
  -- what is taken up is at most the number of the step, where the fronts are
  taken-within :
      (s : Step N) (n : ℕ) (f : N → ℕ) → ((v : N) → f v ≤ n) → taken_up s n f ≤ n
  taken-within s n f w =
      elim (cases_Bool s.takes_all) [
        | inl t ↦ (let e = cond-true s.takes_all n (greatest_of f s.from) t in omega arith)
        | inr g ↦
            (let e = cond-false s.takes_all n (greatest_of f s.from) g in
            let u = greatest-within f s.from n (λ x i. w x) in omega arith)
      ]

  after-within :
      (s : Step N) (n : ℕ) (f : N → ℕ) (v : N) → ((u : N) → f u ≤ n) → front_after s n f v ≤ n
  after-within s n f v w =
      let u = w v in
      let t = choice-within (s.to v) (taken_up s n f) n (taken-within s n f w) in
      omega arith

  module _ (acts : ℕ → Bool) (steps : ℕ → Step N) where
    -- a step that doesn't act changes no front
    pub still : (n : ℕ) (v : N) → acts n ≡ false → front acts steps (suc n) v ≡ front acts steps n v
    still n v e = cond-false (acts n) (front_after (steps n) n (front acts steps n) v) (front acts steps n v) e

    pub acted :
        (n : ℕ) (v : N) → acts n ≡ true
        → front acts steps (suc n) v ≡ front_after (steps n) n (front acts steps n) v
    acted n v e = cond-true (acts n) (front_after (steps n) n (front acts steps n) v) (front acts steps n v) e

    after-one : (n : ℕ) (v : N) → ((u : N) → front acts steps n u ≤ n) → front acts steps (suc n) v ≤ n
    after-one n v w =
        elim (cases_Bool (acts n)) [
          | inl t ↦
              (let e = acted n v t in let u = after-within (steps n) n (front acts steps n) v w in omega arith)
          | inr g ↦ (let e = still n v g in let u = w v in omega arith)
        ]

    -- a front is at most the number at which it stands, and one less after a step
    pub within : (n : ℕ) (v : N) → front acts steps n v ≤ n
    within zero v = omega arith
    within (suc n) v = let u = after-one n v (λ u. within n u) in omega arith

    pub within-after : (n : ℕ) (v : N) → front acts steps (suc n) v ≤ n
    within-after n v = after-one n v (λ u. within n u)

    -- a front never falls
    pub stays : (n : ℕ) (v : N) → front acts steps n v ≤ front acts steps (suc n) v
    stays n v =
        elim (cases_Bool (acts n)) [
          | inl t ↦ (let e = acted n v t in omega arith)
          | inr g ↦ (let e = still n v g in omega arith)
        ]

    pub stays-on : (m n : ℕ) (v : N) → m ≤ n → front acts steps m v ≤ front acts steps n v
    stays-on m zero v l =
        let e : m ≡ 0 = omega arith in
        let u = ap (λ k. front acts steps k v) e in
        omega arith
    stays-on m (suc n) v l =
        elim (beyond m n) [
          | inl b ↦ (let u = stays-on m n v b in let s = stays n v in omega arith)
          | inr a ↦
              (let e : m ≡ suc n = omega arith in let u = ap (λ k. front acts steps k v) e in omega arith)
        ]

    -- a step that takes all hands on all before it
    pub gives-all :
        (n : ℕ) (v : N) → acts n ≡ true → (steps n).takes_all ≡ true → (steps n).to v ≡ true
        → n ≤ front acts steps (suc n) v
    gives-all n v a t h =
        let e = acted n v a in
        let g = cond-true (steps n).takes_all n (greatest_of (front acts steps n) (steps n).from) t in
        let c =
        choice-true ((steps n).to v) n (taken_up (steps n) n (front acts steps n)) h (omega arith)
        in
        omega arith

    -- a step hands on what has reached a node that it takes up from
    pub gives :
        (n : ℕ) (u v : N) → acts n ≡ true → IsIn u (steps n).from → (steps n).to v ≡ true
        → front acts steps n u ≤ front acts steps (suc n) v
    gives n u v a i h =
        elim (cases_Bool (steps n).takes_all) [
          | inl t ↦ (let w = within n u in let g = gives-all n v a t h in omega arith)
          | inr f ↦
              (let e = acted n v a in
              let w = among-greatest (front acts steps n) (steps n).from u i in
              let g = cond-false (steps n).takes_all n (greatest_of (front acts steps n) (steps n).from) f in
              let c =
              choice-true ((steps n).to v) (front acts steps n u) (taken_up (steps n) n (front acts steps n)) h
              (omega arith)
              in
              omega arith)
        ]

    -- what comes to a node is at most what was there, what a step takes whole, and what has reached the nodes
    -- that it takes up from
    pub comes :
        (n : ℕ) (v : N) (b : ℕ) → front acts steps n v ≤ b
        → (acts n ≡ true → (steps n).to v ≡ true
        → ((steps n).takes_all ≡ true → n ≤ b)
        × ((u : N) → IsIn u (steps n).from → front acts steps n u ≤ b))
        → front acts steps (suc n) v ≤ b
    comes n v b old new =
        elim (cases_Bool (acts n)) [
          | inr g ↦ (let e = still n v g in omega arith)
          | inl a ↦ elim (cases_Bool ((steps n).to v)) [
            | inr g ↦
                (let e = acted n v a in
                let c = cond-false ((steps n).to v) (taken_up (steps n) n (front acts steps n)) 0 g in
                omega arith)
            | inl h ↦
                (let e = acted n v a in
                let c = cond-true ((steps n).to v) (taken_up (steps n) n (front acts steps n)) 0 h in
                elim (cases_Bool (steps n).takes_all) [
                  | inl t ↦
                      (let g = cond-true (steps n).takes_all n (greatest_of (front acts steps n) (steps n).from) t in
                      let u = (new a h).0 t in
                      omega arith)
                  | inr f ↦
                      (let g = cond-false (steps n).takes_all n (greatest_of (front acts steps n) (steps n).from) f in
                      let u = greatest-within (front acts steps n) (steps n).from b (new a h).1 in
                      omega arith)
                ])
          ]
        ]

pub fronts-are-bounded : (N : Type 0) → FrontsAreBounded N
fronts-are-bounded N acts steps = record {
  within = within acts steps;
  stays = stays acts steps;
  still = still acts steps;
  gives_all = gives-all acts steps;
  gives = gives acts steps;
  comes = comes acts steps;
}

-- ---- exactness

module _ {N : Type 0} where
  lt-taken :
      (s : Step N) (n i : ℕ) (f : N → ℕ) → nat_lt i n ≡ true
      → nat_lt i (taken_up s n f) ≡ (s.takes_all || list_any (λ u. nat_lt i (f u)) s.from)
  lt-taken s n i f l = go s.takes_all
    where
      go : (b : Bool) → nat_lt i (if b then n else greatest_of f s.from) ≡ (b || list_any (λ u. nat_lt i (f u)) s.from)
      go true = l
      go false = lt-greatest i f s.from

  -- one step
  lt-after :
      (s : Step N) (n i : ℕ) (f : N → ℕ) (z : N → Bool) (v : N) → ((u : N) → z u ≡ nat_lt i (f u)) → nat_lt i n ≡ true
      → reached_after s z v ≡ nat_lt i (front_after s n f v)
  lt-after s n i f z v e l =
      let g : ℕ = taken_up s n f in
      (λ j. e v j || ((s.takes_all || list_any (λ u. e u j) s.from) && s.to v))
      ∙ (ap (λ b. nat_lt i (f v) || (b && s.to v)) (sym (lt-taken s n i f l))
      ∙ (ap (λ b. nat_lt i (f v) || b) (and-swap (nat_lt i g) (s.to v) ∙ sym (lt-choice (s.to v) i g))
      ∙ sym (lt-max i (f v) (if s.to v then g else 0))))

  -- at each number
  exact-at :
      (acts : ℕ → Bool) (steps : ℕ → Step N) (i n : ℕ) (v : N)
      → ((u : N) → reached acts steps i n u ≡ nat_lt i (front acts steps n u))
      → reached acts steps i (suc n) v ≡ nat_lt i (front acts steps (suc n) v)
  exact-at acts steps i n v e =
      elim (cases_Bool (nat_lt i n)) [
        | inl l ↦
            cond-true (nat_lt i n)
            (if acts n then reached_after (steps n) (reached acts steps i n) v else reached acts steps i n v) false l
            ∙ elim (cases_Bool (acts n)) [
              | inl a ↦
                  cond-true (acts n) (reached_after (steps n) (reached acts steps i n) v) (reached acts steps i n v) a
                  ∙ (lt-after (steps n) n i (front acts steps n) (reached acts steps i n) v e l
                  ∙ ap (nat_lt i) (sym (acted acts steps n v a)))
              | inr g ↦
                  cond-false (acts n) (reached_after (steps n) (reached acts steps i n) v) (reached acts steps i n v) g
                  ∙ (e v ∙ ap (nat_lt i) (sym (still acts steps n v g)))
            ]
        | inr g ↦
            (let above : n ≤ i = below-beyond i n g in
            let w = within-after acts steps n v in
            cond-false (nat_lt i n)
            (if acts n then reached_after (steps n) (reached acts steps i n) v else reached acts steps i n v) false g
            ∙ sym (lt-beyond i (front acts steps (suc n) v) (omega arith)))
      ]

  fronts-exact :
      (acts : ℕ → Bool) (steps : ℕ → Step N) (i n : ℕ) (v : N)
      → reached acts steps i n v ≡ nat_lt i (front acts steps n v)
  fronts-exact acts steps i zero v = sym (lt-zero i)
  fronts-exact acts steps i (suc n) v = exact-at acts steps i n v (λ u. fronts-exact acts steps i n u)

pub fronts-are-exact : (N : Type 0) → FrontsAreExact N
fronts-are-exact N = fronts-exact

module _ {N : Type 0} where
  later-steps :
      (acts others : ℕ → Bool) (steps : ℕ → Step N) (i n : ℕ) (v : N) → ((m : ℕ) → i < m → acts m ≡ others m)
      → reached acts steps i n v ≡ reached others steps i n v
  later-steps acts others steps i zero v h = refl
  later-steps acts others steps i (suc n) v h =
      let e : (u : N) → reached acts steps i n u ≡ reached others steps i n u = λ u. later-steps acts others steps i n u h in
      elim (cases_Bool (nat_lt i n)) [
        | inl l ↦
            (let a : acts n ≡ others n = h n (ltb-true i n l) in
            λ j. if nat_lt i n then
            (if a j then reached_after (steps n) (λ u. e u j) v else e v j)
            else false)
        | inr g ↦
            cond-false (nat_lt i n)
            (if acts n then reached_after (steps n) (reached acts steps i n) v else reached acts steps i n v) false g
            ∙ sym (cond-false (nat_lt i n)
            (if others n then reached_after (steps n) (reached others steps i n) v else reached others steps i n v) false g)
      ]

pub later-steps-count : (N : Type 0) → LaterStepsCount N
later-steps-count N = later-steps

-- fronts go through a map of nodes where steps are taken over
pub front-through :
    {N M : Type 0} (map_node : N → M) (acts : ℕ → Bool) (steps : ℕ → Step N) (other_acts : ℕ → Bool) (others : ℕ → Step M)
    → AreTakenOver map_node acts steps other_acts others → (n : ℕ) (v : N)
    → front acts steps n v ≤ front other_acts others n (map_node v)
front-through map_node acts steps other_acts others over zero v = omega arith
front-through map_node acts steps other_acts others over (suc n) v =
    let e = front-through map_node acts steps other_acts others over n v in
    let s = stays other_acts others n (map_node v) in
    comes acts steps n v (front other_acts others (suc n) (map_node v)) (omega arith) (λ a h. (
      λ t. gives-all other_acts others n (map_node v) (over.acting n a) (over.taking n t) (over.to n v h),
      λ u i.
          let b = front-through map_node acts steps other_acts others over n u in
          let g =
          gives other_acts others n (map_node u) (map_node v) (over.acting n a) (over.from n u i) (over.to n v h)
          in
          omega arith,
    ))

pub fronts-go-through : (N M : Type 0) → FrontsGoThrough N M
fronts-go-through N M = front-through
