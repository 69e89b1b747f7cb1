-- How long the chains are that end at a command.
use Rattle.std.proofs.Common.{◌≡◌, ◌<◌, ◌≤◌, ◌⊎◌, ℕ, suc, ◌+◌, max, Bool, true, nat_lt, List, refl, sym, ◌∙◌, subst, inl, inr, arith}
use Rattle.std.proofs.lemmas.Bool.{cases_Bool, cases_eq, ltb-true, lt-ltb}
use Rattle.std.proofs.lemmas.Bool.Decides.{nat_tests}
use Rattle.ray_cmd.specs.declared.command.Command.{Command}
use Rattle.ray_rules.specs.Order.{barriers, before, Chain, alone, longer, IsLongest}
use Rattle.ray_sync.specs.declared.kind.Kind.{Kind}
use Rattle.ray_sync.specs.declared.kind.Kind.TheVariants.{Transfer, Build, StructureCopy, Compute, Barrier, Host}
use Rattle.ray_sync.specs.declared.per_kind.PerKind.{PerKind}
use Rattle.ray_sync.specs.Kinds.{kind_number, no_numbers, number_of, raised_at}
use Rattle.ray_sync.specs.Rows.{AreBests, IsBest, best_at, wave_of}

-- no chain is longer than what bounds those one command shorter
pub chain-most :
    (order : ℕ → ℕ → Bool) (w i n : ℕ) → Chain order i n
    → ((a j : ℕ) → Chain order a j → order a i ≡ true → suc j ≤ w) → n ≤ w
chain-most order w _ _ (alone i) h = omega arith
chain-most order w _ _ (longer a i n c t) h = let u = h a n c t in omega arith

-- the numbers are at most the wave
pub best-le : (bests : List PerKind) (limits : PerKind) (k : Kind) → best_at bests limits k ≤ wave_of bests limits
best-le bests limits Transfer = omega arith
best-le bests limits Build = omega arith
best-le bests limits StructureCopy = omega arith
best-le bests limits Compute = omega arith
best-le bests limits Barrier = omega arith
best-le bests limits Host = omega arith

-- and one of them is the wave
pub max-is : (x y : ℕ) → (max x y ≡ x) ⊎ (max x y ≡ y)
max-is x y =
    elim (cases_Bool (nat_lt x y)) [
      | inl l ↦ let m = ltb-true x y l in inr (omega arith)
      | inr g ↦ let m : y ≤ x = grind (arith, nat_tests) in inl (omega arith)
    ]

pub wave-is :
    (bests : List PerKind) (limits : PerKind) → (k : Kind) × (wave_of bests limits ≡ best_at bests limits k)
wave-is bests limits =
    let t : ℕ = best_at bests limits Transfer in
    let b : ℕ = best_at bests limits Build in
    let s : ℕ = best_at bests limits StructureCopy in
    let c : ℕ = best_at bests limits Compute in
    let r : ℕ = best_at bests limits Barrier in
    let h : ℕ = best_at bests limits Host in
    elim (max-is t (max b (max s (max c (max r h))))) [
      | inl e ↦ (Transfer, e)
      | inr e ↦
          elim (max-is b (max s (max c (max r h)))) [
            | inl f ↦ (Build, e ∙ f)
            | inr f ↦
                elim (max-is s (max c (max r h))) [
                  | inl g ↦ (StructureCopy, e ∙ (f ∙ g))
                  | inr g ↦
                      elim (max-is c (max r h)) [
                        | inl p ↦ (Compute, e ∙ (f ∙ (g ∙ p)))
                        | inr p ↦
                            elim (max-is r h) [
                              | inl q ↦ (Barrier, e ∙ (f ∙ (g ∙ (p ∙ q))))
                              | inr q ↦ (Host, e ∙ (f ∙ (g ∙ (p ∙ q))))
                            ]
                      ]
                ]
          ]
    ]

-- what is known of a command by its row
pub record AreLimits (rec : List Command) (i : ℕ) (limits : PerKind) : Type 0 where
  pub exact : (a : ℕ) → before (barriers rec) rec a i ≡ nat_lt a (number_of limits (kind_number rec a))
  pub within : (k : Kind) → number_of limits k ≤ i

-- the wave is the length of the longest chain
pub wave-there :
    (rec : List Command) (i : ℕ) (bests : List PerKind) (limits : PerKind) (k : Kind) → AreBests rec i bests
    → AreLimits rec i limits → Chain (before (barriers rec) rec) i (best_at bests limits k)
wave-there rec i bests limits k b l =
    elim ((b.are (number_of limits k) (l.within k)).there k) [
      | inl z ↦ subst (Chain (before (barriers rec) rec) i) (sym z) (alone i)
      | inr (a, j, m, e, c, s) ↦
          let below : nat_lt a (number_of limits (kind_number rec a)) ≡ true =
          lt-ltb a (number_of limits (kind_number rec a)) (subst (λ x. a < number_of limits x) (sym e) m)
          in
          let more : j + 1 ≡ suc j = omega arith in
          subst (Chain (before (barriers rec) rec) i) (more ∙ s) (longer a i j c (l.exact a ∙ below))
    ]

pub wave-most :
    (rec : List Command) (i : ℕ) (bests : List PerKind) (limits : PerKind) → AreBests rec i bests
    → AreLimits rec i limits → (a j : ℕ) → Chain (before (barriers rec) rec) a j → before (barriers rec) rec a i ≡ true → suc j ≤ wave_of bests limits
wave-most rec i bests limits b l a j c t =
    let k : Kind = kind_number rec a in
    let below = ltb-true a (number_of limits k) (sym (l.exact a) ∙ t) in
    let u = (b.are (number_of limits k) (l.within k)).most a j below c in
    let v = best-le bests limits k in
    omega arith

pub wave-longest :
    (rec : List Command) (i : ℕ) (bests : List PerKind) (limits : PerKind) → AreBests rec i bests
    → AreLimits rec i limits → IsLongest (before (barriers rec) rec) i (wave_of bests limits)
wave-longest rec i bests limits b l = record {
  there =
      let (k, e) = wave-is bests limits in
      subst (Chain (before (barriers rec) rec) i) (sym e) (wave-there rec i bests limits k b l);
  most = λ n c. chain-most (before (barriers rec) rec) (wave_of bests limits) i n c (wave-most rec i bests limits b l);
}

pub wave-within :
    (rec : List Command) (i : ℕ) (bests : List PerKind) (limits : PerKind) → AreBests rec i bests
    → AreLimits rec i limits → wave_of bests limits ≤ i
wave-within rec i bests limits b l =
    let (k, e) = wave-is bests limits in
    let w = (b.are (number_of limits k) (l.within k)).within k in
    let v = l.within k in
    omega arith

-- the number of a kind that is raised, and of the others
pub raised-same :
    (numbers : PerKind) (k : Kind) (number : ℕ) → number_of (raised_at numbers k number) k ≡ max (number_of numbers k) number
raised-same numbers Transfer number = refl
raised-same numbers Build number = refl
raised-same numbers StructureCopy number = refl
raised-same numbers Compute number = refl
raised-same numbers Barrier number = refl
raised-same numbers Host number = refl

pub raised-cases :
    (numbers : PerKind) (k other : Kind) (number : ℕ)
    → (k ≡ other) ⊎ (number_of (raised_at numbers k number) other ≡ number_of numbers other)
raised-cases numbers Transfer Transfer number = inl refl
raised-cases numbers Build Build number = inl refl
raised-cases numbers StructureCopy StructureCopy number = inl refl
raised-cases numbers Compute Compute number = inl refl
raised-cases numbers Barrier Barrier number = inl refl
raised-cases numbers Host Host number = inl refl
raised-cases numbers _ _ number = inr refl

pub raised-le :
    (numbers : PerKind) (k other : Kind) (number : ℕ)
    → number_of numbers other ≤ number_of (raised_at numbers k number) other
raised-le numbers k other number =
    elim (raised-cases numbers k other number) [
      | inl e ↦
          subst (λ x. number_of numbers x ≤ number_of (raised_at numbers k number) x) e
          (let s = raised-same numbers k number in omega arith)
      | inr e ↦ omega arith
    ]

pub none-of : (k : Kind) → number_of no_numbers k ≡ 0
none-of Transfer = refl
none-of Build = refl
none-of StructureCopy = refl
none-of Compute = refl
none-of Barrier = refl
none-of Host = refl

-- a number above 0 has a chain that ends one below it
abbrev pub IsThere : List Command → ℕ → Kind → ℕ → Type 0
IsThere rec m k number =
    (number ≡ 0)
    ⊎ ((a : ℕ)
    × (j : ℕ)
    × (a < m)
    × (kind_number rec a ≡ k)
    × Chain (before (barriers rec) rec) a j
    × (suc j ≡ number))

pub there-later : (rec : List Command) (m : ℕ) (k : Kind) (number : ℕ) → IsThere rec m k number → IsThere rec (suc m) k number
there-later rec m k number (inl z) = inl z
there-later rec m k number (inr (a, j, l, e, c, s)) = inr (a, j, omega arith, e, c, s)

pub there-raised :
    (rec : List Command) (i : ℕ) (best : PerKind) (w : ℕ) → IsBest rec i best → IsLongest (before (barriers rec) rec) i w
    → IsThere rec (suc i) (kind_number rec i) (number_of (raised_at best (kind_number rec i) (suc w)) (kind_number rec i))
there-raised rec i best w p l =
    let k : Kind = kind_number rec i in
    subst (IsThere rec (suc i) k) (sym (raised-same best k (suc w)))
    (elim (max-is (number_of best k) (suc w)) [
      | inl e ↦ subst (IsThere rec (suc i) k) (sym e) (there-later rec i k (number_of best k) (p.there k))
      | inr e ↦ inr (i, w, omega arith, refl, l.there, sym e)
    ])

pub best-there :
    (rec : List Command) (i : ℕ) (best : PerKind) (w : ℕ) (k : Kind) → IsBest rec i best
    → IsLongest (before (barriers rec) rec) i w
    → IsThere rec (suc i) k (number_of (raised_at best (kind_number rec i) (suc w)) k)
best-there rec i best w k p l =
    elim (raised-cases best (kind_number rec i) k (suc w)) [
      | inl e ↦
          subst (λ x. IsThere rec (suc i) x (number_of (raised_at best (kind_number rec i) (suc w)) x)) e
          (there-raised rec i best w p l)
      | inr e ↦
          subst (IsThere rec (suc i) k) (sym e) (there-later rec i k (number_of best k) (p.there k))
    ]

pub best-within :
    (rec : List Command) (i : ℕ) (best : PerKind) (w : ℕ) (k : Kind) → IsBest rec i best → w ≤ i
    → number_of (raised_at best (kind_number rec i) (suc w)) k ≤ suc i
best-within rec i best w k p within =
    let u = p.within k in
    elim (raised-cases best (kind_number rec i) k (suc w)) [
      | inl e ↦
          subst (λ x. number_of (raised_at best (kind_number rec i) (suc w)) x ≤ suc i) e
          (let s = raised-same best (kind_number rec i) (suc w) in
          let v = p.within (kind_number rec i) in omega arith)
      | inr e ↦ omega arith
    ]

-- from a command to the next
pub best-next :
    (rec : List Command) (i : ℕ) (best : PerKind) (w : ℕ) → IsBest rec i best → IsLongest (before (barriers rec) rec) i w → w ≤ i
    → IsBest rec (suc i) (raised_at best (kind_number rec i) (suc w))
best-next rec i best w p l within = record {
  most = λ a j m c.
      elim (cases_eq a i) [
        | inl e ↦
            let u = l.most j (subst (λ x. Chain (before (barriers rec) rec) x j) e c) in
            let s = raised-same best (kind_number rec i) (suc w) in
            subst (λ x. j < number_of (raised_at best (kind_number rec i) (suc w)) (kind_number rec x)) (sym e)
            (omega arith)
        | inr ne ↦
            let u = p.most a j (omega arith) c in
            let v = raised-le best (kind_number rec i) (kind_number rec a) (suc w) in
            omega arith
      ];
  there = λ k. best-there rec i best w k p l;
  within = λ k. best-within rec i best w k p within;
}

-- where no command stands before
pub best-first : (rec : List Command) → IsBest rec 0 no_numbers
best-first rec = record {
  most = λ a j m c. absurd (omega arith);
  there = λ k. inl (none-of k);
  within = λ k. let e = none-of k in omega arith;
}
