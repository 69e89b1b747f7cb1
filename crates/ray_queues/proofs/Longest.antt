-- The longest chains of commands, by numbers of their kinds.
use Rattle.std.proofs.Common.{◌≡◌, ◌<◌, ◌≤◌, ◌⊎◌, inl, inr, ◌∙◌, ℕ, zero, suc, ◌+◌, Bool, true, nat_lt, List, [], ◌∷◌, ◌++◌, length, map, length-append, refl, sym, ap, subst, arith}
use Rattle.std.specs.Prelude.{Some, if◌then◌else◌, slice_get}
use Rattle.std.specs.Option.{option_map_or}
use Rattle.std.proofs.Math.ListN.{get_or-append}
use Rattle.std.proofs.lemmas.Bool.{cases_Bool, cases_eq, cond-true, cond-false}
use Rattle.std.proofs.lemmas.Bool.Decides.{nat_tests}
use Rattle.std.proofs.lemmas.List.{get_or_push, map-append}
use Rattle.ray_chains.specs.Fronts.{greatest_of}
use Rattle.ray_chains.proofs.Numbers.{among-greatest, beyond, choice-within, greatest-is, greatest-within}
use Rattle.ray_cmd.specs.declared.command.Command.{Command}
use Rattle.ray_rules.specs.declared.kind.Kind.{Kind}
use Rattle.ray_rules.specs.declared.kind.Kind.TheVariants.{HostCommand}
use Rattle.ray_rules.specs.Kinds.{kind_of}
use Rattle.ray_rules.specs.Order.{Chain, IsLongest, alone, kind_at, longer}
use Rattle.ray_submits.specs.Submits.{QueueCommands}
use Rattle.ray_queues.specs.declared.limits.Limits.{Limits}
use Rattle.ray_queues.specs.declared.order.Row.{Row}
use Rattle.ray_queues.specs.declared.wave_kind.WaveKind.{WaveKind}
use Rattle.ray_queues.specs.declared.wave_kind.WaveKind.TheVariants.{Work, Barrier, Host}
use Rattle.ray_queues.specs.Kinds.{IsLimits, all_kinds, no_limits, number_of, raised, same_kind, wave_kind}
use Rattle.ray_queues.specs.Rows.{AreBests, HaveBests, IsBest, IsQueueOrderOf, IsRow, best_at, best_in, no_row, order_of, row_at}
use Rattle.ray_queues.proofs.Raised.{among-all, kinds-same, raised-is, self-kind}
use Rattle.ray_queues.proofs.Named.{all-queue}

lt-true : (a b : ℕ) → a < b → nat_lt a b ≡ true
lt-true a b h = grind (arith, nat_tests)

below-true : (a b : ℕ) → nat_lt a b ≡ true → a < b
below-true a b h = grind (arith, nat_tests)

pub none-is : (k : WaveKind) → number_of no_limits k ≡ 0
none-is (Work queue stage) = all-queue 0 queue stage
none-is Barrier = refl
none-is Host = refl

-- a chain has one command, or one more than another
chain-cases :
    (order : ℕ → ℕ → Bool) (n j : ℕ) → Chain order n j
    → (j ≡ 0) ⊎ ((i : ℕ) × (m : ℕ) × Chain order i m × (order i n ≡ true) × (j ≡ m + 1))
chain-cases order _ _ (alone i) = inl refl
chain-cases order _ _ (longer i n m c h) = inr (i, m, c, h, refl)

module _ (q : QueueCommands) where
  best-none : IsBest q 0 no_limits
  best-none = record {
    most = λ a j below c. absurd (omega (arith, below));
    there = λ k. inl (none-is k);
    within = λ k. let e = none-is k in omega arith;
  }

  pub best-first : (best : Limits) → best ≡ no_limits → IsBest q 0 best
  best-first best e = subst (IsBest q 0) (sym e) best-none

  first-at : (m : ℕ) → m ≤ 0 → IsBest q m (best_at (no_limits ∷ []) m)
  first-at zero low = best-none
  first-at (suc m) low = absurd (omega (arith, low))

  pub bests-first : (best : Limits) (bests : List Limits) → best ≡ no_limits → bests ≡ [] ++ best ∷ [] → AreBests q 0 bests
  bests-first best bests e f =
      subst (AreBests q 0) (sym (f ∙ λ i. e i ∷ [])) (record { many = refl; are = first-at })

  -- ---- the wave of a command

  module _ (bests : List Limits) (n : ℕ) (limits : Limits) (bs : AreBests q n bests) (is : IsLimits q n limits) where
    abbrev greatest : ℕ
    greatest = greatest_of (best_in bests limits) all_kinds

    bounded : (k : WaveKind) → best_in bests limits k ≤ n
    bounded k =
        let low = is.within k in
        let w = (bs.are (number_of limits k) low).within k in
        omega arith

    pub wave-within : (wave : ℕ) → wave ≡ greatest → wave ≤ n
    wave-within wave e = let w = greatest-within (best_in bests limits) all_kinds n (λ k i. bounded k) in omega arith

    wave-most : (j : ℕ) → Chain (order_of q) n j → j ≤ greatest
    wave-most j chain = elim (chain-cases (order_of q) n j chain) [
      | inl z ↦ omega arith
      | inr (i, m, c, h, e) ↦
          (let k = wave_kind q i in
          let below = below-true i (number_of limits k) (sym (is.ordered i) ∙ h) in
          let b = (bs.are (number_of limits k) (is.within k)).most i m below c in
          let g = among-greatest (best_in bests limits) all_kinds k (among-all k) in
          omega arith)
    ]

    wave-there : Chain (order_of q) n greatest
    wave-there = elim (greatest-is (best_in bests limits) all_kinds) [
      | inl z ↦ subst (Chain (order_of q) n) (sym z) (alone n)
      | inr (k, among, e) ↦ elim ((bs.are (number_of limits k) (is.within k)).there k) [
        | inl z ↦ subst (Chain (order_of q) n) (sym (e ∙ z)) (alone n)
        | inr (a, j, below, of, c, s) ↦
            (let first : order_of q a n ≡ true =
            is.ordered a ∙ ((λ i. nat_lt a (number_of limits (of i))) ∙ lt-true a (number_of limits k) below) in
            let more : j + 1 ≡ greatest = omega arith in
            subst (Chain (order_of q) n) more (longer a n j c first))
      ]
    ]

    pub wave-is : (wave : ℕ) → wave ≡ greatest → IsLongest (order_of q) n wave
    wave-is wave e = record {
      there = subst (Chain (order_of q) n) (sym e) wave-there;
      most = λ j c. let m = wave-most j c in omega arith;
    }

    pub have-bests : HaveBests bests limits
    have-bests = record { each = λ k. let low = is.within k in let many = bs.many in omega arith }

  -- ---- one command more

  best-next : (n : ℕ) (best : Limits) (wave : ℕ) → IsBest q n best → IsLongest (order_of q) n wave → wave ≤ n
      → IsBest q (suc n) (raised best (wave_kind q n) (suc wave))
  best-next n best wave is long low = record {
    most = λ a j below c. elim (cases_eq a n) [
      | inl same ↦
          (let long_is = long.most j (subst (λ m. Chain (order_of q) m j) same c) in
          let e = raised-is best (wave_kind q n) (wave_kind q n) (suc wave) in
          let one = cond-true (same_kind (wave_kind q n) (wave_kind q n)) (suc wave) 0 (self-kind (wave_kind q n)) in
          let at : j < number_of (raised best (wave_kind q n) (suc wave)) (wave_kind q n) = omega arith in
          subst (λ m. j < number_of (raised best (wave_kind q n) (suc wave)) (wave_kind q m)) (sym same) at)
      | inr other ↦
          (let old = is.most a j (omega arith) c in
          let e = raised-is best (wave_kind q n) (wave_kind q a) (suc wave) in
          omega arith)
    ];
    there = λ k.
        let e = raised-is best (wave_kind q n) k (suc wave) in
        elim (beyond (if same_kind k (wave_kind q n) then suc wave else 0) (number_of best k)) [
          | inl b ↦ elim (is.there k) [
            | inl z ↦ inl (omega arith)
            | inr (a, j, l, of, c, s) ↦ inr (a, j, omega arith, of, c, omega arith)
          ]
          | inr more ↦ elim (cases_Bool (same_kind k (wave_kind q n))) [
            | inl h ↦
                (let one = cond-true (same_kind k (wave_kind q n)) (suc wave) 0 h in
                inr (n, wave, omega arith, sym (kinds-same k (wave_kind q n) h), long.there, omega arith))
            | inr g ↦ (let one = cond-false (same_kind k (wave_kind q n)) (suc wave) 0 g in absurd (omega arith))
          ]
        ];
    within = λ k.
        let e = raised-is best (wave_kind q n) k (suc wave) in
        let old = is.within k in
        let new = choice-within (same_kind k (wave_kind q n)) (suc wave) (suc n) (omega arith) in
        omega arith;
  }

  pub best-after : (n : ℕ) (best next : Limits) (kind : WaveKind) (wave : ℕ) → kind ≡ wave_kind q n
      → next ≡ raised best kind (wave + 1) → IsBest q n best → IsLongest (order_of q) n wave → wave ≤ n
      → IsBest q (n + 1) next
  best-after n best next kind wave e f is long low =
      let more : suc n ≡ n + 1 = omega arith in
      let one : wave + 1 ≡ suc wave = omega arith in
      subst (λ m. IsBest q m next) more
      (subst (IsBest q (suc n)) (sym (f ∙ λ i. raised best (e i) (one i))) (best-next n best wave is long low))

  pub bests-after : (n : ℕ) (bests after : List Limits) (next : Limits) → after ≡ bests ++ next ∷ []
      → AreBests q n bests → IsBest q (n + 1) next → AreBests q (n + 1) after
  bests-after n bests after next e bs is = subst (AreBests q (n + 1)) (sym e) (record {
    many = length-append bests (next ∷ []) ∙ (let many = bs.many in omega arith);
    are = λ m low. let many = bs.many in elim (cases_eq m (n + 1)) [
      | inl same ↦
          subst (λ k. IsBest q k (best_at (bests ++ next ∷ []) m)) (sym same)
          (subst (IsBest q (n + 1)) (sym (get_or_push bests next no_limits m (omega arith))) is)
      | inr other ↦
          subst (IsBest q m) (sym (get_or-append bests (next ∷ []) no_limits m (omega arith))) (bs.are m (omega arith))
    ];
  })

  pub rows-after : (n : ℕ) (rows after : List Row) (row : Row) → after ≡ rows ++ row ∷ [] → length rows ≡ n
      → IsQueueOrderOf q rows → IsRow q n row → IsQueueOrderOf q after
  rows-after n rows after row e many is here = subst (IsQueueOrderOf q) (sym e) (record {
    are = λ i below.
        let longer_by = length-append rows (row ∷ []) in
        elim (cases_eq i n) [
          | inl same ↦
              subst (λ k. IsRow q k (row_at (rows ++ row ∷ []) i)) (sym same)
              (subst (IsRow q n) (sym (get_or_push rows row no_row i (many ∙ sym same))) here)
          | inr other ↦
              (let low : i < length rows = omega arith in
              subst (IsRow q i) (sym (get_or-append rows (row ∷ []) no_row i low)) (is.are i low))
        ];
  })

pub waves-after : (rows after : List Row) (waves next : List ℕ) (row : Row) → after ≡ rows ++ row ∷ []
    → next ≡ waves ++ row.wave ∷ [] → waves ≡ map (λ (r : Row). r.wave) rows → next ≡ map (λ (r : Row). r.wave) after
waves-after rows after waves next row e f is =
    f ∙ ((λ i. is i ++ row.wave ∷ []) ∙ (sym (map-append (λ (r : Row). r.wave) rows (row ∷ [])) ∙ ap (map (λ (r : Row). r.wave)) (sym e)))

pub rows-none : (q : QueueCommands) (rows : List Row) → rows ≡ [] → IsQueueOrderOf q rows
rows-none q rows e = subst (IsQueueOrderOf q) (sym e) (record { are = λ i below. absurd (omega (arith, below)) })

-- the kind of a command
pub kind-here : (cs : List Command) (n : ℕ) (c : Command) (kind : Kind) → slice_get cs n ≡ Some c → kind ≡ kind_of c
    → kind ≡ kind_at cs n
kind-here cs n c kind there e = e ∙ λ i. option_map_or kind_of (sym there i) HostCommand
