-- The greatest rounds of commands of each kind, number after number, and what they make a command's round.
use Rattle.std.proofs.Common.{◌≡◌, ◌<◌, ◌≤◌, ◌⊎◌, inl, inr, ◌∙◌, ℕ, zero, suc, ◌+◌, max, true, false, nat_lt, List, [], ◌∷◌, ◌++◌, length, length-append, refl, sym, subst, arith}
use Rattle.std.specs.Prelude.{if◌then◌else◌}
use Rattle.std.proofs.Math.ListN.{get_or-append}
use Rattle.std.proofs.lemmas.Bool.{cases_Bool, cases_eq, cond-true, cond-false}
use Rattle.std.proofs.lemmas.List.{get_or_push}
use Rattle.ray_chains.specs.Fronts.{greatest_of}
use Rattle.ray_chains.proofs.Numbers.{among-greatest, beyond, greatest-is}
use Rattle.ray_rules.specs.declared.kind.Kind.{Kind}
use Rattle.ray_rules.specs.declared.kind.Kind.TheVariants as rules
use Rattle.ray_rules.specs.Kinds.{is_by_host}
use Rattle.ray_rules.specs.Order.{before, kind_at}
use Rattle.ray_submits.specs.Submits.{QueueCommands, queue_of}
use Rattle.ray_queues.specs.declared.limits.Limits.{Limits}
use Rattle.ray_queues.specs.declared.rounds.Ahead.{Ahead}
use Rattle.ray_queues.specs.declared.wave_kind.WaveKind.{WaveKind}
use Rattle.ray_queues.specs.Kinds.{IsLimits, all_kinds, kind_named, no_limits, number_of, raised, same_kind, wave_kind}
use Rattle.ray_queues.specs.QueueOrder.{queue_order}
use Rattle.ray_queues.specs.Rounds.{after_round, is_hosts, round_of}
use Rattle.ray_queues.specs.Rows.{HaveBests, best_at, best_in}
use Rattle.ray_queues.proofs.Hosts.{true-less, less-true}
use Rattle.ray_queues.proofs.Longest.{none-is}
use Rattle.ray_queues.proofs.Raised.{among-all, kinds-same, raised-is, self-kind}
use Rattle.ray_queues.proofs.Going.{IsReached, after_device, after_host}

module _ (q : QueueCommands) where
  -- numbers above the rounds of the commands of each kind below number m, and the least such
  pub record IsAbove (m : ℕ) (number : ℕ → ℕ) (best : Limits) : Type 0 where
    pub most : (i : ℕ) → i < m → number i < number_of best (wave_kind q i)
    pub there :
        (k : WaveKind)
        → (number_of best k ≡ 0)
        ⊎ ((i : ℕ) × (i < m) × (wave_kind q i ≡ k) × (suc (number i) ≡ number_of best k))

  -- where each command up to number n stands
  pub record AreAbove (n : ℕ) (number : ℕ → ℕ) (bests : List Limits) : Type 0 where
    pub many : length bests ≡ suc n
    pub are : (m : ℕ) → m ≤ n → IsAbove m number (best_at bests m)

  pub above-first : (number : ℕ → ℕ) (best : Limits) → best ≡ no_limits → IsAbove 0 number best
  above-first number best e = subst (IsAbove 0 number) (sym e) (record {
    most = λ i less. absurd (omega (arith, less));
    there = λ k. inl (none-is k);
  })

  pub aboves-first : (number : ℕ → ℕ) (best : Limits) (bests : List Limits) → best ≡ no_limits → bests ≡ [] ++ best ∷ []
      → AreAbove 0 number bests
  aboves-first number best bests e f = subst (AreAbove 0 number) (sym f) (record { many = refl; are = first })
    where
      first : (m : ℕ) → m ≤ 0 → IsAbove m number (best_at (best ∷ []) m)
      first zero low = above-first number best e
      first (suc m) low = absurd (omega (arith, low))

  -- ---- what they make a round

  module _ (n : ℕ) (number : ℕ → ℕ) (bests : List Limits) (limits : Limits) (aboves : AreAbove n number bests)
      (is : IsLimits q n limits) where
    abbrev pub greatest : ℕ
    greatest = greatest_of (best_in bests limits) all_kinds

    pub have-aboves : HaveBests bests limits
    have-aboves = record { each = λ k. let low = is.within k in let many = aboves.many in omega arith }

    pub greatest-most : (number_below : ℕ) → number_below ≡ greatest → (i : ℕ) → i < n
        → before (queue_order q) q.commands i n ≡ true → number i < number_below
    greatest-most number_below e i less h =
        let k = wave_kind q i in
        let low = true-less i (number_of limits k) (sym (is.ordered i) ∙ h) in
        let b = (aboves.are (number_of limits k) (is.within k)).most i low in
        let g = among-greatest (best_in bests limits) all_kinds k (among-all k) in
        omega arith

    greatest-there : IsReached n (λ p. before (queue_order q) q.commands p n) number greatest
    greatest-there = elim (greatest-is (best_in bests limits) all_kinds) [
      | inl z ↦ inl z
      | inr (k, among, e) ↦ elim ((aboves.are (number_of limits k) (is.within k)).there k) [
        | inl z ↦ inl (e ∙ z)
        | inr (p, below, of, s) ↦
            (let low = is.within k in
            let first : before (queue_order q) q.commands p n ≡ true =
            is.ordered p ∙ ((λ i. nat_lt p (number_of limits (of i))) ∙ less-true p (number_of limits k) below) in
            inr (p, omega (arith, below, low), first, s ∙ sym e))
      ]
    ]

    pub greatest-reached : (number_below : ℕ) → number_below ≡ greatest
        → IsReached n (λ p. before (queue_order q) q.commands p n) number number_below
    greatest-reached number_below e =
        subst (IsReached n (λ p. before (queue_order q) q.commands p n) number) (sym e) greatest-there

  -- ---- one command more

  module _ (n : ℕ) (number next : ℕ → ℕ) (same : (i : ℕ) → i < n → next i ≡ number i) where
    above-still : (m : ℕ) (best : Limits) → m ≤ n → IsAbove m number best → IsAbove m next best
    above-still m best low is = record {
      most = λ i less.
          let s = same i (omega (arith, less, low)) in
          let b = is.most i less in
          omega arith;
      there = λ k. elim (is.there k) [
        | inl z ↦ inl z
        | inr (i, less, of, e) ↦ (let s = same i (omega (arith, less, low)) in inr (i, less, of, omega arith))
      ];
    }

    above-next : (best : Limits) (round : ℕ) → next n ≡ round → IsAbove n number best
        → IsAbove (suc n) next (raised best (wave_kind q n) (suc round))
    above-next best round here old =
        let is = above-still n best (omega arith) old in
        record {
          most = λ i less. elim (cases_eq i n) [
            | inl e ↦
                (let r = raised-is best (wave_kind q n) (wave_kind q n) (suc round) in
                let one = cond-true (same_kind (wave_kind q n) (wave_kind q n)) (suc round) 0 (self-kind (wave_kind q n)) in
                let at : next n < number_of (raised best (wave_kind q n) (suc round)) (wave_kind q n) = omega arith in
                subst (λ m. next m < number_of (raised best (wave_kind q n) (suc round)) (wave_kind q m)) (sym e) at)
            | inr other ↦
                (let b = is.most i (omega arith) in
                let r = raised-is best (wave_kind q n) (wave_kind q i) (suc round) in
                omega arith)
          ];
          there = λ k.
              let r = raised-is best (wave_kind q n) k (suc round) in
              elim (beyond (if same_kind k (wave_kind q n) then suc round else 0) (number_of best k)) [
                | inl b ↦ elim (is.there k) [
                  | inl z ↦ inl (omega arith)
                  | inr (i, l, of, e) ↦ inr (i, omega arith, of, omega arith)
                ]
                | inr more ↦ elim (cases_Bool (same_kind k (wave_kind q n))) [
                  | inl h ↦
                      (let one = cond-true (same_kind k (wave_kind q n)) (suc round) 0 h in
                      inr (n, omega arith, sym (kinds-same k (wave_kind q n) h), omega arith))
                  | inr g ↦ (let one = cond-false (same_kind k (wave_kind q n)) (suc round) 0 g in absurd (omega arith))
                ]
              ];
        }

    pub above-after : (best after : Limits) (kind : WaveKind) (round : ℕ) → kind ≡ wave_kind q n → next n ≡ round
        → after ≡ raised best kind (round + 1) → IsAbove n number best → IsAbove (n + 1) next after
    above-after best after kind round e here f is =
        let more : suc n ≡ n + 1 = omega arith in
        let one : round + 1 ≡ suc round = omega arith in
        subst (λ m. IsAbove m next after) more
        (subst (IsAbove (suc n) next) (sym (f ∙ λ i. raised best (e i) (one i))) (above-next best round here is))

    pub aboves-after : (bests after : List Limits) (best : Limits) → after ≡ bests ++ best ∷ [] → AreAbove n number bests
        → IsAbove (n + 1) next best → AreAbove (n + 1) next after
    aboves-after bests after best e aboves is = subst (AreAbove (n + 1) next) (sym e) (record {
      many = length-append bests (best ∷ []) ∙ (let many = aboves.many in omega arith);
      are = λ m low. let many = aboves.many in elim (cases_eq m (n + 1)) [
        | inl f ↦
            subst (λ k. IsAbove k next (best_at (bests ++ best ∷ []) m)) (sym f)
            (subst (IsAbove (n + 1) next) (sym (get_or_push bests best no_limits m (omega arith))) is)
        | inr other ↦
            (let less : m ≤ n = omega arith in
            subst (IsAbove m next) (sym (get_or-append bests (best ∷ []) no_limits m (omega arith)))
            (above-still m (best_at bests m) less (aboves.are m less)))
      ];
    })

-- ---- by what a command is

-- whether the host does command number n, by its kind
device-round : (kind : Kind) (queue : ℕ) (a : Ahead) (number : ℕ) → is_by_host kind ≡ false
    → round_of a (kind_named kind queue) number ≡ max a.device number
device-round (rules.Device stage) queue a number e = refl
device-round rules.Barrier queue a number e = refl
device-round rules.HostCommand queue a number e = absurd cc

device-after : (kind : Kind) (queue : ℕ) (a : Ahead) (round : ℕ) → is_by_host kind ≡ false
    → after_round a (kind_named kind queue) round ≡ after_device a round
device-after (rules.Device stage) queue a round e = refl
device-after rules.Barrier queue a round e = refl
device-after rules.HostCommand queue a round e = absurd cc

host-round : (kind : Kind) (queue : ℕ) (a : Ahead) (number : ℕ) → is_by_host kind ≡ true
    → round_of a (kind_named kind queue) number ≡ a.host
host-round (rules.Device stage) queue a number e = absurd cc
host-round rules.Barrier queue a number e = absurd cc
host-round rules.HostCommand queue a number e = refl

host-after : (kind : Kind) (queue : ℕ) (a : Ahead) (round : ℕ) → is_by_host kind ≡ true
    → after_round a (kind_named kind queue) round ≡ after_host a round
host-after (rules.Device stage) queue a round e = absurd cc
host-after rules.Barrier queue a round e = absurd cc
host-after rules.HostCommand queue a round e = refl

module _ (q : QueueCommands) (n : ℕ) (kind : WaveKind) (named : kind ≡ wave_kind q n) (a : Ahead) where
  pub device-round_is : (number : ℕ) → is_hosts q.commands n ≡ false → round_of a kind number ≡ max a.device number
  device-round_is number e =
      (λ i. round_of a (named i) number) ∙ device-round (kind_at q.commands n) (queue_of q n) a number e

  pub device-after_is : (round : ℕ) → is_hosts q.commands n ≡ false → after_round a kind round ≡ after_device a round
  device-after_is round e =
      (λ i. after_round a (named i) round) ∙ device-after (kind_at q.commands n) (queue_of q n) a round e

  pub host-round_is : (number : ℕ) → is_hosts q.commands n ≡ true → round_of a kind number ≡ a.host
  host-round_is number e =
      (λ i. round_of a (named i) number) ∙ host-round (kind_at q.commands n) (queue_of q n) a number e

  pub host-after_is : (round : ℕ) → is_hosts q.commands n ≡ true → after_round a kind round ≡ after_host a round
  host-after_is round e =
      (λ i. after_round a (named i) round) ∙ host-after (kind_at q.commands n) (queue_of q n) a round e
