-- What is known of the rounds so far, with one command more.
use Rattle.std.proofs.Common.{◌≡◌, ◌<◌, ◌≤◌, inl, inr, ◌∙◌, ℕ, suc, ◌+◌, max, true, false, List, [], ◌∷◌, ◌++◌, length, length-append, sym, ap, subst, arith}
use Rattle.std.specs.Prelude.{slice_get}
use Rattle.std.proofs.Math.ListN.{get_or-append}
use Rattle.std.proofs.lemmas.Bool.{cases_Bool}
use Rattle.std.proofs.lemmas.List.{get_or_push}
use Rattle.ray_chains.specs.Fronts.{greatest_of}
use Rattle.ray_rules.specs.Order.{is_wait}
use Rattle.ray_submits.specs.Submits.{QueueCommands}
use Rattle.ray_queues.specs.declared.limits.Limits.{Limits}
use Rattle.ray_queues.specs.declared.order.Row.{Row}
use Rattle.ray_queues.specs.declared.rounds.Ahead.{Ahead}
use Rattle.ray_queues.specs.Kinds.{all_kinds, raised}
use Rattle.ray_queues.specs.Rounds.{AreRounds, RoundsRise, after_round, behind_wait, hosts_from, is_hosts, round_at, round_of}
use Rattle.ray_queues.specs.Rows.{HaveBests, IsQueueOrderOf, IsRow, best_in, row_at}
use Rattle.ray_queues.proofs.Above.{AreAbove, IsAbove, above-after, aboves-after, device-after_is, device-round_is, greatest-most, greatest-reached, have-aboves, host-after_is, host-round_is}
use Rattle.ray_queues.proofs.Going.{IsGoing, after_device, after_host, rounds-longest, rounds-rise, step-device, step-host, step-wait}
use Rattle.ray_queues.proofs.Hosts.{hosts-device, hosts-wait, hosts-within, left-of, wait-hosts}

module _ (q : QueueCommands) (rows : List Row) (order : IsQueueOrderOf q rows) (until n : ℕ) (within : until ≤ length rows)
    (less : n < until) (ahead : Ahead) (bests : List Limits) (rounds : List ℕ)
    (going : (left : ℕ) → n + left ≡ until → IsGoing q until left n ahead (round_at rounds))
    (aboves : AreAbove q n (round_at rounds) bests) (many : length rounds ≡ n)
    (row : Row) (row_is : row ≡ row_at rows n) where
  said : IsRow q n row
  said = subst (IsRow q n) (sym row_is) (order.are n (omega (arith, within, less)))

  pub bests-there : HaveBests bests row.limits
  bests-there = have-aboves q n (round_at rounds) bests row.limits aboves said.limits

  module _ (number : ℕ) (number_is : number ≡ greatest_of (best_in bests row.limits) all_kinds) (round : ℕ)
      (round_is : round ≡ round_of ahead row.kind number) where
    host-here : is_hosts q.commands n ≡ true → round ≡ ahead.host
    host-here e = round_is ∙ host-round_is q n row.kind said.kind ahead number e

    device-here : is_hosts q.commands n ≡ false → round ≡ max ahead.device number
    device-here e = round_is ∙ device-round_is q n row.kind said.kind ahead number e

    -- ---- how great the numbers get

    number-short : (left : ℕ) → n + 1 + left ≡ until → number ≤ n + hosts_from q.commands (suc left) n
    number-short left e =
        let is = going (suc left) (omega arith) in
        let short = is.short in
        elim (greatest-reached q n (round_at rounds) bests row.limits aboves said.limits number number_is) [
          | inl z ↦ omega arith
          | inr (p, low, b, s) ↦ (let t = is.below p low in omega arith)
        ]

    pub host-short : suc ahead.host ≤ until
    host-short =
        let (m, e) = left-of n until less in
        let is = going (suc m) (omega arith) in
        let low = is.low in
        omega arith

    pub round-short : suc round ≤ until
    round-short =
        let (m, e) = left-of n until less in
        let is = going (suc m) (omega arith) in
        let low = is.low in
        let rest = is.rest in
        let number_low = number-short m e in
        elim (cases_Bool (is_hosts q.commands n)) [
          | inl h ↦ (let r = host-here h in omega arith)
          | inr d ↦
              (let r = device-here d in
              let same = hosts-device q.commands m n d in
              let w = hosts-within q.commands m (suc n) in
              omega arith)
        ]

    -- ---- the next rounds

    module _ (after : List ℕ) (pushed : after ≡ rounds ++ round ∷ []) where
      next-same : (i : ℕ) → i < n → round_at after i ≡ round_at rounds i
      next-same i low =
          (λ k. round_at (pushed k) i) ∙ get_or-append rounds (round ∷ []) 0 i (omega (arith, low, many))

      next-here : round_at after n ≡ round
      next-here = (λ k. round_at (pushed k) n) ∙ get_or_push rounds round 0 n many

      pub next-many : length after ≡ n + 1
      next-many = ap length pushed ∙ (length-append rounds (round ∷ []) ∙ ap (λ m. m + 1) many)

      pub next-above : (best next : Limits) → next ≡ raised best row.kind (round + 1) → IsAbove q n (round_at rounds) best
          → IsAbove q (n + 1) (round_at after) next
      next-above best next e is =
          above-after q n (round_at rounds) (round_at after) next-same best next row.kind round said.kind next-here e is

      pub next-aboves : (next : Limits) (more : List Limits) → more ≡ bests ++ next ∷ [] → IsAbove q (n + 1) (round_at after) next
          → AreAbove q (n + 1) (round_at after) more
      next-aboves next more e is = aboves-after q n (round_at rounds) (round_at after) next-same bests more next e aboves is

      module _ (turned : Ahead) (turned_is : turned ≡ after_round ahead row.kind round) where
        module _ (left : ℕ) (ends : n + 1 + left ≡ until) where
          now : IsGoing q until (suc left) n ahead (round_at rounds)
          now = going (suc left) (omega arith)

          to-next : (a : Ahead) → IsGoing q until left (suc n) a (round_at after) → IsGoing q until left (n + 1) a (round_at after)
          to-next a is =
              let one : suc n ≡ n + 1 = omega arith in subst (λ m. IsGoing q until left m a (round_at after)) one is

          by-device : is_hosts q.commands n ≡ false → IsGoing q until left (n + 1) turned (round_at after)
          by-device d =
              let same : turned ≡ after_device ahead round = turned_is ∙ device-after_is q n row.kind said.kind ahead round d in
              to-next turned
              (subst (λ a. IsGoing q until left (suc n) a (round_at after)) (sym same)
              (step-device q until left n ahead (round_at rounds) (round_at after) now next-same d round number next-here
              (device-here d)
              (greatest-most q n (round_at rounds) bests row.limits aboves said.limits number number_is)
              (greatest-reached q n (round_at rounds) bests row.limits aboves said.limits number number_is)))

          turned-host : is_hosts q.commands n ≡ true → turned ≡ after_host ahead ahead.host
          turned-host h =
              turned_is ∙ (host-after_is q n row.kind said.kind ahead round h ∙ ap (after_host ahead) (host-here h))

          by-host : is_hosts q.commands n ≡ true → is_wait (slice_get q.commands n) ≡ false
              → IsGoing q until left (n + 1) turned (round_at after)
          by-host h w =
              to-next turned
              (subst (λ a. IsGoing q until left (suc n) a (round_at after)) (sym (turned-host h))
              (step-host q until left n ahead (round_at rounds) (round_at after) now next-same h (next-here ∙ host-here h) w))

          pub going-on : is_wait (slice_get q.commands n) ≡ false → IsGoing q until left (n + 1) turned (round_at after)
          going-on w = elim (cases_Bool (is_hosts q.commands n)) [
            | inl h ↦ by-host h w
            | inr d ↦ by-device d
          ]

          pub going-behind : is_wait (slice_get q.commands n) ≡ true → (hosts : ℕ) → hosts ≡ hosts_from q.commands left (n + 1)
              → (b : Ahead) → b ≡ behind_wait turned hosts → IsGoing q until left (n + 1) b (round_at after)
          going-behind w hosts many_hosts b e =
              let h = wait-hosts q.commands n w in
              let one : n + 1 ≡ suc n = omega arith in
              let all : hosts ≡ hosts_from q.commands left (suc n) = many_hosts ∙ ap (hosts_from q.commands left) one in
              to-next b
              (subst (λ a. IsGoing q until left (suc n) a (round_at after)) (sym (e ∙ λ i. behind_wait (turned-host h i) hosts))
              (step-wait q until left n ahead (round_at rounds) (round_at after) now next-same h (next-here ∙ host-here h) w hosts all))

          pub behind-short : is_wait (slice_get q.commands n) ≡ true → (hosts : ℕ) → hosts ≡ hosts_from q.commands left (n + 1)
              → turned.top + hosts ≤ until
          behind-short w hosts many_hosts =
              let h = wait-hosts q.commands n w in
              let top : turned.top ≡ max ahead.top (suc ahead.host) = (λ i. (turned-host h i).top) in
              let short = now.short in
              let low = now.low in
              let wide = hosts-within q.commands left (n + 1) in
              let one = hosts-wait q.commands left n w in
              omega arith

-- all of them
module _ (q : QueueCommands) (until n : ℕ) (ahead : Ahead) (rounds : List ℕ)
    (going : (left : ℕ) → n + left ≡ until → IsGoing q until left n ahead (round_at rounds)) (end : n ≡ until) where
  whole : IsGoing q until 0 until ahead (round_at rounds)
  whole = subst (λ m. IsGoing q until 0 m ahead (round_at rounds)) end (going 0 (omega arith))

  pub rounds-are : length rounds ≡ n → AreRounds q until rounds
  rounds-are many = record {
    many = many ∙ end;
    are = rounds-longest q until ahead (round_at rounds) whole;
  }

  pub rounds-do_rise : RoundsRise q until rounds
  rounds-do_rise = rounds-rise q until ahead (round_at rounds) whole
