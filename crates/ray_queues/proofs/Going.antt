-- The rounds of commands, number after number.
use Rattle.std.proofs.Common.{◌≡◌, ◌<◌, ◌≤◌, ◌⊎◌, inl, inr, ◌∙◌, ℕ, zero, suc, ◌+◌, max, Bool, true, false, nat_lt, refl, sym, ap, subst, arith}
use Rattle.std.specs.Prelude.{◌||◌, slice_get}
use Rattle.std.proofs.lemmas.Bool.{cases_Bool, cases_eq}
use Rattle.ray_chains.proofs.Numbers.{beyond}
use Rattle.ray_rules.specs.Order.{Chain, IsLongest, alone, before, is_wait, last_wait, longer}
use Rattle.ray_submits.specs.Submits.{QueueCommands}
use Rattle.ray_queues.specs.declared.rounds.Ahead.{Ahead}
use Rattle.ray_queues.specs.QueueOrder.{queue_order}
use Rattle.ray_queues.specs.Rounds.{behind_wait, hosts_from, is_ahead, is_hosts}
use Rattle.ray_queues.proofs.Hosts.{Reason, in_turn, no_wait, waited, ordered, ahead-before, ahead-host, ahead-hosts, ahead-less, ahead-waited, before-host, before-less, device-goes_on, hosts-device, hosts-host, hosts-some, hosts-wait, last-below, last-here, last-same, least-false, less-true, no, or-cases, or-first, or-neither, or-second, reason-of, true-less, false-least}

-- the next rounds behind a command of the device, and behind one of the host
abbrev pub after_device : Ahead → ℕ → Ahead
after_device a round = record a { top = max a.top (suc round) }

abbrev pub after_host : Ahead → ℕ → Ahead
after_host a round = record a { host = suc a.host; top = max a.top (suc round) }

-- a number is 0, or one more than that of a command below number n of some
abbrev pub IsReached : ℕ → (ℕ → Bool) → (ℕ → ℕ) → ℕ → Type 0
IsReached n some number t = (t ≡ 0) ⊎ ((p : ℕ) × (p < n) × (some p ≡ true) × (suc (number p) ≡ t))

abbrev pub any : ℕ → Bool
any p = true

module _ (q : QueueCommands) where
  -- whether the next command of the host comes behind command number i, of those below number n
  abbrev pub is_passed : ℕ → ℕ → Bool
  is_passed n i = is_hosts q.commands i || nat_lt i (last_wait q.commands n)

  -- why a command below number n has its round: it has none before it, or one with the round before, or it
  -- waits for the last of the host's commands up to the next `wait`, which are still to come
  abbrev pub IsUnder : ℕ → ℕ → ℕ → Ahead → (ℕ → ℕ) → ℕ → Type 0
  IsUnder u left n a number i =
      IsReached n (λ p. is_ahead q u p i) number (number i)
      ⊎ ((is_passed n i ≡ false) × (number i ≡ a.device) × (0 < hosts_from q.commands left n))

  -- what is known of the rounds of the commands below number n, with so many left
  pub record IsGoing (u left n : ℕ) (a : Ahead) (number : ℕ → ℕ) : Type 0 where
    pub ends : n + left ≡ u
    pub rest : a.host + hosts_from q.commands left n ≡ a.device
    pub low : a.host ≤ n
    pub short : a.top ≤ n + hosts_from q.commands left n
    pub below : (i : ℕ) → i < n → number i < a.top
    pub hosts_below : (i : ℕ) → i < n → is_passed n i ≡ true → number i < a.host
    pub device_above : (i : ℕ) → i < n → is_passed n i ≡ false → a.device ≤ number i
    pub top_there : IsReached n any number a.top
    pub host_there : IsReached n (is_passed n) number a.host
    pub rising : (i j : ℕ) → i < n → j < n → is_ahead q u i j ≡ true → number i < number j
    pub under : (i : ℕ) → i < n → IsUnder u left n a number i

  pub going-first : (u : ℕ) (a : Ahead) (number : ℕ → ℕ) → a.host ≡ 0 → a.device ≡ hosts_from q.commands u 0 → a.top ≡ 0
      → IsGoing u u 0 a number
  going-first u a number e f g = record {
    ends = omega arith;
    rest = omega arith;
    low = omega arith;
    short = omega arith;
    below = λ i less. absurd (omega (arith, less));
    hosts_below = λ i less h. absurd (omega (arith, less));
    device_above = λ i less h. absurd (omega (arith, less));
    top_there = inl g;
    host_there = inl e;
    rising = λ i j less below h. absurd (omega (arith, less));
    under = λ i less. absurd (omega (arith, less));
  }

  -- ---- one command more

  module _ (u m n : ℕ) (a : Ahead) (number next : ℕ → ℕ) (is : IsGoing u (suc m) n a number)
      (same : (i : ℕ) → i < n → next i ≡ number i) where
    -- what was reached is
    reached-still : (some more : ℕ → Bool) (t : ℕ) → ((p : ℕ) → p < n → some p ≡ true → more p ≡ true)
        → IsReached n some number t → IsReached (suc n) more next t
    reached-still some more t all (inl z) = inl z
    reached-still some more t all (inr (p, less, h, e)) =
        let s = same p less in
        inr (p, omega (arith, less), all p less h, omega arith)

    top-next : (round : ℕ) → next n ≡ round → IsReached (suc n) any next (max a.top (suc round))
    top-next round here = elim (beyond a.top (suc round)) [
      | inl l ↦ inr (n, omega arith, refl, omega arith)
      | inr g ↦
          (let e : max a.top (suc round) ≡ a.top = omega arith in
          subst (IsReached (suc n) any next) (sym e) (reached-still any any a.top (λ p less h. refl) is.top_there))
    ]

    below-next : (round : ℕ) → next n ≡ round → (i : ℕ) → i < suc n → next i < max a.top (suc round)
    below-next round here i less = elim (cases_eq i n) [
      | inl e ↦ (let s : next i ≡ next n = ap next e in omega arith)
      | inr other ↦
          (let low : i < n = omega arith in
          let s = same i low in
          let b = is.below i low in
          omega arith)
    ]

    -- rounds rise where that of the next command is above those of the commands that are done before it,
    -- and below those of the commands that it is done before
    rising-next :
        ((i : ℕ) → i < n → is_ahead q u i n ≡ true → number i < next n)
        → ((j : ℕ) → j < n → is_ahead q u n j ≡ true → next n < number j)
        → (is_ahead q u n n ≡ true → next n < next n)
        → (i j : ℕ) → i < suc n → j < suc n → is_ahead q u i j ≡ true → next i < next j
    rising-next behind front self i j less below h = elim (cases_eq i n) [
      | inl e ↦ elim (cases_eq j n) [
        | inl f ↦
            (let one : next i ≡ next n = ap next e in
            let two : next j ≡ next n = ap next f in
            let s = self ((λ k. is_ahead q u (sym e k) (sym f k)) ∙ h) in
            omega arith)
        | inr g ↦
            (let low : j < n = omega arith in
            let one : next i ≡ next n = ap next e in
            let two = same j low in
            let s = front j low ((λ k. is_ahead q u (sym e k) j) ∙ h) in
            omega arith)
      ]
      | inr g ↦ elim (cases_eq j n) [
        | inl f ↦
            (let low : i < n = omega arith in
            let one = same i low in
            let two : next j ≡ next n = ap next f in
            let s = behind i low ((λ k. is_ahead q u i (sym f k)) ∙ h) in
            omega arith)
        | inr k ↦
            (let low : i < n = omega arith in
            let high : j < n = omega arith in
            let one = same i low in
            let two = same j high in
            let s = is.rising i j low high h in
            omega arith)
      ]
    ]

    -- what is done before the next command has a round below that of the host's next
    behind-host : (i : ℕ) → i < n → is_hosts q.commands i ≡ true → number i < a.host
    behind-host i less e = is.hosts_below i less (or-first (is_hosts q.commands i) _ e)

    behind-waited : (i : ℕ) → i < n → i < last_wait q.commands n → number i < a.host
    behind-waited i less w =
        is.hosts_below i less
        (or-second (is_hosts q.commands i) _ (less-true i (last_wait q.commands n) w))

    -- what reaches the round of the host's next command is done before the next command
    passed-ahead : (p : ℕ) → p < n → is_passed n p ≡ true → is_ahead q u p n ≡ true
    passed-ahead p less h =
        let ends = is.ends in
        elim (cases_Bool (is_hosts q.commands p)) [
          | inl e ↦ elim (cases_Bool (is_hosts q.commands n)) [
            | inl f ↦ ahead-hosts q u p n (omega arith) e f less
            | inr g ↦
                (let last = last-below q.commands p in
                ahead-host q u p n (omega arith) e g (omega (arith, less, last)))
          ]
          | inr d ↦ elim (or-cases (is_hosts q.commands p) _ h) [
            | inl e ↦ no (sym d ∙ e)
            | inr w ↦ ahead-waited q u p n (omega arith) d (true-less p (last_wait q.commands n) w)
          ]
        ]

    under-host : next n ≡ a.host → IsReached (suc n) (λ p. is_ahead q u p n) next (next n)
    under-host here =
        subst (IsReached (suc n) (λ p. is_ahead q u p n) next) (sym here)
        (reached-still (is_passed n) (λ p. is_ahead q u p n) a.host passed-ahead is.host_there)

    -- ---- a command of the device

    module _ (hosts : is_hosts q.commands n ≡ false) (round number_below : ℕ) (here : next n ≡ round)
        (choice : round ≡ max a.device number_below)
        (most : (i : ℕ) → i < n → before (queue_order q) q.commands i n ≡ true → number i < number_below)
        (there : IsReached n (λ p. before (queue_order q) q.commands p n) number number_below) where
      device-wait : is_wait (slice_get q.commands n) ≡ false
      device-wait = device-goes_on q.commands n hosts

      device-last : last_wait q.commands (suc n) ≡ last_wait q.commands n
      device-last = last-same q.commands n device-wait

      device-passed : (i : ℕ) → is_passed (suc n) i ≡ is_passed n i
      device-passed i = λ k. is_hosts q.commands i || nat_lt i (device-last k)

      device-new : is_passed n n ≡ false
      device-new =
          (λ k. hosts k || nat_lt n (last_wait q.commands n))
          ∙ least-false n (last_wait q.commands n) (last-below q.commands n)

      device-behind : (i : ℕ) → i < n → is_ahead q u i n ≡ true → number i < next n
      device-behind i less h = by (reason-of q u i n h)
        where
          rest : a.host + hosts_from q.commands (suc m) n ≡ a.device
          rest = is.rest

          by : Reason q i n → number i < next n
          by (in_turn e f l) = let s = behind-host i less e in let r = rest in omega arith
          by (no_wait e f l) = let s = behind-host i less e in let r = rest in omega arith
          by (waited e w) = let s = behind-waited i less w in let r = rest in omega arith
          by (ordered e b) = let s = most i less b in omega arith

      device-front : (j : ℕ) → j ≤ n → is_ahead q u n j ≡ true → next n < number j
      device-front j less h = by (reason-of q u n j h)
        where
          by : Reason q n j → next n < number j
          by (in_turn e f l) = no (sym hosts ∙ e)
          by (no_wait e f l) = no (sym hosts ∙ e)
          by (waited e w) = let last = last-below q.commands j in absurd (omega (arith, less, w, last))
          by (ordered e b) = let l = before-less q n j b in absurd (omega (arith, less, l))

      device-self : is_ahead q u n n ≡ true → next n < next n
      device-self h = by (reason-of q u n n h)
        where
          by : Reason q n n → next n < next n
          by (in_turn e f l) = no (sym hosts ∙ e)
          by (no_wait e f l) = no (sym hosts ∙ e)
          by (waited e w) = let last = last-below q.commands n in absurd (omega (arith, w, last))
          by (ordered e b) = let l = before-less q n n b in absurd (omega (arith, l))

      device-pending : next n ≡ a.device → IsUnder u m (suc n) (after_device a round) next n
      device-pending e =
          let h = hosts-device q.commands m n hosts in
          let r = is.rest in
          elim (beyond (hosts_from q.commands (suc m) n) 0) [
            | inl z ↦ inl (under-host (omega arith))
            | inr g ↦ inr (device-passed n ∙ device-new, e, omega arith)
          ]

      device-under_new : IsUnder u m (suc n) (after_device a round) next n
      device-under_new = elim (beyond number_below a.device) [
        | inl l ↦ device-pending (omega arith)
        | inr g ↦
            (let e : next n ≡ number_below = omega arith in
            inl (subst (IsReached (suc n) (λ p. is_ahead q u p n) next) (sym e)
            (reached-still (λ p. before (queue_order q) q.commands p n) (λ p. is_ahead q u p n) number_below
            (λ p less b. let ends = is.ends in ahead-before q u p n (omega arith) b) there)))
      ]

      device-under : (i : ℕ) → i < suc n → IsUnder u m (suc n) (after_device a round) next i
      device-under i less = elim (cases_eq i n) [
        | inl e ↦ subst (IsUnder u m (suc n) (after_device a round) next) (sym e) device-under_new
        | inr other ↦
            (let low : i < n = omega arith in
            let s = same i low in
            elim (is.under i low) [
              | inl r ↦
                  inl (subst (IsReached (suc n) (λ p. is_ahead q u p i) next) (sym s)
                  (reached-still (λ p. is_ahead q u p i) (λ p. is_ahead q u p i) (number i) (λ p less h. h) r))
              | inr (p, e, r) ↦
                  (let h = hosts-device q.commands m n hosts in inr (device-passed i ∙ p, omega arith, omega arith))
            ])
      ]

      pub step-device : IsGoing u m (suc n) (after_device a round) next
      step-device =
          let h = hosts-device q.commands m n hosts in
          let ends = is.ends in
          let rest = is.rest in
          let low = is.low in
          let short = is.short in
          record {
            ends = omega arith;
            rest = omega arith;
            low = omega arith;
            short = elim there [
              | inl z ↦ omega arith
              | inr (p, less, b, e) ↦ (let s = is.below p less in omega arith)
            ];
            below = below-next round here;
            hosts_below = λ i less p. elim (cases_eq i n) [
              | inl e ↦ no (sym (device-passed n ∙ device-new) ∙ ((λ k. is_passed (suc n) (sym e k)) ∙ p))
              | inr other ↦
                  (let below : i < n = omega arith in
                  let s = same i below in
                  let b = is.hosts_below i below (sym (device-passed i) ∙ p) in
                  omega arith)
            ];
            device_above = λ i less p. elim (cases_eq i n) [
              | inl e ↦ (let s : next i ≡ next n = ap next e in omega arith)
              | inr other ↦
                  (let below : i < n = omega arith in
                  let s = same i below in
                  let b = is.device_above i below (sym (device-passed i) ∙ p) in
                  omega arith)
            ];
            top_there = top-next round here;
            host_there =
                reached-still (is_passed n) (is_passed (suc n)) a.host (λ p less h. device-passed p ∙ h) is.host_there;
            rising = rising-next device-behind (λ j less. device-front j (omega arith)) device-self;
            under = device-under;
          }

    -- ---- a command of the host

    module _ (hosts : is_hosts q.commands n ≡ true) (here : next n ≡ a.host) where
      host-some : a.host < a.device
      host-some = let h = hosts-some q.commands m n hosts in let rest = is.rest in omega arith

      host-behind : (i : ℕ) → i < n → is_ahead q u i n ≡ true → number i < next n
      host-behind i less h = by (reason-of q u i n h)
        where
          by : Reason q i n → number i < next n
          by (in_turn e f l) = let s = behind-host i less e in omega arith
          by (no_wait e f l) = no (sym f ∙ hosts)
          by (waited e w) = let s = behind-waited i less w in omega arith
          by (ordered e b) = let s = behind-waited i less (before-host q i n e hosts b) in omega arith

      -- a command of the device which the host doesn't wait for first isn't passed
      host-open : (j : ℕ) → is_hosts q.commands j ≡ false → last_wait q.commands n ≤ j → is_passed n j ≡ false
      host-open j e l =
          (λ k. e k || nat_lt j (last_wait q.commands n)) ∙ least-false j (last_wait q.commands n) l

      host-front : (j : ℕ) → j < n → is_ahead q u n j ≡ true → next n < number j
      host-front j less h = by (reason-of q u n j h)
        where
          by : Reason q n j → next n < number j
          by (in_turn e f l) = absurd (omega (arith, less, l))
          by (no_wait e f l) =
              let s = is.device_above j less (host-open j f l) in let some = host-some in omega arith
          by (waited e w) = no (sym e ∙ hosts)
          by (ordered e b) = no (sym e ∙ hosts)

      host-self : is_ahead q u n n ≡ true → next n < next n
      host-self h = by (reason-of q u n n h)
        where
          by : Reason q n n → next n < next n
          by (in_turn e f l) = absurd (omega (arith, l))
          by (no_wait e f l) = no (sym f ∙ hosts)
          by (waited e w) = no (sym e ∙ hosts)
          by (ordered e b) = no (sym e ∙ hosts)

      host-rising : (i j : ℕ) → i < suc n → j < suc n → is_ahead q u i j ≡ true → next i < next j
      host-rising = rising-next host-behind host-front host-self

      host-passed : (k : ℕ) → is_passed k n ≡ true
      host-passed k = or-first (is_hosts q.commands n) _ hosts

      -- a command that waits for the last of the host's commands, where this is it
      host-last : (i : ℕ) → i < n → is_passed n i ≡ false → number i ≡ a.device → suc a.host ≡ a.device
          → IsReached (suc n) (λ p. is_ahead q u p i) next (next i)
      host-last i less p e f =
          let parts = or-neither (is_hosts q.commands i) _ p in
          let s = same i less in
          let ends = is.ends in
          inr (
            n,
            omega arith,
            ahead-host q u n i (omega arith) hosts parts.0 (false-least i (last_wait q.commands n) parts.1),
            omega arith,
          )

      host-under : (b : Ahead) → (suc a.host ≡ a.device
          ⊎ ((b.device ≡ a.device) × (0 < hosts_from q.commands m (suc n)) × (last_wait q.commands (suc n) ≡ last_wait q.commands n)))
          → (i : ℕ) → i < suc n → IsUnder u m (suc n) b next i
      host-under b last i less = elim (cases_eq i n) [
        | inl e ↦
            inl (subst (λ k. IsReached (suc n) (λ p. is_ahead q u p k) next (next k)) (sym e) (under-host here))
        | inr other ↦
            (let low : i < n = omega arith in
            let s = same i low in
            elim (is.under i low) [
              | inl r ↦
                  inl (subst (IsReached (suc n) (λ p. is_ahead q u p i) next) (sym s)
                  (reached-still (λ p. is_ahead q u p i) (λ p. is_ahead q u p i) (number i) (λ p less h. h) r))
              | inr (p, e, r) ↦ elim last [
                | inl f ↦ inl (host-last i low p e f)
                | inr (d, t, w) ↦
                    inr ((λ k. is_hosts q.commands i || nat_lt i (w k)) ∙ p, omega arith, t)
              ]
            ])
      ]

      -- one that isn't a `wait`
      module _ (goes_on : is_wait (slice_get q.commands n) ≡ false) where
        on-last : last_wait q.commands (suc n) ≡ last_wait q.commands n
        on-last = last-same q.commands n goes_on

        on-passed : (i : ℕ) → is_passed (suc n) i ≡ is_passed n i
        on-passed i = λ k. is_hosts q.commands i || nat_lt i (on-last k)

        pub step-host : IsGoing u m (suc n) (after_host a a.host) next
        step-host =
            let h = hosts-host q.commands m n hosts goes_on in
            let ends = is.ends in
            let rest = is.rest in
            let low = is.low in
            let short = is.short in
            record {
              ends = omega arith;
              rest = omega arith;
              low = omega arith;
              short = omega arith;
              below = below-next a.host here;
              hosts_below = λ i less p. elim (cases_eq i n) [
                | inl e ↦ (let s : next i ≡ next n = ap next e in omega arith)
                | inr other ↦
                    (let below : i < n = omega arith in
                    let s = same i below in
                    let b = is.hosts_below i below (sym (on-passed i) ∙ p) in
                    omega arith)
              ];
              device_above = λ i less p. elim (cases_eq i n) [
                | inl e ↦ no (sym ((λ k. is_passed (suc n) (sym e k)) ∙ p) ∙ host-passed (suc n))
                | inr other ↦
                    (let below : i < n = omega arith in
                    let s = same i below in
                    let b = is.device_above i below (sym (on-passed i) ∙ p) in
                    omega arith)
              ];
              top_there = top-next a.host here;
              host_there = inr (n, omega arith, host-passed (suc n), omega arith);
              rising = host-rising;
              under = host-under (after_host a a.host) (elim (beyond (hosts_from q.commands m (suc n)) 0) [
                | inl z ↦ inl (omega arith)
                | inr g ↦ inr (refl, g, on-last)
              ]);
            }

      -- a `wait`
      module _ (waits : is_wait (slice_get q.commands n) ≡ true) (hosts_behind : ℕ)
          (many : hosts_behind ≡ hosts_from q.commands m (suc n)) where
        wait-passed : (i : ℕ) → i < suc n → is_passed (suc n) i ≡ true
        wait-passed i less = elim (cases_eq i n) [
          | inl e ↦ subst (λ k. is_passed (suc n) k ≡ true) (sym e) (host-passed (suc n))
          | inr other ↦
              (let last = last-here q.commands n waits in
              or-second (is_hosts q.commands i) _ (less-true i (last_wait q.commands (suc n)) (omega arith)))
        ]

        pub step-wait : IsGoing u m (suc n) (behind_wait (after_host a a.host) hosts_behind) next
        step-wait =
            let h = hosts-wait q.commands m n waits in
            let ends = is.ends in
            let rest = is.rest in
            let low = is.low in
            let short = is.short in
            record {
              ends = omega arith;
              rest = omega arith;
              low = omega arith;
              short = omega arith;
              below = below-next a.host here;
              hosts_below = λ i less p. below-next a.host here i less;
              device_above = λ i less p. no (sym p ∙ wait-passed i less);
              top_there = top-next a.host here;
              host_there = elim (top-next a.host here) [
                | inl z ↦ inl z
                | inr (p, less, t, e) ↦ inr (p, less, wait-passed p less, e)
              ];
              rising = host-rising;
              under = host-under (behind_wait (after_host a a.host) hosts_behind) (inl (omega arith));
            }

  -- ---- all commands

  module _ (u : ℕ) (a : Ahead) (number : ℕ → ℕ) (is : IsGoing u 0 u a number) where
    chain-most : (i j : ℕ) → i < u → Chain (is_ahead q u) i j → j ≤ number i
    chain-most _ _ less (alone i) = omega arith
    chain-most _ _ less (longer i j n c h) =
        let low = ahead-less q u i j h in
        let one = chain-most i n low c in
        let two = is.rising i j low less h in
        omega arith

    chain-there : (m i : ℕ) → number i ≡ m → i < u → Chain (is_ahead q u) i m
    chain-there zero i e less = alone i
    chain-there (suc m) i e less = elim (is.under i less) [
      | inl (inl z) ↦ absurd (omega arith)
      | inl (inr (p, low, h, s)) ↦
          (let more : m + 1 ≡ suc m = omega arith in
          subst (Chain (is_ahead q u) i) more (longer p i m (chain-there m p (omega arith) low) h))
      | inr (p, d, r) ↦ absurd (omega (arith, r))
    ]

    pub rounds-longest : (i : ℕ) → i < u → IsLongest (is_ahead q u) i (number i)
    rounds-longest i less = record {
      there = chain-there (number i) i refl less;
      most = λ j c. chain-most i j less c;
    }

    pub rounds-rise : (i j : ℕ) → i < u → j < u → before (queue_order q) q.commands i j ≡ true → number i < number j
    rounds-rise i j less low h = is.rising i j less low (ahead-before q u i j less h)
