-- What the host does up to its next `wait`, and what is done before what where it goes ahead.
use Rattle.std.proofs.Common.{◌≡◌, ◌<◌, ◌≤◌, ◌⊎◌, inl, inr, ◌∙◌, ℕ, zero, suc, ◌+◌, Bool, true, false, ◌&&◌, nat_lt, List, Option, Some, None, refl, sym, ap, arith}
use Rattle.std.specs.Prelude.{◌||◌, not, if◌then◌else◌, slice_get}
use Rattle.std.specs.Option.{option_map_or}
use Rattle.std.proofs.lemmas.Bool.{cases_Bool, cases_eq, cond-true, cond-false}
use Rattle.std.proofs.lemmas.Bool.Decides.{nat_tests}
use Rattle.ray_cmd.specs.declared.command.Command.{Command}
use Rattle.ray_cmd.specs.declared.command.Command.TheVariants as commands
use Rattle.ray_rules.specs.declared.kind.Kind.{Kind}
use Rattle.ray_rules.specs.declared.kind.Kind.TheVariants as rules
use Rattle.ray_rules.specs.Kinds.{is_by_host, kind_of}
use Rattle.ray_rules.specs.Order.{before, is_wait, kind_at, kind_before, last_wait}
use Rattle.ray_submits.specs.Submits.{QueueCommands}
use Rattle.ray_queues.specs.QueueOrder.{queue_order}
use Rattle.ray_queues.specs.Rounds.{goes_before, hosts_from, is_ahead, is_hosts}

pub less-true : (a b : ℕ) → a < b → nat_lt a b ≡ true
less-true a b h = grind (arith, nat_tests)

pub true-less : (a b : ℕ) → nat_lt a b ≡ true → a < b
true-less a b h = grind (arith, nat_tests)

pub false-least : (a b : ℕ) → nat_lt a b ≡ false → b ≤ a
false-least a b h = grind (arith, nat_tests)

pub least-false : (a b : ℕ) → b ≤ a → nat_lt a b ≡ false
least-false a b h = grind (arith, nat_tests)

pub no : {A : Type 0} → false ≡ true → A
no e = absurd cc

both-true : (a b : Bool) → a ≡ true → b ≡ true → (a && b) ≡ true
both-true a b e f = cc

pub left-true : (a b : Bool) → (a && b) ≡ true → a ≡ true
left-true true b e = refl
left-true false b e = absurd cc

right-true : (a b : Bool) → (a && b) ≡ true → b ≡ true
right-true true b e = e
right-true false b e = absurd cc

pub or-cases : (a b : Bool) → (a || b) ≡ true → (a ≡ true) ⊎ (b ≡ true)
or-cases true b e = inl refl
or-cases false b e = inr e

pub or-first : (a b : Bool) → a ≡ true → (a || b) ≡ true
or-first true b e = refl
or-first false b e = absurd cc

pub or-second : (a b : Bool) → b ≡ true → (a || b) ≡ true
or-second true b e = refl
or-second false b e = e

pub or-neither : (a b : Bool) → (a || b) ≡ false → (a ≡ false) × (b ≡ false)
or-neither true b e = absurd cc
or-neither false b e = (refl, e)

not-true : (b : Bool) → b ≡ false → not b ≡ true
not-true true e = absurd cc
not-true false e = refl

not-false : (b : Bool) → not b ≡ true → b ≡ false
not-false true e = absurd cc
not-false false e = refl

-- ---- waits

module _ (rec : List Command) where
  pub last-below : (n : ℕ) → last_wait rec n ≤ n
  last-below zero = omega arith
  last-below (suc n) = choose (is_wait (slice_get rec n)) (last_wait rec n) (last-below n)
    where
      choose : (b : Bool) (w : ℕ) → w ≤ n → (if b then n else w) ≤ suc n
      choose true w h = omega arith
      choose false w h = omega (arith, h)

  pub last-here : (n : ℕ) → is_wait (slice_get rec n) ≡ true → last_wait rec (suc n) ≡ n
  last-here n e = cond-true (is_wait (slice_get rec n)) n (last_wait rec n) e

  pub last-same : (n : ℕ) → is_wait (slice_get rec n) ≡ false → last_wait rec (suc n) ≡ last_wait rec n
  last-same n e = cond-false (is_wait (slice_get rec n)) n (last_wait rec n) e

  wait-is : (found : Option Command) → is_wait found ≡ true → is_by_host (option_map_or kind_of found rules.HostCommand) ≡ true
  unfolding kind_of
  wait-is None e = absurd cc
  wait-is (Some commands.Wait) e = refl
  wait-is (Some _) e = absurd cc

  -- the host does a `wait`
  pub wait-hosts : (n : ℕ) → is_wait (slice_get rec n) ≡ true → is_hosts rec n ≡ true
  wait-hosts n e = wait-is (slice_get rec n) e

  pub device-goes_on : (n : ℕ) → is_hosts rec n ≡ false → is_wait (slice_get rec n) ≡ false
  device-goes_on n e = elim (cases_Bool (is_wait (slice_get rec n))) [
    | inl w ↦ no (sym e ∙ wait-hosts n w)
    | inr g ↦ g
  ]

  -- ---- how many commands the host does

  pub hosts-device : (m n : ℕ) → is_hosts rec n ≡ false → hosts_from rec (suc m) n ≡ hosts_from rec m (suc n)
  hosts-device m n e = cond-false (is_hosts rec n) _ _ e

  pub hosts-host : (m n : ℕ) → is_hosts rec n ≡ true → is_wait (slice_get rec n) ≡ false
      → hosts_from rec (suc m) n ≡ suc (hosts_from rec m (suc n))
  hosts-host m n e f = cond-true (is_hosts rec n) _ _ e ∙ cond-false (is_wait (slice_get rec n)) _ _ f

  pub hosts-wait : (m n : ℕ) → is_wait (slice_get rec n) ≡ true → hosts_from rec (suc m) n ≡ 1
  hosts-wait m n f = cond-true (is_hosts rec n) _ _ (wait-hosts n f) ∙ cond-true (is_wait (slice_get rec n)) _ _ f

  pub hosts-some : (m n : ℕ) → is_hosts rec n ≡ true → 0 < hosts_from rec (suc m) n
  hosts-some m n e = elim (cases_Bool (is_wait (slice_get rec n))) [
    | inl f ↦ (let h = hosts-wait m n f in omega arith)
    | inr g ↦ (let h = hosts-host m n e g in omega arith)
  ]

  pub hosts-within : (m n : ℕ) → hosts_from rec m n ≤ m
  hosts-within zero n = omega arith
  hosts-within (suc m) n =
      let rest = hosts-within m (suc n) in
      elim (cases_Bool (is_hosts rec n)) [
        | inl e ↦ elim (cases_Bool (is_wait (slice_get rec n))) [
          | inl f ↦ (let h = hosts-wait m n f in omega arith)
          | inr g ↦ (let h = hosts-host m n e g in omega arith)
        ]
        | inr d ↦ (let h = hosts-device m n d in omega arith)
      ]

-- as many are left behind a number as there are from it on, but one
pub left-of : (n u : ℕ) → n < u → (m : ℕ) × (n + 1 + m ≡ u)
left-of n zero less = absurd (omega (arith, less))
left-of n (suc u) less = elim (cases_eq n u) [
  | inl e ↦ (0, omega arith)
  | inr other ↦ (let (m, e) = left-of n u (omega (arith, less, other)) in (suc m, omega arith))
]

-- so many are counted up to a number, with how many are counted from it on
module _ (rec : List Command) (from until hosts n : ℕ)
    (count : (left all : ℕ) → n + left ≡ until → from + all ≡ until → hosts + hosts_from rec left n ≡ hosts_from rec all from) where
  pub counted-wait : n < until → is_wait (slice_get rec n) ≡ true → (all : ℕ) → from + all ≡ until
      → hosts + 1 ≡ hosts_from rec all from
  counted-wait less w all e =
      let (m, f) = left-of n until less in
      let c = count (suc m) all (omega arith) e in
      let h = hosts-wait rec m n w in
      omega arith

  pub counted-host : (more : ℕ) → more ≡ hosts + 1 → is_wait (slice_get rec n) ≡ false → is_hosts rec n ≡ true
      → (left all : ℕ) → n + 1 + left ≡ until → from + all ≡ until
      → more + hosts_from rec left (n + 1) ≡ hosts_from rec all from
  counted-host more s w is left all e f =
      let c = count (suc left) all (omega arith) f in
      let h = hosts-host rec left n is w in
      let one : suc n ≡ n + 1 = omega arith in
      let k = ap (hosts_from rec left) one in
      omega arith

  pub counted-device : (more : ℕ) → more ≡ hosts → is_hosts rec n ≡ false → (left all : ℕ) → n + 1 + left ≡ until
      → from + all ≡ until → more + hosts_from rec left (n + 1) ≡ hosts_from rec all from
  counted-device more s is left all e f =
      let c = count (suc left) all (omega arith) f in
      let h = hosts-device rec left n is in
      let one : suc n ≡ n + 1 = omega arith in
      let k = ap (hosts_from rec left) one in
      omega arith

  pub counted-all : n ≡ until → (all : ℕ) → from + all ≡ until → hosts ≡ hosts_from rec all from
  counted-all end all e = let c = count 0 all (omega arith) e in omega arith

-- whether a command that stands there is done by the host, and whether it is a `wait`
pub hosts-here : (rec : List Command) (n : ℕ) (command : Command) (found b : Bool) → slice_get rec n ≡ Some command
    → found ≡ is_by_host (kind_of command) → found ≡ b → is_hosts rec n ≡ b
hosts-here rec n command found b there e f =
    (λ i. is_by_host (option_map_or kind_of (there i) rules.HostCommand)) ∙ (sym e ∙ f)

pub wait-here : (rec : List Command) (n : ℕ) (command : Command) (found b : Bool) → slice_get rec n ≡ Some command
    → found ≡ is_wait (Some command) → found ≡ b → is_wait (slice_get rec n) ≡ b
wait-here rec n command found b there e f = (λ i. is_wait (there i)) ∙ (sym e ∙ f)

-- ---- what is done before what

module _ (q : QueueCommands) where
  pub before-less : (i j : ℕ) → before (queue_order q) q.commands i j ≡ true → i < j
  before-less i j e = true-less i j (left-true (nat_lt i j) _ e)

  waits-for : (i j : ℕ) (one other : Kind) → is_by_host one ≡ false → is_by_host other ≡ true
      → kind_before (queue_order q) q.commands i j one other ≡ true → nat_lt i (last_wait q.commands j) ≡ true
  waits-for i j (rules.Device stage) rules.HostCommand e f h = h
  waits-for i j rules.Barrier rules.HostCommand e f h = h
  waits-for i j rules.HostCommand other e f h = absurd cc
  waits-for i j one (rules.Device stage) e f h = absurd cc
  waits-for i j one rules.Barrier e f h = absurd cc

  -- of the device the host's commands come behind what a `wait` waits for alone
  pub before-host : (i j : ℕ) → is_hosts q.commands i ≡ false → is_hosts q.commands j ≡ true
      → before (queue_order q) q.commands i j ≡ true → i < last_wait q.commands j
  before-host i j e f h =
      true-less i (last_wait q.commands j)
      (waits-for i j (kind_at q.commands i) (kind_at q.commands j) e f (right-true (nat_lt i j) _ h))

  module _ (n i j : ℕ) (less : i < n) where
    ahead-by : (one other : Bool) → is_hosts q.commands i ≡ one → is_hosts q.commands j ≡ other
        → goes_before q i j one other ≡ true → is_ahead q n i j ≡ true
    ahead-by one other e f h =
        both-true (nat_lt i n) _ (less-true i n less) ((λ k. goes_before q i j (e k) (f k)) ∙ h)

    pub ahead-hosts : is_hosts q.commands i ≡ true → is_hosts q.commands j ≡ true → i < j → is_ahead q n i j ≡ true
    ahead-hosts e f h = ahead-by true true e f (less-true i j h)

    pub ahead-host : is_hosts q.commands i ≡ true → is_hosts q.commands j ≡ false → last_wait q.commands i ≤ j
        → is_ahead q n i j ≡ true
    ahead-host e f h =
        ahead-by true false e f
        (not-true (nat_lt j (last_wait q.commands i)) (least-false j (last_wait q.commands i) h))

    ahead-either : (other : Bool) → is_hosts q.commands i ≡ false → is_hosts q.commands j ≡ other
        → (nat_lt i (last_wait q.commands j) || before (queue_order q) q.commands i j) ≡ true → is_ahead q n i j ≡ true
    ahead-either true e f h = ahead-by false true e f h
    ahead-either false e f h = ahead-by false false e f h

    pub ahead-waited : is_hosts q.commands i ≡ false → i < last_wait q.commands j → is_ahead q n i j ≡ true
    ahead-waited e h =
        ahead-either (is_hosts q.commands j) e refl
        (or-first (nat_lt i (last_wait q.commands j)) _ (less-true i (last_wait q.commands j) h))

    pub ahead-before : before (queue_order q) q.commands i j ≡ true → is_ahead q n i j ≡ true
    ahead-before h = elim (cases_Bool (is_hosts q.commands i)) [
      | inl e ↦ elim (cases_Bool (is_hosts q.commands j)) [
        | inl f ↦ ahead-hosts e f (before-less i j h)
        | inr g ↦
            (let less_is = before-less i j h in
            let last = last-below q.commands i in
            ahead-host e g (omega (arith, less_is, last)))
      ]
      | inr d ↦ ahead-either (is_hosts q.commands j) d refl (or-second (nat_lt i (last_wait q.commands j)) _ h)
    ]

  -- by what a command is done before another
  pub data Reason (i j : ℕ) : Type 0 where
    in_turn : is_hosts q.commands i ≡ true → is_hosts q.commands j ≡ true → i < j → Reason i j
    no_wait : is_hosts q.commands i ≡ true → is_hosts q.commands j ≡ false → last_wait q.commands i ≤ j → Reason i j
    waited : is_hosts q.commands i ≡ false → i < last_wait q.commands j → Reason i j
    ordered : is_hosts q.commands i ≡ false → before (queue_order q) q.commands i j ≡ true → Reason i j

  reason-by : (i j : ℕ) (one other : Bool) → is_hosts q.commands i ≡ one → is_hosts q.commands j ≡ other
      → goes_before q i j one other ≡ true → Reason i j
  reason-by i j true true e f h = in_turn e f (true-less i j h)
  reason-by i j true false e f h = no_wait e f (false-least j (last_wait q.commands i) (not-false _ h))
  reason-by i j false true e f h = by_device e h
    where
      by_device : is_hosts q.commands i ≡ false
          → (nat_lt i (last_wait q.commands j) || before (queue_order q) q.commands i j) ≡ true → Reason i j
      by_device e h = elim (or-cases (nat_lt i (last_wait q.commands j)) _ h) [
        | inl w ↦ waited e (true-less i (last_wait q.commands j) w)
        | inr b ↦ ordered e b
      ]
  reason-by i j false false e f h = by_device e h
    where
      by_device : is_hosts q.commands i ≡ false
          → (nat_lt i (last_wait q.commands j) || before (queue_order q) q.commands i j) ≡ true → Reason i j
      by_device e h = elim (or-cases (nat_lt i (last_wait q.commands j)) _ h) [
        | inl w ↦ waited e (true-less i (last_wait q.commands j) w)
        | inr b ↦ ordered e b
      ]

  pub ahead-less : (n i j : ℕ) → is_ahead q n i j ≡ true → i < n
  ahead-less n i j h = true-less i n (left-true (nat_lt i n) _ h)

  pub reason-of : (n i j : ℕ) → is_ahead q n i j ≡ true → Reason i j
  reason-of n i j h =
      reason-by i j (is_hosts q.commands i) (is_hosts q.commands j) refl refl (right-true (nat_lt i n) _ h)
