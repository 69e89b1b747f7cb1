-- Which commands are ordered before a command: those below the number of their kind.
use Rattle.std.proofs.Common.{◌≡◌, ◌≤◌, ◌∙◌, ℕ, Bool, false, ◌&&◌, nat_lt, refl, sym, ap, subst, arith}
use Rattle.ray_chains.specs.Queues.{At, Node}
use Rattle.ray_chains.proofs.Fronts.{fronts-are-exact, within}
use Rattle.ray_rules.specs.declared.kind.Kind.{Kind as RulesKind}
use Rattle.ray_rules.specs.declared.kind.Kind.TheVariants as rules
use Rattle.ray_rules.specs.declared.stage.Stage.{Stage}
use Rattle.ray_rules.specs.declared.stage.Stage.TheVariants as stages
use Rattle.ray_rules.specs.Order.{always, kind_at, kind_before, last_wait}
use Rattle.ray_submits.specs.Submits.{HaveQueues, QueueCommands, queue_of}
use Rattle.ray_sync.specs.declared.kind.Kind.{Kind}
use Rattle.ray_sync.specs.declared.kind.Kind.TheVariants as sync
use Rattle.ray_sync.specs.Events.{chain_stage}
use Rattle.ray_sync.specs.Kinds.{kind_number, order_kind}
use Rattle.ray_sync.proofs.Limits.{kind-is_at, lt-false, lt-true, lt-within}
use Rattle.ray_queues.specs.declared.limits.Limits.{Limits}
use Rattle.ray_queues.specs.declared.per_queue.PerQueue.{PerQueue}
use Rattle.ray_queues.specs.declared.wave_kind.DeviceStage.{DeviceStage}
use Rattle.ray_queues.specs.declared.wave_kind.DeviceStage.TheVariants.{Transfer, Build, StructureCopy, Compute}
use Rattle.ray_queues.specs.declared.wave_kind.WaveKind.{WaveKind}
use Rattle.ray_queues.specs.declared.wave_kind.WaveKind.TheVariants.{Work, Barrier, Host}
use Rattle.ray_queues.specs.Kinds.{IsLimits, at_queue, at_stage, chain_named, kind_named, number_of, queue_named}
use Rattle.ray_queues.specs.Numbers.{all_queues}
use Rattle.ray_queues.specs.QueueOrder.{queue_order}
use Rattle.ray_queues.specs.Sources.{ArePerQueue, number_at, steps_from}
use Rattle.ray_queues.proofs.Named.{all-queue, number-named, queue-below, queue-named}

-- the numbers of a device command, of a barrier and of a host command
abbrev pub device_limits : ℕ → PerQueue → Limits
device_limits n numbers = record { queues = numbers; barrier = 0; host = n }

abbrev pub barrier_limits : ℕ → Limits
barrier_limits n = record { queues = all_queues 0; barrier = 0; host = n }

abbrev pub host_limits : ℕ → ℕ → Limits
host_limits n waited = record { queues = all_queues waited; barrier = waited; host = n }

-- whether command number a of a kind is before command number n of a kind
abbrev kinds_before : QueueCommands → ℕ → ℕ → RulesKind → RulesKind → Bool
kinds_before q a n one other = nat_lt a n && kind_before (queue_order q) q.commands a n one other

module _ (q : QueueCommands) (n : ℕ) (have : HaveQueues q.submits) where
  -- a device command
  module _ (to : Stage) (numbers : PerQueue) (are : ArePerQueue (number_at q (queue_of q n) n (chain_stage to)) numbers) where
    work : (a : ℕ) (stage : Stage) (named : DeviceStage) → chain_stage stage ≡ chain_named named
        → kinds_before q a n (rules.Device stage) (rules.Device to)
        ≡ nat_lt a (at_stage (at_queue numbers (queue_named (queue_of q a))) named)
    work a stage named e =
        let from : ℕ = queue_of q a in
        let v : Node = At (queue_of q n) (chain_stage to) in
        let low = within always (steps_from q from (chain_stage stage)) n v in
        ap (λ b. nat_lt a n && b) (fronts-are-exact Node always (steps_from q from (chain_stage stage)) a n v)
        ∙ (lt-within a n (number_at q (queue_of q n) n (chain_stage to) from (chain_stage stage)) low
        ∙ ((λ i. nat_lt a (number_at q (queue_of q n) n (chain_stage to) from (e i)))
        ∙ ap (nat_lt a)
        (number-named (number_at q (queue_of q n) n (chain_stage to)) numbers are from (queue-below q have a) named)))

    by-device : (a : ℕ) (k : Kind)
        → kinds_before q a n (order_kind k) (rules.Device to)
        ≡ nat_lt a (number_of (device_limits n numbers) (kind_named (order_kind k) (queue_of q a)))
    by-device a sync.Transfer = work a stages.Transfer Transfer refl
    by-device a sync.Build = work a stages.Build Build refl
    by-device a sync.StructureCopy = work a stages.StructureCopy StructureCopy refl
    by-device a sync.Compute = work a stages.Compute Compute refl
    by-device a sync.Barrier = lt-false a n
    by-device a sync.Host = lt-true a n

    device-within : (kind : WaveKind) → number_of (device_limits n numbers) kind ≤ n
    device-within (Work queue stage) =
        let e = queue-named (number_at q (queue_of q n) n (chain_stage to)) numbers are queue stage in
        let low = within always (steps_from q _ (chain_named stage)) n (At (queue_of q n) (chain_stage to)) in
        subst (λ m. m ≤ n) e low
    device-within Barrier = omega arith
    device-within Host = omega arith

  -- a barrier
  none : (a : ℕ) (stage : DeviceStage)
      → (nat_lt a n && false) ≡ nat_lt a (at_stage (at_queue (all_queues 0) (queue_named (queue_of q a))) stage)
  none a stage = lt-false a n ∙ ap (nat_lt a) (sym (all-queue 0 (queue_named (queue_of q a)) stage))

  by-barrier : (a : ℕ) (k : Kind)
      → kinds_before q a n (order_kind k) rules.Barrier
      ≡ nat_lt a (number_of (barrier_limits n) (kind_named (order_kind k) (queue_of q a)))
  by-barrier a sync.Transfer = none a Transfer
  by-barrier a sync.Build = none a Build
  by-barrier a sync.StructureCopy = none a StructureCopy
  by-barrier a sync.Compute = none a Compute
  by-barrier a sync.Barrier = lt-false a n
  by-barrier a sync.Host = lt-true a n

  barrier-within : (kind : WaveKind) → number_of (barrier_limits n) kind ≤ n
  barrier-within (Work queue stage) = let e = all-queue 0 queue stage in omega arith
  barrier-within Barrier = omega arith
  barrier-within Host = omega arith

  -- a host command
  module _ (waited : ℕ) (last : last_wait q.commands n ≡ waited) (low : waited ≤ n) where
    since : (a : ℕ) → (nat_lt a n && nat_lt a (last_wait q.commands n)) ≡ nat_lt a waited
    since a = ap (λ w. nat_lt a n && nat_lt a w) last ∙ lt-within a n waited low

    since-all : (a : ℕ) (stage : DeviceStage)
        → (nat_lt a n && nat_lt a (last_wait q.commands n))
        ≡ nat_lt a (at_stage (at_queue (all_queues waited) (queue_named (queue_of q a))) stage)
    since-all a stage = since a ∙ ap (nat_lt a) (sym (all-queue waited (queue_named (queue_of q a)) stage))

    by-host : (a : ℕ) (k : Kind)
        → kinds_before q a n (order_kind k) rules.HostCommand
        ≡ nat_lt a (number_of (host_limits n waited) (kind_named (order_kind k) (queue_of q a)))
    by-host a sync.Transfer = since-all a Transfer
    by-host a sync.Build = since-all a Build
    by-host a sync.StructureCopy = since-all a StructureCopy
    by-host a sync.Compute = since-all a Compute
    by-host a sync.Barrier = since a
    by-host a sync.Host = lt-true a n

    host-within : (kind : WaveKind) → number_of (host_limits n waited) kind ≤ n
    host-within (Work queue stage) = let e = all-queue waited queue stage in omega arith
    host-within Barrier = low
    host-within Host = omega arith

  -- by what a command is
  limits-are : (kind : RulesKind) (limits : Limits) → kind ≡ kind_at q.commands n
      → ((a : ℕ) (k : Kind) → kinds_before q a n (order_kind k) kind
      ≡ nat_lt a (number_of limits (kind_named (order_kind k) (queue_of q a))))
      → ((kind : WaveKind) → number_of limits kind ≤ n) → IsLimits q n limits
  limits-are kind limits here each low = record {
    ordered = λ a.
        let e = kind-is_at q.commands a in
        (λ i. kinds_before q a n (e i) (sym here i))
        ∙ (each a (kind_number q.commands a) ∙ λ i. nat_lt a (number_of limits (kind_named (sym e i) (queue_of q a))));
    within = low;
  }

  pub device-limits : (to : Stage) (numbers : PerQueue) → rules.Device to ≡ kind_at q.commands n
      → ArePerQueue (number_at q (queue_of q n) n (chain_stage to)) numbers → IsLimits q n (device_limits n numbers)
  device-limits to numbers here are =
      limits-are (rules.Device to) (device_limits n numbers) here (by-device to numbers are) (device-within to numbers are)

  pub barrier-limits : rules.Barrier ≡ kind_at q.commands n → IsLimits q n (barrier_limits n)
  barrier-limits here = limits-are rules.Barrier (barrier_limits n) here by-barrier barrier-within

  pub host-limits : (waited : ℕ) → rules.HostCommand ≡ kind_at q.commands n → last_wait q.commands n ≡ waited → waited ≤ n
      → IsLimits q n (host_limits n waited)
  host-limits waited here last low =
      limits-are rules.HostCommand (host_limits n waited) here (by-host waited last low) (host-within waited last low)

  pub barrier-limits-all : (numbers : PerQueue) → numbers ≡ all_queues 0 → rules.Barrier ≡ kind_at q.commands n
      → IsLimits q n (record { queues = numbers; barrier = 0; host = n })
  barrier-limits-all numbers e here =
      subst (λ ns. IsLimits q n (record { queues = ns; barrier = 0; host = n })) (sym e) (barrier-limits here)

  pub host-limits-all : (numbers : PerQueue) (waited : ℕ) → numbers ≡ all_queues waited → rules.HostCommand ≡ kind_at q.commands n
      → last_wait q.commands n ≡ waited → waited ≤ n → IsLimits q n (record { queues = numbers; barrier = waited; host = n })
  host-limits-all numbers waited e here last low =
      subst (λ ns. IsLimits q n (record { queues = ns; barrier = waited; host = n })) (sym e) (host-limits waited here last low)
