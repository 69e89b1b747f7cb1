-- A recording that is submitted to queues and breaks no rule may be run in every order over queues.
use Rattle.std.proofs.Common.{◌≡◌, ◌<◌, ◌≤◌, ◌+◌, ℕ, zero, suc, Bool, true, false, List, [], ◌∷◌, ◌++◌, length, Option, Some, None, refl, sym, ◌∙◌, subst, arith}
use Rattle.std.specs.Prelude.{slice_get, if◌then◌else◌}
use Rattle.ray_cmd.specs.declared.command.Command.{Command}
use Rattle.ray_cmd.specs.declared.refusal.Refusal.{Refusal}
use Rattle.ray_cmd.specs.Sources.{AreSourced}
use Rattle.ray_rules.specs.Order.{is_wait, last_wait}
use Rattle.ray_rules.specs.Refusals.{least_broken, or_after}
use Rattle.ray_rules.specs.Status.{Status, after, at_first}
use Rattle.ray_rules.specs.Verdict.{rule_refusal, rule_refusal_from, rule_refusal_of, rule_table}
use Rattle.ray_submits.specs.Submits.{QueueCommands}
use Rattle.ray_queues.specs.QueueOrder.{queue_order}
use Rattle.ray_queues.specs.Rounds.{RoundsRise}
use Rattle.ray_queues.proofs.Covering.{queue-covered-is-ordered, queue-waits-order}
use Rattle.ray_check.specs.Queues.{queue_rule_refusal, queue_rule_refusal_from, queue_rule_refusal_of, semaphore_rows}
use Rattle.ray_check.proofs.Going.{rule-among}
use Rattle.ray_check.proofs.Tables.{split}
use Rattle.ray_check.proofs.Whole.{in-order, several-queues}
use Rattle.ray_action.specs.Clients.{Clients, HasScript, scripts}
use Rattle.ray_ready.specs.Accepted.{KeepStaticRules, refused_from}
use Rattle.ray_ready.proofs.Scripts.{have_scripts}
use Rattle.ray_permitted.specs.Job.{Job, comes_before, in_order}
use Rattle.ray_permitted.specs.Laws.{UnrefusedBreakNoRule}
use Rattle.ray_permitted.specs.Rules.{BreakNoRule, IsRunnable}
use Rattle.ray_permitted.specs.Separates.{CarriesOrder, NumbersSeparate}
use Rattle.ray_permitted.proofs.Refused.{break_no_rule}
use Rattle.ray_permitted.proofs.Separating.{orders_separate}
use Rattle.ray_permitted.proofs.Waits.{wait_below}
use Rattle.ray_exec.specs.Steps.{CanEach}
use Rattle.ray_exec.specs.Waves.{wave_at}

-- ---- the order over queues

-- the last wait is one, where a command stands before it
record IsWait (rec : List Command) (n w : ℕ) : Type 0 where
  there : is_wait (slice_get rec w) ≡ true
  below : w < n

last_is_wait : (rec : List Command) (i n : ℕ) → i < last_wait rec n → IsWait rec n (last_wait rec n)
last_is_wait rec i zero less = absurd (omega (arith, less))
last_is_wait rec i (suc n) less = step (is_wait (slice_get rec n)) refl (last_is_wait rec i n) less
  where
    step : (b : Bool) → is_wait (slice_get rec n) ≡ b → (i < last_wait rec n → IsWait rec n (last_wait rec n))
        → i < (if b then n else last_wait rec n) → IsWait rec (suc n) (if b then n else last_wait rec n)
    step true is rest less = record { there = is; below = omega arith }
    step false is rest less =
        let here = rest less in
        let below = here.below in
        record { there = here.there; below = omega (arith, below) }

-- what is covered over queues is ordered, and so is what stands before a wait
pub queues_carry : (q : QueueCommands) → CarriesOrder q.commands (queue_order q)
queues_carry q = record {
  covered = λ i s access thing j to x device e. queue-covered-is-ordered q i s access thing j to x device e;
  waits = λ i j s to device less.
      let wait = last_is_wait q.commands i j less in
      queue-waits-order q i (last_wait q.commands j) j s to wait.there less wait.below device;
}

-- ---- the rules

-- commands are refused over queues no later than by the rules of a recording in the order over queues
module _ (q : QueueCommands) where
  abbrev all_from : ℕ → Status → List Command → Option Refusal
  all_from i z cs = rule_refusal_from (queue_order q) q.commands i z cs

  at_least : (i n : ℕ) (o : Option Refusal) → i ≤ n → ((r : Refusal) → o ≡ Some r → i ≤ r.command) → i ≤ refused_from n o
  at_least i n None within each = within
  at_least i n (Some r) within each = each r refl

  after_first : (i n : ℕ) (first more rest : Option Refusal) → i ≤ n → ((r : Refusal) → or_after first more ≡ Some r → r.command ≡ i)
      → ((r : Refusal) → rest ≡ Some r → i + 1 ≤ r.command) → (later : Option Refusal) → refused_from n later ≤ refused_from n rest
      → refused_from n (or_after (or_after first more) later) ≤ refused_from n (or_after first rest)
  after_first i n (Some r) more rest within here above later less = omega arith
  after_first i n None None rest within here above later less = less
  after_first i n None (Some r) rest within here above later less =
      let at = here r refl in
      let least = at_least i n rest within (λ p e. let low = above p e in omega (arith, low)) in
      omega (arith, at, least)

  first_from : (n i : ℕ) (z : Status) (cs : List Command) → n ≡ i + length cs → refused_from n (queue_rule_refusal_from q i z cs) ≤ refused_from n (all_from i z cs)
  unfolding queue_rule_refusal_of rule_refusal_of
  first_from n i z [] count = omega arith
  first_from n i z (c ∷ cs) count =
      let rows : least_broken i (rule_table (queue_order q) q.commands i z c ++ semaphore_rows q i)
      ≡ or_after (least_broken i (rule_table (queue_order q) q.commands i z c)) (least_broken i (semaphore_rows q i)) =
      split i (rule_table (queue_order q) q.commands i z c) (semaphore_rows q i) in
      let joined = (several-queues q).joined i z c in
      subst (λ o. refused_from n (or_after o (queue_rule_refusal_from q (i + 1) (after i c z) cs)) ≤ refused_from n (all_from i z (c ∷ cs))) (sym rows)
      (after_first i n (least_broken i (rule_table (queue_order q) q.commands i z c)) (least_broken i (semaphore_rows q i)) (all_from (i + 1) (after i c z) cs)
      (omega (arith, count))
      (λ r e. joined.rule_at r (rows ∙ e))
      (λ r e. (rule-among q.commands _ _ _ _ (in-order (queue_order q) q.commands) cs (i + 1) (after i c z) r e).least)
      (queue_rule_refusal_from q (i + 1) (after i c z) cs)
      (first_from n (i + 1) (after i c z) cs (omega (arith, count))))

pub refused_first : (q : QueueCommands) → refused_from (length q.commands) (queue_rule_refusal q) ≤ refused_from (length q.commands) (rule_refusal (queue_order q) q.commands)
unfolding queue_rule_refusal rule_refusal
refused_first q = first_from q (length q.commands) 0 at_first q.commands (omega arith)

-- ---- the job

-- the commands below a refused one break no rule in the order over queues
pub queue_breaks_no_rule : (q : QueueCommands) → AreSourced q.commands → (clients : Clients) (n : ℕ) → n ≤ refused_from (length q.commands) (queue_rule_refusal q)
    → BreakNoRule (in_order q.commands clients (queue_order q)) n
queue_breaks_no_rule q sourced clients n upto =
    let first = refused_first q in
    break_no_rule q.commands sourced (queue_order q) clients n (omega (arith, upto, first))

pub queue_job_runs : (q : QueueCommands) → AreSourced q.commands → (clients : Clients) (n : ℕ) → n ≤ refused_from (length q.commands) (queue_rule_refusal q)
    → IsRunnable (in_order q.commands clients (queue_order q)) n
queue_job_runs q sourced clients n upto =
    orders_separate (in_order q.commands clients (queue_order q)) n (queues_carry q) (queue_breaks_no_rule q sourced clients n upto)

-- ---- what a run asks of commands that are held

-- those below a refused one break no rule, by the law of the commands that are held
held_break_no_rule : (rec : List Command) (q : QueueCommands) → rec ≡ q.commands → UnrefusedBreakNoRule rec → (clients : Clients) (n : ℕ)
    → n ≤ refused_from (length q.commands) (queue_rule_refusal q) → BreakNoRule (in_order q.commands clients (queue_order q)) n
held_break_no_rule rec q same law clients n upto =
    let first = refused_first q in
    subst (λ (r : List Command). UnrefusedBreakNoRule r) same law (queue_order q) clients n (omega (arith, upto, first))

-- they keep the static rules, and their scripts are scripts
pub held_keep_rules : (rec : List Command) (q : QueueCommands) → rec ≡ q.commands → UnrefusedBreakNoRule rec → (n : ℕ)
    → n ≤ refused_from (length q.commands) (queue_rule_refusal q) → KeepStaticRules rec n
held_keep_rules rec q same law n upto =
    let kept = held_break_no_rule rec q same law (scripts q.commands) n upto in
    subst (λ (r : List Command). KeepStaticRules r n) (sym same) (record { each = λ i command less is. (kept.accepted.each i command less is).rules })

pub held_have_scripts : (rec : List Command) (q : QueueCommands) → rec ≡ q.commands → UnrefusedBreakNoRule rec → (n : ℕ)
    → n ≤ refused_from (length q.commands) (queue_rule_refusal q) → CanEach HasScript rec n
held_have_scripts rec q same law n upto =
    let kept = held_break_no_rule rec q same law (scripts q.commands) n upto in
    subst (λ (r : List Command). CanEach HasScript r n) (sym same) (λ i less. have_scripts q.commands n i kept.accepted less)

-- numbers that rise along the order of a job separate its commands
rising_separate : (job : Job) (n : ℕ) (number : ℕ → ℕ) → IsRunnable job n
    → ((i j : ℕ) → i < n → j < n → comes_before job i j ≡ true → number i < number j) → NumbersSeparate job.commands n number
rising_separate job n number runnable rise =
    let separates = runnable.separates in record {
      host = λ i j less within here. rise i j (omega (arith, less, within)) within (separates.host i j less within here);
      host_waits = λ i j s waited within here there.
          let below : last_wait job.commands j ≤ j = wait_below job.commands j in
          rise i j (omega (arith, waited, below, within)) within (separates.host_waits i j s waited within here there);
      conflicts = λ i j s t less within here there conflict.
          rise i j (omega (arith, less, within)) within (separates.conflicts i j s t less within here there conflict);
    }

-- and so do the rounds of the commands that are held
pub held_separate : (rec : List Command) (q : QueueCommands) → rec ≡ q.commands → UnrefusedBreakNoRule rec → (n : ℕ)
    → n ≤ refused_from (length q.commands) (queue_rule_refusal q) → (rounds : List ℕ) → RoundsRise q n rounds
    → NumbersSeparate rec n (wave_at rounds)
held_separate rec q same law n upto rounds rise =
    let kept = held_break_no_rule rec q same law (scripts q.commands) n upto in
    let job : Job = in_order q.commands (scripts q.commands) (queue_order q) in
    subst (λ (r : List Command). NumbersSeparate r n (wave_at rounds)) (sym same)
    (rising_separate job n (wave_at rounds) (orders_separate job n (queues_carry q) kept) rise)
