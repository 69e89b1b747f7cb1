-- One queue without semaphores.
use Rattle.std.proofs.Common.{◌≡◌, ◌∙◌, ℕ, zero, suc, Bool, true, false, List, [], ◌∷◌, Option, Some, None, All, slice_get, refl, sym, ap, subst, arith}
use Rattle.std.specs.Prelude.{◌&&◌, ◌||◌, ◌==◌, nat_lt, if◌then◌else◌}
use Rattle.std.specs.List.{list_any}
use Rattle.std.proofs.lemmas.Bool.Decides.{nat_tests}
use Rattle.std.specs.Option.{option_map_or}
use Rattle.ray_chains.specs.declared.access_type.AccessType.{AccessType as ChainAccess}
use Rattle.ray_chains.specs.declared.stage.Stage.{Stage as ChainStage}
use Rattle.ray_chains.specs.declared.stage.Stage.TheVariants as chain_stages
use Rattle.ray_chains.specs.Dependencies.{reached}
use Rattle.ray_chains.specs.OneQueue.{is_alone}
use Rattle.ray_chains.specs.OneQueue as queue
use Rattle.ray_chains.specs.QueueLaws.{source_of}
use Rattle.ray_chains.specs.Queues.{Event, Barrier, Begin, Submit, Wait, Other, Source, Visible, is_ordered, step_of, steps, takes_source}
use Rattle.ray_chains.proofs.OneQueue.{one-queue-has-sets}
use Rattle.ray_cmd.specs.declared.command.Command.{Command}
use Rattle.ray_cmd.specs.declared.command.Command.TheVariants as commands
use Rattle.ray_rules.specs.declared.access_type.AccessType.{AccessType}
use Rattle.ray_rules.specs.declared.kind.Kind.{Kind}
use Rattle.ray_rules.specs.declared.kind.Kind.TheVariants as kinds
use Rattle.ray_rules.specs.declared.stage.Stage.{Stage}
use Rattle.ray_rules.specs.declared.stage.Stage.TheVariants.{Transfer, Build, StructureCopy, Compute, Host}
use Rattle.ray_rules.specs.Order.{acts_at, always, barriers, kind_at, takes_stage, takes_write}
use Rattle.ray_submits.specs.declared.submission.Submission.{Submission}
use Rattle.ray_submits.specs.Submits.{QueueCommands, queue_by, queue_in, queue_of, submission_at, submits_below}
use Rattle.ray_sync.specs.Events.{chain_access, chain_stage, written_by}
use Rattle.ray_sync.specs.Events as one
use Rattle.ray_sync.proofs.Linked.{alike-stage, alike-write, same-at}
use Rattle.ray_queues.specs.Events.{event_at, event_of, waits_in}
use Rattle.ray_queues.specs.OneQueue.{IsAlone, OneQueueHasBarriers}
use Rattle.ray_queues.specs.QueueOrder.{is_covered_on, queue_order}

-- ---- the queue is 0, and nothing is waited for

-- a member of a list of which all are so
member : (submits : List Submission) (k : ℕ) (s : Submission) → All IsAlone submits → slice_get submits k ≡ Some s → IsAlone s
member [] k s are e = absurd cc
member (x ∷ submits) zero s are e = let same : x ≡ s = cc in subst IsAlone same (are 0 x (omega arith))
member (x ∷ submits) (suc k) s are e = member submits k s (λ i d below. are (suc i) d (omega (arith, below))) e

queue-0 : (o : Option Submission) → ((s : Submission) → o ≡ Some s → IsAlone s) → queue_in o ≡ 0
queue-0 None alone = refl
queue-0 (Some s) alone = (alone s refl).queue

waits-0 : (o : Option Submission) → ((s : Submission) → o ≡ Some s → IsAlone s) → waits_in o ≡ []
waits-0 None alone = refl
waits-0 (Some s) alone = ap (λ ws. waits_in (Some (record s { waits = ws }))) (alone s refl).waits

by-0 : (kind : Kind) (o : Option Submission) → queue_in o ≡ 0 → queue_by kind o ≡ 0
by-0 kinds.HostCommand o e = refl
by-0 kinds.Barrier o e = e
by-0 (kinds.Device stage) o e = e

-- ---- events

-- each event is of one queue, and waits for nothing
alone-if : (s : Option Submission) (o : Option Command) → queue_in s ≡ 0 → waits_in s ≡ [] → is_alone (option_map_or (event_of s) o Other) ≡ true
alone-if s None e f = refl
alone-if s (Some (commands.Barrier src sa dst da ids)) e f = ap (λ k. k == 0) e
alone-if s (Some commands.Begin) e f = ap (λ ws. is_alone (Begin (queue_in s) ws)) f
alone-if s (Some commands.Submit) e f = refl
alone-if s (Some commands.Wait) e f = refl
alone-if s (Some _) e f = refl

-- the sets after it are those of the same command where it is an event of the one queue
after-same :
    (takes : (ChainStage → Bool) → (ChainAccess → Bool) → Bool) (s : Option Submission) (o : Option Command) (z : queue.Handed)
    → queue.handed_after takes (option_map_or (event_of s) o Other) z
    ≡ queue.handed_after takes (option_map_or one.event_of o Other) z
after-same takes s None z = refl
after-same takes s (Some (commands.Barrier src sa dst da ids)) z = refl
after-same takes s (Some commands.Begin) z = refl
after-same takes s (Some commands.Submit) z = refl
after-same takes s (Some commands.Wait) z = refl
after-same takes s (Some _) z = refl

handed-same :
    (takes : (ChainStage → Bool) → (ChainAccess → Bool) → Bool) (acts : ℕ → Bool) (q : QueueCommands) (i n : ℕ)
    → queue.handed_at takes acts (event_at q) i n ≡ queue.handed_at takes acts (one.event_at q.commands) i n
handed-same takes acts q i zero = refl
handed-same takes acts q i (suc n) = λ j.
    if nat_lt i n then
    (if acts n then
    (after-same takes (submission_at q n) (slice_get q.commands n) (queue.handed_at takes acts (event_at q) i n)
    ∙ ap (queue.handed_after takes (one.event_at q.commands n)) (handed-same takes acts q i n)) j
    else handed-same takes acts q i n j)
    else queue.not_handed

-- ---- the host at another queue

apart : (at k : ℕ) → (at == 0) ≡ true → (0 == k) ≡ false → (k == at) ≡ false
apart at k e f = grind (arith, nat_tests)

and-false : (b : Bool) → (b && false) ≡ false
and-false true = refl
and-false false = refl

-- an event of queue 0 hands nothing to the host at another
none-to :
    (events : ℕ → Event) (source : Source) (n k : ℕ) (x : ChainAccess) (e : Event) → is_alone e ≡ true
    → (0 == k) ≡ false → (step_of events source n e).to (Visible k chain_stages.Host x) ≡ false
none-to events source n k x (Barrier at scopes buffers) alone other =
    ap (λ b. b && (scopes.dst_stages chain_stages.Host && scopes.dst_access x)) (apart at k alone other)
none-to events source n k x (Begin at waits) alone other = and-false (k == at)
none-to events source n k x (Submit at signals) alone other = refl
none-to events source n k x Wait alone other = refl
none-to events source n k x Other alone other = refl

flat : (b c t : Bool) → (if b then (if c then false || (t && false) else false) else false) ≡ false
flat false c t = refl
flat true false t = refl
flat true true false = refl
flat true true true = refl

none-reached :
    (acts : ℕ → Bool) (events : ℕ → Event) (source : Source) (i n k : ℕ) (x : ChainAccess)
    → ((m : ℕ) → is_alone (events m) ≡ true) → (0 == k) ≡ false
    → reached acts (steps events source) i n (Visible k chain_stages.Host x) ≡ false
none-reached acts events source i zero k x alone other = refl
none-reached acts events source i (suc n) k x alone other =
    let s = steps events source n in
    let taken : Bool = s.takes_all || list_any (reached acts (steps events source) i n) s.from in
    (λ j. if nat_lt i n then
    (if acts n then
    none-reached acts events source i n k x alone other j
    || (taken && none-to events source n k x (events n) (alone n) other j)
    else none-reached acts events source i n k x alone other j)
    else false)
    ∙ flat (nat_lt i n) (acts n) taken

-- ---- the law

module _ (q : QueueCommands) (alone : All IsAlone q.submits) where
  queue-is : (i : ℕ) → queue_of q i ≡ 0
  queue-is i =
      by-0 (kind_at q.commands i) (submission_at q i)
      (queue-0 (submission_at q i) (λ s e. member q.submits (submits_below q.commands i) s alone e))

  events-are : (m : ℕ) → is_alone (event_at q m) ≡ true
  events-are m =
      alone-if (submission_at q m) (slice_get q.commands m)
      (queue-0 (submission_at q m) (λ s e. member q.submits (submits_below q.commands m) s alone e))
      (waits-0 (submission_at q m) (λ s e. member q.submits (submits_below q.commands m) s alone e))

  ordered-is :
      (i : ℕ) (stage : Stage) (j : ℕ) (to : Stage)
      → (queue_order q).ordered i stage j to ≡ (barriers q.commands).ordered i stage j to
  ordered-is i stage j to =
      let source : Source = source_of 0 (chain_stage stage) None in
      let sets = one-queue-has-sets always (event_at q) source i j refl events-are in
      (λ k. is_ordered (event_at q) (source_of (queue-is i k) (chain_stage stage) None) i j (queue-is j k) (chain_stage to))
      ∙ (sets.0 (chain_stage to)
      ∙ ((λ k. (handed-same (takes_source source) always q i j k).stages (chain_stage to))
      ∙ sym ((same-at (takes_stage stage) (takes_source source) (alike-stage stage) q.commands always i j).stages to)))

  covered-is-0 :
      (i : ℕ) (stage : Stage) (access : AccessType) (thing : Option ℕ) (j : ℕ) (to : Stage) (x : AccessType)
      → is_covered_on q i stage access thing j to x 0 ≡ (barriers q.commands).covered i stage access thing j to x
  covered-is-0 i stage access thing j to x =
      let source : Source = written_by stage access in
      let acts : ℕ → Bool = acts_at q.commands thing in
      let sets = one-queue-has-sets acts (event_at q) source i j refl events-are in
      (λ k. reached acts
      (steps (event_at q) (source_of (queue-is i k) (chain_stage stage) (Some (chain_access access)))) i j
      (Visible 0 (chain_stage to) (chain_access x)))
      ∙ (sets.1 (chain_stage to) (chain_access x)
      ∙ ((λ k. (handed-same (takes_source source) acts q i j k).pairs (chain_stage to) (chain_access x))
      ∙ sym ((same-at (takes_write stage access) (takes_source source) (alike-write stage access) q.commands acts i j).pairs to x)))

  or-none : (b : Bool) → (b || false) ≡ b
  or-none true = refl
  or-none false = refl

  at-one : (i : ℕ) (stage : Stage) (access : AccessType) (thing : Option ℕ) (j : ℕ) (to : Stage) (x : AccessType)
      → list_any (is_covered_on q i stage access thing j to x) (queue_of q j ∷ [])
      ≡ (barriers q.commands).covered i stage access thing j to x
  at-one i stage access thing j to x =
      (λ k. is_covered_on q i stage access thing j to x (queue-is j k) || false)
      ∙ (or-none (is_covered_on q i stage access thing j to x 0) ∙ covered-is-0 i stage access thing j to x)

  covered-is :
      (i : ℕ) (stage : Stage) (access : AccessType) (thing : Option ℕ) (j : ℕ) (to : Stage) (x : AccessType)
      → (queue_order q).covered i stage access thing j to x ≡ (barriers q.commands).covered i stage access thing j to x
  covered-is i stage access thing j Transfer x = at-one i stage access thing j Transfer x
  covered-is i stage access thing j Build x = at-one i stage access thing j Build x
  covered-is i stage access thing j StructureCopy x = at-one i stage access thing j StructureCopy x
  covered-is i stage access thing j Compute x = at-one i stage access thing j Compute x
  covered-is i stage access thing j Host x =
      let acts : ℕ → Bool = acts_at q.commands thing in
      let source : Source = source_of (queue_of q i) (chain_stage stage) (Some (chain_access access)) in
      let first : Bool = is_covered_on q i stage access thing j Host x 0 in
      (λ k. first || (none-reached acts (event_at q) source i j 1 (chain_access x) events-are refl k
      || (none-reached acts (event_at q) source i j 2 (chain_access x) events-are refl k
      || (none-reached acts (event_at q) source i j 3 (chain_access x) events-are refl k || false))))
      ∙ (or-none first ∙ covered-is-0 i stage access thing j Host x)

pub one-queue-has-barriers : OneQueueHasBarriers
one-queue-has-barriers q alone = (ordered-is q alone, covered-is q alone)
