-- What arrives at a queue, from a command to the next.
use Rattle.std.proofs.Common.{◌≡◌, ◌≢◌, ◌∙◌, ℕ, suc, Bool, true, false, ◌&&◌, ◌++◌, List, [], ◌∷◌, Option, Some, None, slice_get, refl, sym, ap, subst, arith}
use Rattle.std.specs.Prelude.{◌==◌, max, if◌then◌else◌}
use Rattle.std.specs.Option.{option_map_or}
use Rattle.std.proofs.lemmas.Bool.Decides.{nat_tests}
use Rattle.ray_chains.specs.declared.access_type.AccessType.{AccessType}
use Rattle.ray_chains.specs.declared.access_type.AccessType.TheVariants.{TransferWrite}
use Rattle.ray_chains.specs.declared.masks.MemoryBarrier.{MemoryBarrier}
use Rattle.ray_chains.specs.declared.stage.Stage.{Stage}
use Rattle.ray_chains.specs.declared.stage.Stage.TheVariants.{Transfer}
use Rattle.ray_chains.specs.Fronts.{front, greatest_of}
use Rattle.ray_chains.specs.Keeping.{hands_to}
use Rattle.ray_chains.specs.QueueLaws.{source_of}
use Rattle.ray_chains.specs.Queues.{Barrier, Begin, Event, Node, Other, Scopes, Signalled, TimelinePoint, Visible, acts_on_all, everywhere, first_below, met_by, signal_of, signals_enough, steps, takes, takes_source}
use Rattle.ray_chains.specs.Tables.{scopes_of}
use Rattle.ray_chains.proofs.Across.{far-alike, sent-alike, signals-alike}
use Rattle.ray_cmd.specs.declared.command.Command.{Command}
use Rattle.ray_cmd.specs.declared.command.Command.TheVariants as commands
use Rattle.ray_flags.specs.declared.access.Access.{Access}
use Rattle.ray_flags.specs.declared.stages.Stages.{Stages}
use Rattle.ray_hazards.specs.declared.limits.PerWay.{PerWay}
use Rattle.ray_hazards.specs.Carrying.{AreActs, AreWays, IsMet}
use Rattle.ray_hazards.proofs.Carrying.{carried-still, coverage-still}
use Rattle.ray_queues.specs.declared.per_queue.PerQueue.{PerQueue}
use Rattle.ray_queues.specs.Events.{event_at, event_of, waits_in}
use Rattle.ray_queues.specs.Keeping.{IsHere}
use Rattle.ray_queues.specs.Sources.{ArePerQueue, front_from, number_met}
use Rattle.ray_queues.proofs.Marking.{other-number}
use Rattle.ray_rules.specs.Order.{acts_on, always, reaches}
use Rattle.ray_rules.specs.Status.{Status, status_at}
use Rattle.ray_submits.specs.declared.submission.Submission.{Submission}
use Rattle.ray_submits.specs.Submits.{QueueCommands, queue_in, submission_at}
use Rattle.ray_sync.specs.Events.{barrier_of}
use Rattle.ray_sync.proofs.OneQueue.{never-named}
use Rattle.ray_queue_check.specs.declared.arriving.Arriving.{Arriving}
use Rattle.ray_queue_check.specs.Arriving.{AreMet, IsArriving, IsBegun, far_source, number_to, several_queues}
use Rattle.ray_queue_check.specs.Numbers.{all_ways}
use Rattle.ray_queue_check.specs.Passing.{IsBarrierHere}
use Rattle.ray_queue_check.proofs.Numbers.{ways-all}

-- what acts on everything acts on a thing
over-if :
    (thing : Option ℕ) (z : Status) (s : Option Submission) (o : Option Command)
    → acts_on_all (option_map_or (event_of s) o Other) ≡ true → option_map_or (acts_on thing z) o true ≡ true
over-if thing z s None h = refl
over-if thing z s (Some (commands.Barrier src sa dst da None)) h = refl
over-if thing z s (Some (commands.Barrier src sa dst da (Some ids))) h = absurd cc
over-if thing z s (Some _) h = refl

-- on structures nothing else does
structures-if :
    (z : Status) (s : Option Submission) (o : Option Command)
    → option_map_or (acts_on None z) o true ≡ acts_on_all (option_map_or (event_of s) o Other)
structures-if z s None = refl
structures-if z s (Some (commands.Barrier src sa dst da None)) = refl
structures-if z s (Some (commands.Barrier src sa dst da (Some ids))) = never-named z ids
structures-if z s (Some _) = refl

pub several-acts : (q : QueueCommands) → AreActs (several_queues q)
several-acts q = record {
  over = λ thing m h. over-if thing (status_at q.commands m) (submission_at q m) (slice_get q.commands m) h;
  structures = λ m. structures-if (status_at q.commands m) (submission_at q m) (slice_get q.commands m);
}

-- what another queue wrote is taken up by no barrier directly
pub takes-far :
    (queue from : ℕ) (scopes : Scopes) → (queue == from) ≡ false → false ≡ takes (far_source from) queue scopes
takes-far queue from scopes apart = λ i.
    sym apart i && takes_source (far_source from) scopes.src_stages scopes.src_access

-- an event that hands nothing to a queue changes nothing there
pub arriving-still :
    (q : QueueCommands) (queue n : ℕ) (z : Arriving) → hands_to queue (event_at q n) ≡ false → IsArriving q queue n z
    → IsArriving q queue (suc n) z
arriving-still q queue n z nothing is = record {
  own = coverage-still (several_queues q) queue n z.own nothing is.own;
  zero = λ apart. carried-still (several_queues q) (far_source 0) queue n z.zero nothing (is.zero apart);
  one = λ apart. carried-still (several_queues q) (far_source 1) queue n z.one nothing (is.one apart);
  two = λ apart. carried-still (several_queues q) (far_source 2) queue n z.two nothing (is.two apart);
  three = λ apart. carried-still (several_queues q) (far_source 3) queue n z.three nothing (is.three apart);
}

-- an event of another queue is such
pub barrier-elsewhere :
    (q : QueueCommands) (at n queue : ℕ) (scopes : Scopes) (buffers : Option (List ℕ)) (z : Arriving) → queue ≢ at
    → event_at q n ≡ Barrier queue scopes buffers → IsArriving q at n z → IsArriving q at (suc n) z
barrier-elsewhere q at n queue scopes buffers z other event is =
    arriving-still q at n z (ap (hands_to at) event ∙ other-number queue at other) is

pub begin-elsewhere :
    (q : QueueCommands) (at n queue : ℕ) (waits : List TimelinePoint) (z : Arriving) → queue ≢ at
    → event_at q n ≡ Begin queue waits → IsArriving q at n z → IsArriving q at (suc n) z
begin-elsewhere q at n queue waits z other event is =
    arriving-still q at n z (ap (hands_to at) event ∙ other-number queue at other) is

-- ---- what is covered

-- a queue is itself
pub same-queue : (queue : ℕ) → (queue == queue) ≡ true
same-queue queue = grind (arith, nat_tests)

pub is-number : (a b : ℕ) → (a == b) ≡ true → a ≡ b
is-number a b e = grind (arith, nat_tests)

-- what a queue wrote, of this queue or of another
pub reached-one :
    (q : QueueCommands) (from at : ℕ) (thing : Option ℕ) (n : ℕ) (to : Stage) (x : AccessType) (own : Bool)
    (limits : PerWay) (far : ℕ) (chosen : PerWay) → own ≡ (at == from)
    → chosen ≡ (if own then limits else all_ways far) → AreWays (number_to q thing n at to x at) limits
    → ((at == from) ≡ false → number_to q thing n at to x from Transfer TransferWrite ≡ far)
    → AreWays (number_to q thing n at to x from) chosen
reached-one q from at thing n to x true limits far chosen test e is other =
    subst (λ k. AreWays (number_to q thing n at to x k) chosen) (is-number at from (sym test))
    (subst (AreWays (number_to q thing n at to x at)) (sym e) is)
reached-one q from at thing n to x false limits far chosen test e is other =
    subst (AreWays (number_to q thing n at to x from)) (sym e)
    (ways-all (number_to q thing n at to x from) far (λ stage access.
    far-alike (event_at q) from at n stage Transfer (Some access) (Some TransferWrite)
    ((several_queues q).acts thing) (Visible at to x) (sym test) (λ i. same-queue at i && true)
    ∙ other (sym test)))

-- ---- what is carried by signals

-- two functions that agree on signals
signals-same :
    (events : ℕ → Event) (n : ℕ) (f g : Node → ℕ) → ((submit : ℕ) → f (Signalled submit) ≡ g (Signalled submit))
    → (o : Option ℕ) (rest : List Node) → greatest_of f rest ≡ greatest_of g rest
    → greatest_of f (signal_of o ++ rest) ≡ greatest_of g (signal_of o ++ rest)
signals-same events n f g same None rest e = e
signals-same events n f g same (Some submit) rest e = λ i. max (same submit i) (e i)

meets-same :
    (events : ℕ → Event) (n : ℕ) (f g : Node → ℕ) → ((submit : ℕ) → f (Signalled submit) ≡ g (Signalled submit))
    → (zero : Bool) (o : Option ℕ) (rest : List Node) → greatest_of f rest ≡ greatest_of g rest
    → greatest_of f ((if zero then [] else signal_of o) ++ rest) ≡ greatest_of g ((if zero then [] else signal_of o) ++ rest)
meets-same events n f g same true o rest e = e
meets-same events n f g same false o rest e = signals-same events n f g same o rest e

met-same :
    (events : ℕ → Event) (n : ℕ) (f g : Node → ℕ) → ((submit : ℕ) → f (Signalled submit) ≡ g (Signalled submit))
    → (waits : List TimelinePoint) → greatest_of f (met_by events n waits) ≡ greatest_of g (met_by events n waits)
met-same events n f g same [] = refl
met-same events n f g same (wait ∷ waits) =
    meets-same events n f g same (wait.value == 0) (first_below (λ m. signals_enough wait (events m)) n)
    (met_by events n waits) (met-same events n f g same waits)

-- of each stage and access the same is
met-one :
    (q : QueueCommands) (n : ℕ) (waits : List TimelinePoint) (from number : ℕ)
    → number_met q n waits from Transfer ≡ number → IsMet (several_queues q) from n waits number
met-one q n waits from number is stage access =
    sym is
    ∙ met-same (event_at q) n (front_from q from Transfer n)
    (front (everywhere (event_at q)) (steps (event_at q) (source_of from stage access)) n) (λ submit.
    signals-alike always (event_at q) (source_of from Transfer None) n submit (λ m e. refl)
    ∙ sent-alike (event_at q) from submit n Transfer stage None access (everywhere (event_at q))) waits

pub met-all :
    (q : QueueCommands) (n : ℕ) (waits : List TimelinePoint) (numbers : PerQueue)
    → ArePerQueue (number_met q n waits) numbers → AreMet q n waits numbers
met-all q n waits numbers are = record {
  zero = met-one q n waits 0 numbers.zero.transfer are.zero.transfer;
  one = met-one q n waits 1 numbers.one.transfer are.one.transfer;
  two = met-one q n waits 2 numbers.two.transfer are.two.transfer;
  three = met-one q n waits 3 numbers.three.transfer are.three.transfer;
}

-- ---- commands

-- the event of a command
pub event-here : (q : QueueCommands) (n : ℕ) (c : Command) (s : Option Submission) → IsHere q n c s → event_at q n ≡ event_of s c
event-here q n c s is = λ i. option_map_or (event_of (is.submission i)) (is.command i) Other

-- a barrier
pub barrier-here :
    (q : QueueCommands) (n : ℕ) (z : Status) (s : Option Submission) (src : Stages) (sa : Access) (dst : Stages)
    (da : Access) (buffers : Option (List ℕ)) (queue : ℕ) (barrier : MemoryBarrier)
    → IsHere q n (commands.Barrier src sa dst da buffers) s → z ≡ status_at q.commands n → queue ≡ queue_in s
    → barrier ≡ barrier_of src sa dst da → IsBarrierHere q n z queue barrier buffers
barrier-here q n z s src sa dst da buffers queue barrier is status e same = record {
  event = event-here q n (commands.Barrier src sa dst da buffers) s is ∙ (λ i. Barrier (sym e i) (scopes_of (sym same i)) buffers);
  acts = λ thing.
      ap (λ o. option_map_or (acts_on thing (status_at q.commands n)) o true) is.command
      ∙ (λ i. reaches (sym status i) buffers thing);
}

-- a command that hands nothing to any queue
pub hands-nothing :
    (c : Command) (s : Option Submission) (queue : ℕ) → (c ≡ commands.Wait → ⊥) → (c ≡ commands.Begin → ⊥)
    → ((src : Stages) (sa : Access) (dst : Stages) (da : Access) (buffers : Option (List ℕ)) → c ≡ commands.Barrier src sa dst da buffers → ⊥)
    → hands_to queue (event_of s c) ≡ false
hands-nothing commands.Wait s queue no_wait no_begin no_barrier = absurd (no_wait refl)
hands-nothing commands.Begin s queue no_wait no_begin no_barrier = absurd (no_begin refl)
hands-nothing (commands.Barrier src sa dst da buffers) s queue no_wait no_begin no_barrier =
    absurd (no_barrier src sa dst da buffers refl)
hands-nothing commands.Submit s queue no_wait no_begin no_barrier = refl
hands-nothing _ s queue no_wait no_begin no_barrier = refl

-- the same command by another name
pub here-as :
    (q : QueueCommands) (n : ℕ) (c d : Command) (s : Option Submission) → c ≡ d → IsHere q n c s → IsHere q n d s
here-as q n c d s e is = subst (λ k. IsHere q n k s) e is

-- the begin of a submission
pub begin-here :
    (q : QueueCommands) (n : ℕ) (s : Option Submission) (queue : ℕ) (numbers : PerQueue) → IsHere q n commands.Begin s
    → queue ≡ queue_in s → ArePerQueue (number_met q n (waits_in s)) numbers → IsBegun q n queue numbers
begin-here q n s queue numbers is e met = record {
  waits = waits_in s;
  is = event-here q n commands.Begin s is ∙ (λ i. Begin (sym e i) (waits_in s));
  met = met-all q n (waits_in s) numbers met;
}

-- such a command where it stands
pub nothing-here :
    (q : QueueCommands) (n : ℕ) (c : Command) (s : Option Submission) → IsHere q n c s → (c ≡ commands.Wait → ⊥)
    → (c ≡ commands.Begin → ⊥)
    → ((src : Stages) (sa : Access) (dst : Stages) (da : Access) (buffers : Option (List ℕ)) → c ≡ commands.Barrier src sa dst da buffers → ⊥)
    → (queue : ℕ) → hands_to queue (event_at q n) ≡ false
nothing-here q n c s is no_wait no_begin no_barrier queue =
    ap (hands_to queue) (event-here q n c s is) ∙ hands-nothing c s queue no_wait no_begin no_barrier
