-- What is kept of the order goes on from a command to the next.
use Rattle.std.proofs.Common.{◌≡◌, ◌<◌, ◌≤◌, ◌∙◌, ℕ, suc, Bool, true, false, List, Option, Some, None, Result, Ok, Err, map, refl, sym, ap, subst, arith}
use Rattle.std.specs.Prelude.{OnOk, if◌then◌else◌}
use Rattle.std.specs.Option.{option_map_or}
use Rattle.ray_chains.specs.Keeping.{hands_to}
use Rattle.ray_chains.specs.Queues.{Other, TimelinePoint, signals_enough}
use Rattle.ray_cmd.specs.declared.command.Command.{Command}
use Rattle.ray_cmd.specs.declared.command.Command.TheVariants as commands
use Rattle.ray_rules.specs.Order.{is_wait, last_wait}
use Rattle.ray_submits.specs.declared.point.SemaphorePoint.{SemaphorePoint}
use Rattle.ray_submits.specs.declared.submission.Submission.{Submission}
use Rattle.ray_submits.specs.Submits.{HaveQueues, QueueCommands, queue_in}
use Rattle.ray_queues.specs.declared.arrived.QueueEvent.{QueueEvent}
use Rattle.ray_queues.specs.declared.marks.Marks.{Marks}
use Rattle.ray_queues.specs.declared.per_queue.PerQueue.{PerQueue}
use Rattle.ray_queues.specs.Events.{event_at, event_of, waits_in}
use Rattle.ray_queues.specs.Keeping.{IsHere, passed_by}
use Rattle.ray_queues.specs.Marks.{AddMarks, AreMarks, mark_of, number_sent}
use Rattle.ray_queues.specs.Sources.{ArePerQueue, IsEvent, number_met}
use Rattle.ray_queues.proofs.Marking.{marks-sent, marks-still}
use Rattle.ray_queues.proofs.Named.{submission-below}

-- the event of a command
event-here : (q : QueueCommands) (n : ℕ) (c : Command) (s : Option Submission) → IsHere q n c s → event_at q n ≡ event_of s c
event-here q n c s is = λ i. option_map_or (event_of (is.submission i)) (is.command i) Other

-- what is passed is that event
event-by :
    (q : QueueCommands) (n : ℕ) (c : Command) (s : Option Submission) (numbers : PerQueue) → IsHere q n c s
    → (c ≡ commands.Begin → ArePerQueue (number_met q n (waits_in s)) numbers)
    → IsEvent q n (passed_by (queue_in s) numbers c)
event-by q n (commands.Barrier src sa dst da buffers) s numbers is met =
    record { buffers = buffers; is = event-here q n (commands.Barrier src sa dst da buffers) s is }
event-by q n commands.Begin s numbers is met =
    record { waits = waits_in s; is = event-here q n commands.Begin s is; met = met refl }
event-by q n commands.Wait s numbers is met = event-here q n commands.Wait s is
event-by q n commands.Submit s numbers is met = λ queue. ap (hands_to queue) (event-here q n commands.Submit s is)
event-by q n _ s numbers is met = λ queue. ap (hands_to queue) (event-here q n _ s is)

pub event-is :
    (q : QueueCommands) (n : ℕ) (c : Command) (s : Option Submission) (queue : ℕ) (numbers : PerQueue)
    (event : QueueEvent) → IsHere q n c s → queue ≡ queue_in s
    → (c ≡ commands.Begin → ArePerQueue (number_met q n (waits_in s)) numbers)
    → event ≡ passed_by queue numbers c → IsEvent q n event
event-is q n c s queue numbers event is e met f =
    subst (IsEvent q n) (sym (f ∙ λ i. passed_by (e i) numbers c)) (event-by q n c s numbers is met)

-- ---- marks

no-signal :
    (q : QueueCommands) (n : ℕ) (c : Command) (s : Option Submission) (wait : TimelinePoint) → (c ≡ commands.Submit → ⊥)
    → IsHere q n c s → signals_enough wait (event_at q n) ≡ false
no-signal q n (commands.Barrier src sa dst da buffers) s wait other is =
    ap (signals_enough wait) (event-here q n (commands.Barrier src sa dst da buffers) s is)
no-signal q n commands.Begin s wait other is = ap (signals_enough wait) (event-here q n commands.Begin s is)
no-signal q n commands.Wait s wait other is = ap (signals_enough wait) (event-here q n commands.Wait s is)
no-signal q n commands.Submit s wait other is = absurd (other refl)
no-signal q n _ s wait other is = ap (signals_enough wait) (event-here q n _ s is)

pub marks-other :
    (q : QueueCommands) (n : ℕ) (c : Command) (s : Option Submission) (marks : Marks) → (c ≡ commands.Submit → ⊥)
    → IsHere q n c s → AreMarks q n marks → AreMarks q (suc n) marks
marks-other q n c s marks other is = marks-still q n marks (λ wait. no-signal q n c s wait other is)

pub marks-absent :
    (q : QueueCommands) (n : ℕ) (marks : Marks) → IsHere q n commands.Submit None → AreMarks q n marks
    → AreMarks q (suc n) marks
marks-absent q n marks is =
    marks-still q n marks (λ wait. ap (signals_enough wait) (event-here q n commands.Submit None is))

pub queue-here :
    (q : QueueCommands) (n : ℕ) (s : Submission) → HaveQueues q.submits → IsHere q n commands.Submit (Some s) → s.queue < 4
queue-here q n s have is = subst (λ o. queue_in o < 4) is.submission (submission-below q have n)

pub marks-present :
    (q : QueueCommands) (n : ℕ) (s : Submission) (old new : Marks) (numbers : PerQueue) (signals : List SemaphorePoint)
    → IsHere q n commands.Submit (Some s) → ArePerQueue (number_sent q s.queue n) numbers → signals ≡ s.signals
    → AddMarks old (map (mark_of n numbers) signals) new → AreMarks q n old → AreMarks q (suc n) new
marks-present q n s old new numbers signals is carried same added are =
    marks-sent q n s.queue old new s.signals numbers (event-here q n commands.Submit (Some s) is) carried
    (subst (λ ps. AddMarks old (map (mark_of n numbers) ps) new) same added) are

-- ---- waits of the host

pub last-is :
    (q : QueueCommands) (n : ℕ) (c : Command) (s : Option Submission) (old new : ℕ) → IsHere q n c s
    → new ≡ (if is_wait (Some c) then n else old) → last_wait q.commands n ≡ old → last_wait q.commands (suc n) ≡ new
last-is q n c s old new is e last =
    (λ i. if is_wait (is.command i) then n else last i) ∙ sym e

pub last-low :
    (n old new : ℕ) (wait : Bool) → new ≡ (if wait then n else old) → old ≤ n → new ≤ suc n
last-low n old new true e low = omega arith
last-low n old new false e low = omega arith

-- what follows from the Ok of a call
pub weaker : {E : Type 0} {P Q : Type 0} (r : Result (Unit {0}) E) → (P → Q) → OnOk r P → OnOk r Q
weaker (Ok u) f p = f p
weaker (Err e) f p = tt
