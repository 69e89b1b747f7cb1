-- Each submission that is read goes to one of the four queues.
use Rattle.std.proofs.Common.{◌≡◌, ◌<◌, ◌+◌, ℕ, zero, suc, Bool, true, false, List, [], ◌∷◌, Option, Some, None, Result, Ok, Err, refl, ap, subst, arith}
use Rattle.std.specs.Option.{option_map_or}
use Rattle.std.specs.Prelude.{IfOk, option_and_then, codes, if◌then◌else◌, nat_lt}
use Rattle.std.proofs.lemmas.Bool.Decides.{nat_tests}
use Rattle.serde_json.specs.Data.{Data, Items, no_items, item}
use Rattle.serde_json.specs.Find.{get}
use Rattle.ray_json.specs.Fields.{at, only, u32_of}
use Rattle.ray_submits.specs.declared.fault.QueueFault.{QueueFault}
use Rattle.ray_submits.specs.declared.submission.Submission.{Submission}
use Rattle.ray_submits.specs.Reading.{◌>>=◌, Answers, or_bad, submits_from}
use Rattle.ray_submits.specs.Shapes.{points_of, queue_of, submission_of}
use Rattle.ray_submits.specs.Submits.{HaveQueues}

-- what was read first, and then the rest
record Reads {A B : Type 0} (first : Option A) (next : A → Option B) (b : B) : Type 0 where
  value : A
  is : first ≡ Some value
  rest : next value ≡ Some b

reads : {A B : Type 0} (first : Option A) (next : A → Option B) (b : B)
    → option_and_then next first ≡ Some b → Reads first next b
reads None next b e = absurd cc
reads (Some a) next b e = record { value = a; is = refl; rest = e }

within : (n queue : ℕ) → (if nat_lt n 4 then Some n else None) ≡ Some queue → queue < 4
within n queue e = choose (nat_lt n 4) refl e
  where
    choose : (b : Bool) → nat_lt n 4 ≡ b → (if b then Some n else None) ≡ Some queue → queue < 4
    choose true test f = let same : n ≡ queue = cc in let low : n < 4 = grind (arith, nat_tests) in omega arith
    choose false test f = absurd cc

queue-within : (d : Data) (queue : ℕ) → queue_of d ≡ Some queue → queue < 4
queue-within d queue e =
    let r = reads (u32_of d) (λ n. if nat_lt n 4 then Some n else None) queue e in
    within r.value queue r.rest

member-within : (found : Option Data) (queue : ℕ) → option_and_then queue_of found ≡ Some queue → queue < 4
member-within found queue e = let r = reads found queue_of queue e in queue-within r.value queue r.rest

submission-within : (d : Data) (s : Submission) → submission_of d ≡ Some s → s.queue < 4
unfolding submission_of
submission-within d s e =
    let u = reads (only (codes "queue" ∷ codes "waits" ∷ codes "signals" ∷ []) d) _ s e in
    let queue = reads (at queue_of (codes "queue") d) _ s u.rest in
    let waits = reads (at points_of (codes "waits") d) _ s queue.rest in
    let signals = reads (at points_of (codes "signals") d) _ s waits.rest in
    let low = member-within (get (codes "queue") d) queue.value queue.is in
    subst (λ n. n < 4) (ap (λ o. option_map_or (λ (x : Submission). x.queue) o 0) signals.rest) low

-- ---- lists of them

none-queued : HaveQueues []
none-queued i d below = absurd (omega (arith, below))

more-queued : (s : Submission) (submits : List Submission) → s.queue < 4 → HaveQueues submits → HaveQueues (s ∷ submits)
more-queued s submits low are zero d below = low
more-queued s submits low are (suc i) d below = are i d (omega (arith, below))

step-queued : (k : ℕ) (o : Option Submission) (r : Result (List Submission) QueueFault) (submits : List Submission)
    → ((s : Submission) → o ≡ Some s → s.queue < 4)
    → ((rest : List Submission) → r ≡ Ok rest → HaveQueues rest)
    → (or_bad k o >>= λ s. r >>= λ rest. Ok (s ∷ rest)) ≡ Ok submits → HaveQueues submits
step-queued k None r submits one more e = absurd cc
step-queued k (Some s) (Err fault) submits one more e = absurd cc
step-queued k (Some s) (Ok rest) submits one more e =
    let same : (s ∷ rest) ≡ submits = cc in
    subst HaveQueues same (more-queued s rest (one s refl) (more rest refl))

queued : (k : ℕ) (ds : Items) (submits : List Submission) → submits_from k ds ≡ Ok submits → HaveQueues submits
unfolding submits_from
queued k no_items submits e = let same : [] ≡ submits = cc in subst HaveQueues same none-queued
queued k (item d ds) submits e =
    step-queued k (submission_of d) (submits_from (k + 1) ds) submits (submission-within d) (λ rest f. queued (k + 1) ds rest f) e

pub answer-queued : (ds : Items) (answer : Result (List Submission) QueueFault) → Answers answer (submits_from 0 ds) → IfOk answer HaveQueues
answer-queued ds (Ok submits) e = queued 0 ds submits e
answer-queued ds (Err fault) e = tt
