-- What is kept of the signals so far, for each semaphore. (Own.)
use Rattle.std.specs.Prelude.{◌≡◌, ◌<◌, ℕ, max, Bool, false, ◌&&◌, ◌||◌, ◌==◌, not, nat_le, List, [], Option, Some, None}
use Rattle.std.specs.BTreeMap.{get}
use Rattle.std.specs.List.{list_any}
use Rattle.std.specs.Ordering.{nat_cmp}
use Rattle.ray_cmd.specs.declared.refusal.Refusal.{Refusal}
use Rattle.ray_rules.specs.Refusals.{or_later}
use Rattle.ray_submits.specs.declared.point.SemaphorePoint.{SemaphorePoint}
use Rattle.ray_submits.specs.declared.semaphores.Seen.{Seen}
use Rattle.ray_submits.specs.declared.semaphores.Semaphores.{Semaphores}
use Rattle.ray_submits.specs.declared.submission.Submission.{Submission}
use Rattle.ray_submits.specs.Semaphores.{Signal, odd_of, signals_of, unmet_of}

-- what is known of a semaphore, where it has been signalled
abbrev pub seen_at : Semaphores → ℕ → Option Seen
seen_at semaphores semaphore = get nat_cmp semaphores.seen semaphore

-- its value
abbrev pub value_in : Option Seen → ℕ
value_in None = 0
value_in (Some seen) = seen.value

-- whether a queue other than this one has signalled it
abbrev pub elsewhere_in : Option Seen → ℕ → Bool
elsewhere_in None queue = false
elsewhere_in (Some seen) queue = seen.shared || not (seen.queue == queue)

-- what is known after one more signal, by a queue and to a value
abbrev pub seen_after : ℕ → ℕ → Option Seen → Seen
seen_after queue value None = record { value = value; queue = queue; shared = false }
seen_after queue value (Some old) = record {
  value = max old.value value;
  queue = old.queue;
  shared = old.shared || not (old.queue == queue);
}

-- what a submission signals, where there is one
abbrev pub signals_if : Option Submission → List Signal
signals_if None = []
signals_if (Some s) = signals_of s

-- whether a wait is met
abbrev pub is_met_in : Semaphores → SemaphorePoint → Bool
is_met_in semaphores wait = nat_le wait.value (value_in (seen_at semaphores wait.semaphore))

-- whether a signal by a queue and to a value is at odds with what is known
abbrev pub is_odd_seen : ℕ → ℕ → Option Seen → Bool
is_odd_seen queue value seen = nat_le value (value_in seen) || elsewhere_in seen queue

-- the same of a signal
abbrev pub is_odd_in : Semaphores → Signal → Bool
is_odd_in semaphores signal = is_odd_seen signal.queue signal.value (seen_at semaphores signal.semaphore)

-- whether a signal of a semaphore reaches a value, and whether it is by another queue
abbrev pub is_reached : ℕ → ℕ → Signal → Bool
is_reached semaphore value signal = (signal.semaphore == semaphore) && nat_le value signal.value

abbrev pub is_elsewhere : ℕ → ℕ → Signal → Bool
is_elsewhere semaphore queue signal = (signal.semaphore == semaphore) && not (signal.queue == queue)

-- what is known of a semaphore is so of these signals
pub record IsSeen (earlier : List Signal) (semaphore : ℕ) (seen : Option Seen) : Type 0 where
  pub reached :
      (value : ℕ) → 0 < value → list_any (is_reached semaphore value) earlier ≡ nat_le value (value_in seen)
  pub elsewhere : (queue : ℕ) → list_any (is_elsewhere semaphore queue) earlier ≡ elsewhere_in seen queue

-- and of all semaphores
pub record AreSeen (earlier : List Signal) (semaphores : Semaphores) : Type 0 where
  pub each : (semaphore : ℕ) → IsSeen earlier semaphore (seen_at semaphores semaphore)

-- the refusal of a submission, that of command number i, by the lesser of the two rules
abbrev pub submission_refusal : ℕ → List Signal → Option Submission → Option Refusal
submission_refusal i earlier None = None
submission_refusal i earlier (Some s) = or_later i 33 (unmet_of earlier s) (or_later i 34 (odd_of earlier s) None)
