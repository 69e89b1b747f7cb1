-- The two rules on timeline semaphores. All semaphores begin at 0. (Vulkan: VkTimelineSemaphoreSubmitInfo,
-- that a signal's value is greater than the semaphore's; own: that a wait is met by an earlier submission,
-- and that one queue alone signals a semaphore.)
use Rattle.std.specs.Prelude.{ℕ, zero, suc, ◌+◌, Bool, ◌&&◌, ◌||◌, ◌==◌, not, nat_le, List, [], ◌∷◌, ◌++◌, Option, Some, None, map, option_map, slice_get, take, if◌then◌else◌}
use Rattle.std.specs.List.{flat_map, list_any, position}
use Rattle.ray_cmd.specs.declared.command.Command.{Command}
use Rattle.ray_cmd.specs.declared.command.Command.TheVariants as commands
use Rattle.ray_cmd.specs.declared.place.Place.{Place}
use Rattle.ray_cmd.specs.declared.place.Place.TheVariants.{Part}
use Rattle.ray_cmd.specs.declared.refusal.Refusal.{Refusal}
use Rattle.ray_rules.specs.Refusals.{least_broken, or_after}
use Rattle.ray_submits.specs.declared.point.SemaphorePoint.{SemaphorePoint}
use Rattle.ray_submits.specs.declared.submission.Submission.{Submission}
use Rattle.ray_submits.specs.Submits.{QueueCommands, submission_at, submits_below}

-- a signal: which queue gives a semaphore which value
pub record Signal : Type 0 where
  pub queue : ℕ
  pub semaphore : ℕ
  pub value : ℕ

-- what a submission signals, in order
abbrev pub signal_by : ℕ → SemaphorePoint → Signal
signal_by queue p = record { queue = queue; semaphore = p.semaphore; value = p.value }

abbrev pub signals_of : Submission → List Signal
signals_of s = map (signal_by s.queue) s.signals

-- what some submissions signal, one after the other
abbrev pub all_signals : List Submission → List Signal
all_signals submits = flat_map signals_of submits

-- whether a signal is enough for a wait
abbrev pub is_enough : SemaphorePoint → Signal → Bool
is_enough wait signal = (signal.semaphore == wait.semaphore) && nat_le wait.value signal.value

-- whether a wait is met by earlier signals. One for 0 waits for nothing
abbrev pub is_met : List Signal → SemaphorePoint → Bool
is_met earlier wait = (wait.value == 0) || list_any (is_enough wait) earlier

-- whether an earlier signal of the same semaphore is at odds with one: it isn't below it, or it is by
-- another queue
abbrev pub is_odd_with : Signal → Signal → Bool
is_odd_with signal old =
    (old.semaphore == signal.semaphore) && (nat_le signal.value old.value || not (old.queue == signal.queue))

-- whether a signal doesn't rise above 0 and all earlier ones of its semaphore, or one of them is by
-- another queue
abbrev pub is_odd : List Signal → Signal → Bool
is_odd earlier signal = (signal.value == 0) || list_any (is_odd_with signal) earlier

-- the position, from k on, of the first signal that is at odds with those before it
abbrev pub first_odd : List Signal → ℕ → List Signal → Option ℕ
first_odd earlier k [] = None
first_odd earlier k (signal ∷ signals) =
    if is_odd earlier signal then Some k else first_odd (earlier ++ signal ∷ []) (k + 1) signals

-- V33: a submission waits for what no earlier one signals
unfoldable pub unmet_of : List Signal → Submission → Option Place
unmet_of earlier s = option_map Part (position (λ wait. not (is_met earlier wait)) s.waits)

-- V34: a submission signals what doesn't rise, or what another queue has signalled
unfoldable pub odd_of : List Signal → Submission → Option Place
odd_of earlier s = option_map Part (first_odd earlier 0 (signals_of s))

-- what the submissions before command number i signal
abbrev pub signals_before : QueueCommands → ℕ → List Signal
signals_before q i = all_signals (take (submits_below q.commands i) q.submits)

-- a rule on a submission, where there is one
abbrev pub of_submission : (Submission → Option Place) → Option Submission → Option Place
of_submission rule None = None
of_submission rule (Some s) = rule s

-- the submission of a command, where it is a `submit`
abbrev pub submitted_by : Option Command → Option Submission → Option Submission
submitted_by (Some commands.Submit) s = s
submitted_by _ s = None

-- the submission that command number i is, if it is one
abbrev pub submit_at : QueueCommands → ℕ → Option Submission
submit_at q i = submitted_by (slice_get q.commands i) (submission_at q i)

-- V33 and V34 of command number i
unfoldable pub v33 : QueueCommands → ℕ → Option Place
v33 q i = of_submission (unmet_of (signals_before q i)) (submit_at q i)

unfoldable pub v34 : QueueCommands → ℕ → Option Place
v34 q i = of_submission (odd_of (signals_before q i)) (submit_at q i)

-- the refusal of command number i by the lesser of the two
abbrev pub semaphore_refusal_of : QueueCommands → ℕ → Option Refusal
semaphore_refusal_of q i = least_broken i ((33, v33 q i) ∷ (34, v34 q i) ∷ [])

-- that of the first command below number n that breaks one of them
abbrev pub first_semaphore_refusal : QueueCommands → ℕ → Option Refusal
first_semaphore_refusal q zero = None
first_semaphore_refusal q (suc n) = or_after (first_semaphore_refusal q n) (semaphore_refusal_of q n)
