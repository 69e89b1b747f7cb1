-- What has been signalled, and what is carried by it. (Own.)
use Rattle.std.specs.Prelude.{◌≡◌, ◌<◌, ℕ, Bool, ◌&&◌, ◌==◌, nat_le, List, [], Option, Some, None, if◌then◌else◌}
use Rattle.std.specs.BTreeMap.{get}
use Rattle.std.specs.List.{find}
use Rattle.std.specs.Option.{option_map, option_or}
use Rattle.std.specs.Ordering.{nat_cmp}
use Rattle.ray_chains.specs.declared.stage.Stage.{Stage}
use Rattle.ray_chains.specs.declared.stage.Stage.TheVariants.{Transfer}
use Rattle.ray_chains.specs.Fronts.{greatest_of}
use Rattle.ray_chains.specs.Queues.{Submit, TimelinePoint, first_below, meets, signals_enough}
use Rattle.ray_submits.specs.declared.point.SemaphorePoint.{SemaphorePoint}
use Rattle.ray_submits.specs.Submits.{QueueCommands}
use Rattle.ray_queues.specs.declared.rising.Mark.{Mark}
use Rattle.ray_queues.specs.declared.marks.Marks.{Marks}
use Rattle.ray_queues.specs.declared.per_queue.PerQueue.{PerQueue}
use Rattle.ray_queues.specs.Events.{event_at}
use Rattle.ray_queues.specs.Numbers.{all_queues}
use Rattle.ray_queues.specs.Sources.{ArePerQueue, front_from, number_at}

-- a signal of a submission, command number n, as a mark
abbrev pub mark_of : ℕ → PerQueue → SemaphorePoint → Mark
mark_of n numbers p = record { semaphore = p.semaphore; value = p.value; submit = n; numbers = numbers }

-- whether a mark is enough for a wait
abbrev pub is_enough : TimelinePoint → Mark → Bool
is_enough wait mark = (mark.semaphore == wait.semaphore) && nat_le wait.value mark.value

-- whether it has at least a value
abbrev pub reaches : ℕ → Mark → Bool
reaches value mark = nat_le value mark.value

-- the marks of a semaphore, none where there is nothing
abbrev pub list_of : Option (List Mark) → List Mark
list_of None = []
list_of (Some marks) = marks

-- the first mark that is enough for a wait
abbrev pub found_for : Marks → TimelinePoint → Option Mark
found_for marks wait = find (reaches wait.value) (list_of (get nat_cmp marks.raised wait.semaphore))

-- what is found afterwards is what was found before, or the first of these that is enough
pub record AddMarks (old : Marks) (added : List Mark) (new : Marks) : Type 0 where
  pub found : (wait : TimelinePoint) → found_for new wait ≡ option_or (found_for old wait) (find (is_enough wait) added)

-- the numbers of a mark, 0 where there is none
abbrev pub numbers_in : Option Mark → PerQueue
numbers_in None = all_queues 0
numbers_in (Some mark) = mark.numbers

-- below which number what was done is carried by what meets a wait, where command number n stands
abbrev pub number_for : QueueCommands → ℕ → TimelinePoint → ℕ → Stage → ℕ
number_for q n wait from stage = greatest_of (front_from q from stage n) (meets (event_at q) n wait)

-- and by the signals of a submission to a queue, command number n
abbrev pub number_sent : QueueCommands → ℕ → ℕ → ℕ → Stage → ℕ
number_sent q queue n from stage = if queue == from then n else number_at q queue n Transfer from stage

-- a mark is of a submission before number n, and has the numbers that its signals carry
pub record IsSent (q : QueueCommands) (n : ℕ) (mark : Mark) : Type 0 where
  pub queue : ℕ
  pub signals : List TimelinePoint
  pub is : event_at q mark.submit ≡ Submit queue signals
  pub below : mark.submit < n
  pub numbers : ArePerQueue (number_sent q queue mark.submit) mark.numbers

-- the first submission before number n that signals enough for a wait
abbrev pub first_enough : QueueCommands → TimelinePoint → ℕ → Option ℕ
first_enough q wait n = first_below (λ m. signals_enough wait (event_at q m)) n

-- what is found among the marks is the first of all submissions before number n that is enough
pub record AreMarks (q : QueueCommands) (n : ℕ) (marks : Marks) : Type 0 where
  pub found :
      (wait : TimelinePoint) → option_map (λ (m : Mark). m.submit) (found_for marks wait) ≡ first_enough q wait n
  pub sent : (wait : TimelinePoint) (m : Mark) → found_for marks wait ≡ Some m → IsSent q n m
