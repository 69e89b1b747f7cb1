-- That one queue without semaphores has the order of barriers and waits alone. (Own.)
use Rattle.std.specs.Prelude.{◌≡◌, ℕ, [], Option, All}
use Rattle.ray_rules.specs.declared.access_type.AccessType.{AccessType}
use Rattle.ray_rules.specs.declared.stage.Stage.{Stage}
use Rattle.ray_rules.specs.Order.{barriers}
use Rattle.ray_submits.specs.declared.submission.Submission.{Submission}
use Rattle.ray_submits.specs.Submits.{QueueCommands}
use Rattle.ray_queues.specs.QueueOrder.{queue_order}

-- a submission to queue 0 that waits for nothing
pub record IsAlone (s : Submission) : Type 0 where
  pub queue : s.queue ≡ 0
  pub waits : s.waits ≡ []

-- where all submissions are such, the order over queues is that of one queue
abbrev pub OneQueueHasBarriers : Type 0
OneQueueHasBarriers =
    (q : QueueCommands) → All IsAlone q.submits
    → ((i : ℕ) (stage : Stage) (j : ℕ) (to : Stage)
    → (queue_order q).ordered i stage j to ≡ (barriers q.commands).ordered i stage j to)
    × ((i : ℕ) (stage : Stage) (access : AccessType) (thing : Option ℕ) (j : ℕ) (to : Stage) (x : AccessType)
    → (queue_order q).covered i stage access thing j to x ≡ (barriers q.commands).covered i stage access thing j to x)
