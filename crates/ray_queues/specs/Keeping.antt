-- What is kept of the order from one command to the next. (Own.)
use Rattle.std.specs.Prelude.{◌≡◌, ◌≤◌, ℕ, Option, Some, slice_get}
use Rattle.ray_cmd.specs.declared.command.Command.{Command}
use Rattle.ray_cmd.specs.declared.command.Command.TheVariants as commands
use Rattle.ray_rules.specs.Order.{last_wait}
use Rattle.ray_submits.specs.declared.submission.Submission.{Submission}
use Rattle.ray_submits.specs.Submits.{QueueCommands, submission_at}
use Rattle.ray_sync.specs.Events.{barrier_of}
use Rattle.ray_queues.specs.declared.arrived.QueueEvent.{QueueEvent}
use Rattle.ray_queues.specs.declared.arrived.QueueEvent.TheVariants as passed
use Rattle.ray_queues.specs.declared.keeping.Keeping.{Keeping}
use Rattle.ray_queues.specs.declared.per_queue.PerQueue.{PerQueue}
use Rattle.ray_queues.specs.Marks.{AreMarks}
use Rattle.ray_queues.specs.Sources.{AreTargets}

-- command number n is this one, and belongs to this submission
pub record IsHere (q : QueueCommands) (n : ℕ) (c : Command) (s : Option Submission) : Type 0 where
  pub command : slice_get q.commands n ≡ Some c
  pub submission : submission_at q n ≡ s

-- what a command of a queue is to the order, with the numbers for a `begin`
abbrev pub passed_by : ℕ → PerQueue → Command → QueueEvent
passed_by queue numbers (commands.Barrier src_stages src_access dst_stages dst_access buffers) =
    passed.Barrier queue (barrier_of src_stages src_access dst_stages dst_access)
passed_by queue numbers commands.Begin = passed.Begin queue numbers
passed_by queue numbers commands.Wait = passed.Wait
passed_by queue numbers _ = passed.Other

-- what is kept is so where command number n stands
pub record IsKeeping (q : QueueCommands) (n : ℕ) (z : Keeping) : Type 0 where
  pub targets : AreTargets q n z.targets
  pub marks : AreMarks q n z.marks
  pub waited : last_wait q.commands n ≡ z.waited
  pub low : z.waited ≤ n
