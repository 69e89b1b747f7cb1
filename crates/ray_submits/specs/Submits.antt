-- What is submitted when: the commands of a recording, and what each `submit` of them is submitted with.
-- (Vulkan: queue submission; own: that a command belongs to the next `submit`.)
use Rattle.std.specs.Prelude.{◌<◌, All, ℕ, zero, suc, List, Option, Some, slice_get}
use Rattle.std.specs.Option.{option_map_or}
use Rattle.ray_cmd.specs.declared.command.Command.{Command}
use Rattle.ray_cmd.specs.declared.command.Command.TheVariants as commands
use Rattle.ray_rules.specs.declared.kind.Kind.{Kind}
use Rattle.ray_rules.specs.declared.kind.Kind.TheVariants.{HostCommand}
use Rattle.ray_rules.specs.Order.{kind_at}
use Rattle.ray_submits.specs.declared.submission.Submission.{Submission}

-- the commands of a recording, and what each `submit` is submitted with, in order
pub record QueueCommands : Type 0 where
  pub commands : List Command
  pub submits : List Submission

-- each of some submissions goes to one of the four queues
abbrev pub HaveQueues : List Submission → Type 0
HaveQueues submits = All (λ (s : Submission). s.queue < 4) submits

-- how many `submit`s there are once a command is counted
abbrev pub count_after : Option Command → ℕ → ℕ
count_after (Some commands.Submit) count = suc count
count_after _ count = count

-- how many there are below number n
abbrev pub submits_below : List Command → ℕ → ℕ
submits_below cs zero = 0
submits_below cs (suc n) = count_after (slice_get cs n) (submits_below cs n)

-- the submission that command number i belongs to: that of the next `submit` from it on
abbrev pub submission_at : QueueCommands → ℕ → Option Submission
submission_at q i = slice_get q.submits (submits_below q.commands i)

-- the queue of a submission, 0 where there is none
abbrev pub queue_in : Option Submission → ℕ
queue_in submission = option_map_or (λ (s : Submission). s.queue) submission 0

-- the queue of a command of a kind: 0 where it is done by the host
abbrev pub queue_by : Kind → Option Submission → ℕ
queue_by HostCommand submission = 0
queue_by _ submission = queue_in submission

-- the queue of command number i
abbrev pub queue_of : QueueCommands → ℕ → ℕ
queue_of q i = queue_by (kind_at q.commands i) (submission_at q i)
