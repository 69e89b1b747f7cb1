-- Commands that are submitted to queues, as the events over which dependencies are handed on. (Vulkan:
-- queue submission and timeline semaphores; own: that a submission begins with the `begin` before its
-- `submit`. The words of events are those of ray_chains.)
use Rattle.std.specs.Prelude.{ℕ, List, [], Option, Some, None, map, slice_get}
use Rattle.std.specs.Option.{option_map_or}
use Rattle.ray_chains.specs.Queues.{Event, Barrier, Begin, Submit, Wait, Other, TimelinePoint}
use Rattle.ray_chains.specs.Tables.{scopes_of}
use Rattle.ray_cmd.specs.declared.command.Command.{Command}
use Rattle.ray_cmd.specs.declared.command.Command.TheVariants as commands
use Rattle.ray_submits.specs.declared.point.SemaphorePoint.{SemaphorePoint}
use Rattle.ray_submits.specs.declared.submission.Submission.{Submission}
use Rattle.ray_submits.specs.Submits.{QueueCommands, queue_in, submission_at}
use Rattle.ray_sync.specs.Events.{barrier_of}

-- a wait or a signal
abbrev pub timeline_point : SemaphorePoint → TimelinePoint
timeline_point p = record { semaphore = p.semaphore; value = p.value }

-- what a submission waits for, and what it signals: nothing where there is none
abbrev pub waits_in : Option Submission → List TimelinePoint
waits_in None = []
waits_in (Some s) = map timeline_point s.waits

abbrev pub signals_in : Option Submission → List TimelinePoint
signals_in None = []
signals_in (Some s) = map timeline_point s.signals

-- a command of a submission as an event: a `begin` waits for its semaphores, and a `submit` signals them
abbrev pub event_of : Option Submission → Command → Event
event_of s (commands.Barrier src_stages src_access dst_stages dst_access buffers) =
    Barrier (queue_in s) (scopes_of (barrier_of src_stages src_access dst_stages dst_access)) buffers
event_of s commands.Begin = Begin (queue_in s) (waits_in s)
event_of s commands.Submit = Submit (queue_in s) (signals_in s)
event_of s commands.Wait = Wait
event_of s _ = Other

-- command number n as an event
abbrev pub event_at : QueueCommands → ℕ → Event
event_at q n = option_map_or (event_of (submission_at q n)) (slice_get q.commands n) Other
