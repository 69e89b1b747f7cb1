-- The order of commands that are submitted to several queues, by barriers, semaphores and waits of the
-- host. (Vulkan: execution and memory dependencies, semaphore signal and wait operations; own: what a
-- signal carries, and that what the host reads may be covered at any queue.)
use Rattle.std.specs.Prelude.{ℕ, Bool, List, [], ◌∷◌, Option, Some, None}
use Rattle.std.specs.List.{list_any}
use Rattle.ray_chains.specs.Dependencies.{reached}
use Rattle.ray_chains.specs.QueueLaws.{source_of}
use Rattle.ray_chains.specs.Queues.{Visible, is_ordered, steps}
use Rattle.ray_rules.specs.declared.access_type.AccessType.{AccessType}
use Rattle.ray_rules.specs.declared.stage.Stage.{Stage}
use Rattle.ray_rules.specs.declared.stage.Stage.TheVariants.{Host}
use Rattle.ray_rules.specs.Order.{Ordering, acts_at}
use Rattle.ray_submits.specs.Submits.{QueueCommands, queue_of}
use Rattle.ray_sync.specs.Events.{chain_access, chain_stage}
use Rattle.ray_queues.specs.Events.{event_at}

-- whether device command number i, of a stage, is ordered before what command number j does at a stage
-- of its queue
abbrev pub is_ordered_on : QueueCommands → ℕ → Stage → ℕ → Stage → Bool
is_ordered_on q i stage j to =
    is_ordered (event_at q) (source_of (queue_of q i) (chain_stage stage) None) i j (queue_of q j) (chain_stage to)

-- whether what device command number i, of a stage, wrote to a thing with an access is covered to an
-- access at a stage of a queue where command number j stands
abbrev pub is_covered_on : QueueCommands → ℕ → Stage → AccessType → Option ℕ → ℕ → Stage → AccessType → ℕ → Bool
is_covered_on q i stage access thing j to x queue =
    reached (acts_at q.commands thing)
    (steps (event_at q) (source_of (queue_of q i) (chain_stage stage) (Some (chain_access access)))) i j
    (Visible queue (chain_stage to) (chain_access x))

-- at which queues a write has to be covered to an access at a stage by a command of a queue, at one of
-- them: at any where the host reads, and else at the command's own
abbrev pub queues_at : ℕ → Stage → List ℕ
queues_at queue Host = 0 ∷ 1 ∷ 2 ∷ 3 ∷ []
queues_at queue _ = queue ∷ []

abbrev pub is_covered_at : QueueCommands → ℕ → Stage → AccessType → Option ℕ → ℕ → Stage → AccessType → Bool
is_covered_at q i stage access thing j to x =
    list_any (is_covered_on q i stage access thing j to x) (queues_at (queue_of q j) to)

-- the order
abbrev pub queue_order : QueueCommands → Ordering
queue_order q = record { ordered = is_ordered_on q; covered = is_covered_at q }
