-- The refusal of commands that are submitted to several queues, by the rules on hazards between commands
-- and on timeline semaphores. (Own.)
use Rattle.std.specs.Prelude.{ℕ, zero, suc, List, [], ◌∷◌, Option, None}
use Rattle.ray_cmd.specs.declared.refusal.Refusal.{Refusal}
use Rattle.ray_rules.specs.Hazards.{v25, v26, v27, v32}
use Rattle.ray_rules.specs.Refusals.{Row, least_broken, or_after}
use Rattle.ray_submits.specs.Semaphores.{v33, v34}
use Rattle.ray_submits.specs.Submits.{QueueCommands}
use Rattle.ray_queues.specs.QueueOrder.{queue_order}

-- the rules in rising order, each with the place where command number i breaks it
abbrev pub queue_table : QueueCommands → ℕ → List Row
queue_table q i =
    (25, v25 (queue_order q) q.commands i) ∷ (26, v26 (queue_order q) q.commands i)
    ∷ (27, v27 (queue_order q) q.commands i) ∷ (32, v32 (queue_order q) q.commands i)
    ∷ (33, v33 q i) ∷ (34, v34 q i) ∷ []

-- the refusal of command number i by the least of them
unfoldable pub queue_refusal_of : QueueCommands → ℕ → Option Refusal
queue_refusal_of q i = least_broken i (queue_table q i)

-- that of the first command below number n that breaks one
abbrev pub first_queue_refusal : QueueCommands → ℕ → Option Refusal
first_queue_refusal q zero = None
first_queue_refusal q (suc n) = or_after (first_queue_refusal q n) (queue_refusal_of q n)
