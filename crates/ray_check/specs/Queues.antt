-- The refusal of commands that are submitted to several queues by all rules on the recording alone: those of
-- a recording, on hazards in the order over queues, and those on timeline semaphores. (Own.)
use Rattle.std.specs.Prelude.{ℕ, ◌+◌, List, [], ◌∷◌, ◌++◌, Option}
use Rattle.ray_cmd.specs.declared.command.Command.{Command}
use Rattle.ray_cmd.specs.declared.refusal.Refusal.{Refusal}
use Rattle.ray_rules.specs.Refusals.{Row, least_broken, or_after, refusal_at_end}
use Rattle.ray_rules.specs.Status.{Status, after, at_first}
use Rattle.ray_rules.specs.Verdict.{rule_table}
use Rattle.ray_submits.specs.Semaphores.{v33, v34}
use Rattle.ray_submits.specs.Submits.{QueueCommands}
use Rattle.ray_queues.specs.QueueOrder.{queue_order}

-- the rules on timeline semaphores, each with the place where command number i breaks it
abbrev pub semaphore_rows : QueueCommands → ℕ → List Row
semaphore_rows q i = (33, v33 q i) ∷ (34, v34 q i) ∷ []

-- all rules in rising order
abbrev pub queue_rule_table : QueueCommands → ℕ → Status → Command → List Row
queue_rule_table q i z c = rule_table (queue_order q) q.commands i z c ++ semaphore_rows q i

-- the refusal of command number i by its least rule
unfoldable pub queue_rule_refusal_of : QueueCommands → ℕ → Status → Command → Option Refusal
queue_rule_refusal_of q i z c = least_broken i (queue_rule_table q i z c)

-- the first refusal of the commands that are left, from number i on, where this status stands
abbrev pub queue_rule_refusal_from : QueueCommands → ℕ → Status → List Command → Option Refusal
queue_rule_refusal_from q i z [] = refusal_at_end i z
queue_rule_refusal_from q i z (c ∷ cs) =
    or_after (queue_rule_refusal_of q i z c) (queue_rule_refusal_from q (i + 1) (after i c z) cs)

-- the refusal of the recording by all rules
unfoldable pub queue_rule_refusal : QueueCommands → Option Refusal
queue_rule_refusal q = queue_rule_refusal_from q 0 at_first q.commands
