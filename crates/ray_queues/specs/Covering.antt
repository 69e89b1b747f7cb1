-- That what is covered over queues is ordered, and that a wait of the host orders. (Vulkan: a memory
-- dependency is an execution dependency too; vkDeviceWaitIdle.)
use Rattle.std.specs.Prelude.{◌≡◌, ◌<◌, ℕ, true, Option, slice_get}
use Rattle.ray_rules.specs.declared.access_type.AccessType.{AccessType}
use Rattle.ray_rules.specs.declared.stage.Stage.{Stage}
use Rattle.ray_rules.specs.Order.{is_device, is_wait}
use Rattle.ray_submits.specs.Submits.{QueueCommands}
use Rattle.ray_queues.specs.QueueOrder.{queue_order}

-- what a command wrote is covered to an access at a stage of the device only where the command is
-- ordered before what is done at that stage
abbrev pub QueueCoveredIsOrdered : Type 0
QueueCoveredIsOrdered =
    (q : QueueCommands) (i : ℕ) (stage : Stage) (access : AccessType) (thing : Option ℕ) (j : ℕ) (to : Stage)
    (x : AccessType) → is_device to ≡ true
    → (queue_order q).covered i stage access thing j to x ≡ true → (queue_order q).ordered i stage j to ≡ true

-- a wait of the host between two commands orders the first before what the device does as the second
abbrev pub QueueWaitsOrder : Type 0
QueueWaitsOrder =
    (q : QueueCommands) (i w j : ℕ) (stage to : Stage) → is_wait (slice_get q.commands w) ≡ true → i < w → w < j
    → is_device to ≡ true → (queue_order q).ordered i stage j to ≡ true
