-- The shape of an entry of `submits`: to which queue a `submit` goes, what it waits for and what it
-- signals. (Vulkan: VkSubmitInfo2 and VkSemaphoreSubmitInfo; own: the spelling, four queues, 64
-- semaphores, and at most 64 waits and 64 signals.)
use Rattle.std.specs.Prelude.{ℕ, List, [], ◌∷◌, Option, Some, None, codes, length, nat_le, nat_lt, if◌then◌else◌}
use Rattle.serde_json.specs.Data.{Data}
use Rattle.ray_json.specs.Fields.{◌>>=◌, at, list_of, only, u32_of, u64_of}
use Rattle.ray_submits.specs.declared.point.SemaphorePoint.{SemaphorePoint}
use Rattle.ray_submits.specs.declared.submission.Submission.{Submission}

-- a queue: a number from 0 to 3
abbrev pub queue_of : Data → Option ℕ
queue_of d = u32_of d >>= λ n. if nat_lt n 4 then Some n else None

-- two numbers, the first from 0 to 63: a semaphore and a value of it
abbrev pub point_in : List ℕ → Option SemaphorePoint
point_in (semaphore ∷ value ∷ []) =
    if nat_lt semaphore 64 then Some (record { semaphore = semaphore; value = value }) else None
point_in _ = None

-- a wait or a signal: a list of these two
abbrev pub point_of : Data → Option SemaphorePoint
point_of d = list_of u64_of d >>= point_in

-- a list of at most 64 of them
abbrev pub points_of : Data → Option (List SemaphorePoint)
points_of d = list_of point_of d >>= λ points. if nat_le (length points) 64 then Some points else None

-- an entry
unfoldable pub submission_of : Data → Option Submission
submission_of d =
    only (codes "queue" ∷ codes "waits" ∷ codes "signals" ∷ []) d >>= λ u.
    at queue_of (codes "queue") d >>= λ queue.
    at points_of (codes "waits") d >>= λ waits.
    at points_of (codes "signals") d >>= λ signals.
    Some (record { queue = queue; waits = waits; signals = signals })
