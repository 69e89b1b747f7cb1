-- What is known where a command stands, while hazards are looked for over queues. (Own.)
use Rattle.std.specs.Prelude.{◌≡◌, ℕ, List}
use Rattle.ray_queues.specs.Keeping.{IsKeeping}
use Rattle.ray_submits.specs.Submits.{HaveQueues, QueueCommands, queue_of}
use Rattle.ray_queue_check.specs.declared.kept.Kept.{Kept}
use Rattle.ray_queue_check.specs.Arriving.{AreArriving}
use Rattle.ray_queue_check.specs.Lanes.{AreUsed}

-- what is kept of all commands below number n
pub record IsKept (q : QueueCommands) (starts : List ℕ) (n : ℕ) (z : Kept) : Type 0 where
  pub lanes : AreUsed q starts n z.lanes
  pub everywhere : AreArriving q n z.everywhere
  pub keeping : IsKeeping q n z.keeping

-- command number n is of this queue, which is one of the four
pub record IsOf (q : QueueCommands) (n queue : ℕ) : Type 0 where
  pub have : HaveQueues q.submits
  pub is : queue ≡ queue_of q n
