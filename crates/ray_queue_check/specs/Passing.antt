-- What barriers are where their buffers are named by ids. (Own.)
use Rattle.std.specs.Prelude.{◌≡◌, ℕ, List, Option}
use Rattle.ray_chains.specs.declared.masks.MemoryBarrier.{MemoryBarrier}
use Rattle.ray_chains.specs.Queues.{Barrier}
use Rattle.ray_chains.specs.Tables.{scopes_of}
use Rattle.ray_queues.specs.Events.{event_at}
use Rattle.ray_rules.specs.Order.{acts_at, reaches}
use Rattle.ray_rules.specs.Status.{Status}
use Rattle.ray_submits.specs.Submits.{QueueCommands}

-- command number n is this barrier of a queue, limited to these buffers where they are named
pub record IsBarrierHere (q : QueueCommands) (n : ℕ) (z : Status) (queue : ℕ) (barrier : MemoryBarrier) (buffers : Option (List ℕ)) : Type 0 where
  pub event : event_at q n ≡ Barrier queue (scopes_of barrier) buffers
  pub acts : (thing : Option ℕ) → acts_at q.commands thing n ≡ reaches z buffers thing
