-- One queue, as what a check of hazards speaks of. (Own.)
use Rattle.std.specs.Prelude.{◌≡◌, ℕ, List, Option}
use Rattle.ray_chains.specs.declared.masks.MemoryBarrier.{MemoryBarrier}
use Rattle.ray_chains.specs.Queues.{Barrier}
use Rattle.ray_chains.specs.Tables.{scopes_of}
use Rattle.ray_cmd.specs.declared.command.Command.{Command}
use Rattle.ray_hazards.specs.Carrying.{Acting}
use Rattle.ray_hazards.specs.Counting.{Counted, all_counted}
use Rattle.ray_rules.specs.Order.{acts_at, barriers, reaches}
use Rattle.ray_rules.specs.Status.{Status}
use Rattle.ray_sync.specs.Events.{event_at}

-- its events, and on what each acts
abbrev pub one_queue : List Command → Acting
one_queue rec = record { events = event_at rec; acts = acts_at rec }

-- all its commands, by the order of barriers and waits
abbrev pub in_order : List Command → Counted
in_order rec = all_counted (barriers rec) rec

-- command number n is this barrier, limited to these buffers where they are named
pub record IsBarrierAt (rec : List Command) (n : ℕ) (z : Status) (barrier : MemoryBarrier) (buffers : Option (List ℕ)) : Type 0 where
  pub event : event_at rec n ≡ Barrier 0 (scopes_of barrier) buffers
  pub acts : (thing : Option ℕ) → acts_at rec thing n ≡ reaches z buffers thing
