use Rattle.std.proofs.Common.{◌≡◌, List, Some, map, suc, take, ℕ}
use Rattle.ray_chains.specs.Keeping.{AreChains}
use Rattle.ray_chains.specs.Queues.{Barrier, Source, takes}
use Rattle.ray_chains.specs.Tables.{scopes_of}
use Rattle.ray_hazards.specs.Carrying.{Acting, AreActs, AreLimited, AreNamed, IsCarried}
use Rattle.ray_hazards.proofs.Carrying.{made_of}
use Rattle.ray_hazards.proofs.carried.Carried.limits.Given as goal

-- of the buffers so far
abbrev pub invariant-loop-maker : goal.invariant-loop-maker
invariant-loop-maker l = record {
  makers : map made_of l.limits.items ≡ take l.maker-index l.makers;
  limits :
      (a : Acting) (source : Source) (queue : ℕ) (ids : List ℕ) → AreActs a
      → a.events l.n ≡ Barrier queue (scopes_of l.barrier) (Some ids) → l.direct ≡ takes source queue (scopes_of l.barrier)
      → AreNamed a l.n l.makers → AreChains a.events queue l.n l.chains → IsCarried a source queue l.n l.self
      → AreLimited a source queue (suc l.n) l.limits.items;
}
