-- What tables of fronts say. (Own.)
use Rattle.std.specs.Prelude.{◌≡◌, ◌<◌, ℕ, suc, Bool, true, false, ◌==◌, List, Option, Some, None}
use Rattle.ray_chains.specs.declared.access_type.AccessType.{AccessType}
use Rattle.ray_chains.specs.declared.chains.Chains.{Chains}
use Rattle.ray_chains.specs.declared.front.Front.{Front}
use Rattle.ray_chains.specs.declared.kept.Override.{Override}
use Rattle.ray_chains.specs.declared.stage.Stage.{Stage}
use Rattle.ray_chains.specs.declared.table.Table.{Table}
use Rattle.ray_chains.specs.Dependencies.{Step}
use Rattle.ray_chains.specs.Fronts.{front}
use Rattle.ray_chains.specs.Overriding.{chain_at}
use Rattle.ray_chains.specs.Queues.{Node, At, Visible, Scopes, Event, Barrier, Begin, Wait, Source, steps, everywhere}
use Rattle.ray_chains.specs.QueueLaws.{IsQuiet, IsQuietBelow, source_of}
use Rattle.ray_chains.specs.Tables.{front_at, table_at}

-- numbers are the fronts at the stages of a queue where number n stands
pub record IsFront (acts : ℕ → Bool) (steps : ℕ → Step Node) (queue n : ℕ) (numbers : Front) : Type 0 where
  pub at : (stage : Stage) → front acts steps n (At queue stage) ≡ front_at numbers stage

-- the node of a stage of a queue, or of an access at it
abbrev pub node_at : ℕ → Stage → Option AccessType → Node
node_at queue stage None = At queue stage
node_at queue stage (Some access) = Visible queue stage access

-- a table has the fronts of a queue where number n stands
pub record IsTable (acts : ℕ → Bool) (steps : ℕ → Step Node) (queue n : ℕ) (table : Table) : Type 0 where
  pub fronts :
      (stage : Stage) (access : Option AccessType)
      → front acts steps n (node_at queue stage access) ≡ front_at (table_at table access) stage

-- it has those of everything
abbrev pub IsAll : (ℕ → Event) → Source → ℕ → ℕ → Table → Type 0
IsAll events source queue n table = IsTable (everywhere events) (steps events source) queue n table

-- whether an event hands anything to a queue
abbrev pub hands_to : ℕ → Event → Bool
hands_to queue (Barrier at scopes buffers) = at == queue
hands_to queue (Begin at waits) = at == queue
hands_to queue Wait = true
hands_to queue _ = false

-- after one number and before another no event that acts on everything hands anything to a queue
abbrev pub IsCalm : (ℕ → Event) → ℕ → ℕ → ℕ → Type 0
IsCalm events queue last n =
    (m : ℕ) → last < m → m < n → hands_to queue (events m) ≡ true → everywhere events m ≡ false

-- the chains from each stage of a queue where number n stands, and the last number that led any on
pub record AreChains (events : ℕ → Event) (queue n : ℕ) (chains : Chains) : Type 0 where
  pub from : (stage : Stage) → IsAll events (source_of queue stage None) queue n (chain_at chains stage)
  pub calm : IsCalm events queue chains.last n

-- an override is of the last barrier of a queue, before number n, that is limited to a thing: it has the
-- thing's fronts just after it
pub record IsOverride (acts : ℕ → Bool) (events : ℕ → Event) (source : Source) (queue n : ℕ) (over : Override) : Type 0 where
  pub below : over.barrier < n
  pub table : IsTable acts (steps events source) queue (suc over.barrier) over.table
  pub quiet : IsQuiet events acts queue over.barrier n

-- what is kept of a thing where number n stands: nothing where no barrier was limited to it
abbrev pub IsKept : (ℕ → Bool) → (ℕ → Event) → Source → ℕ → ℕ → Option Override → Type 0
IsKept acts events source queue n None = IsQuietBelow events acts queue n
IsKept acts events source queue n (Some over) = IsOverride acts events source queue n over

-- ---- what stays as it is

-- fronts at a queue, where an event hands it nothing or doesn't act
abbrev pub TablesStay : Type 0
TablesStay =
    (acts : ℕ → Bool) (events : ℕ → Event) (source : Source) (queue n : ℕ) (table : Table)
    → (hands_to queue (events n) ≡ true → acts n ≡ false)
    → IsTable acts (steps events source) queue n table
    → IsTable acts (steps events source) queue (suc n) table

-- chains, where an event hands the queue nothing or is a barrier that is limited
abbrev pub ChainsStay : Type 0
ChainsStay =
    (events : ℕ → Event) (queue n : ℕ) (chains : Chains)
    → (hands_to queue (events n) ≡ true → everywhere events n ≡ false)
    → AreChains events queue n chains
    → AreChains events queue (suc n) chains

-- what is kept of a thing, where an event is no barrier of the queue that is limited to it
abbrev pub KeptStays : Type 0
KeptStays =
    (acts : ℕ → Bool) (events : ℕ → Event) (source : Source) (queue n : ℕ) (kept : Option Override)
    → ((scopes : Scopes) (buffers : Option (List ℕ)) → events n ≡ Barrier queue scopes buffers
    → acts n ≡ everywhere events n)
    → IsKept acts events source queue n kept
    → IsKept acts events source queue (suc n) kept

-- and nothing is kept at first
abbrev pub NothingIsKept : Type 0
NothingIsKept =
    (acts : ℕ → Bool) (events : ℕ → Event) (source : Source) (queue : ℕ)
    → IsKept acts events source queue 0 None
