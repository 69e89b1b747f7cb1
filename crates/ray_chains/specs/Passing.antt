-- What calls promise of what is kept from one event to the next. (Own.)
use Rattle.std.specs.Prelude.{◌≡◌, ℕ, suc, Bool, true, is_some, nat_lt, List, Option, Some}
use Rattle.ray_chains.specs.declared.access_type.AccessType.{AccessType}
use Rattle.ray_chains.specs.declared.chains.Chains.{Chains}
use Rattle.ray_chains.specs.declared.front.Front.{Front}
use Rattle.ray_chains.specs.declared.kept.Override.{Override}
use Rattle.ray_chains.specs.declared.masks.MemoryBarrier.{MemoryBarrier}
use Rattle.ray_chains.specs.declared.stage.Stage.{Stage}
use Rattle.ray_chains.specs.declared.table.Table.{Table}
use Rattle.ray_chains.specs.Dependencies.{Step, reached}
use Rattle.ray_chains.specs.Fronts.{front, greatest_of}
use Rattle.ray_chains.specs.Keeping.{AreChains, IsAll, IsFront, IsKept, IsTable}
use Rattle.ray_chains.specs.Queues.{Node, At, Visible, Event, Barrier, Begin, Wait, Source, TimelinePoint, everywhere, met_by, steps, takes}
use Rattle.ray_chains.specs.QueueLaws.{ActsOver, source_of}
use Rattle.ray_chains.specs.Tables.{scopes_of}

-- ---- where nothing has been done yet

-- numbers are the fronts at the stages of a queue
abbrev pub FrontBegins : Front → Type 0
FrontBegins numbers = (acts : ℕ → Bool) (steps : ℕ → Step Node) (queue : ℕ) → IsFront acts steps queue 0 numbers

-- a table has all fronts at a queue
abbrev pub TableBegins : Table → Type 0
TableBegins table = (acts : ℕ → Bool) (steps : ℕ → Step Node) (queue : ℕ) → IsTable acts steps queue 0 table

-- chains are those of a queue
abbrev pub ChainsBegin : Chains → Type 0
ChainsBegin chains = (events : ℕ → Event) (queue : ℕ) → AreChains events queue 0 chains

-- ---- past a barrier of the queue, event number n. `direct` says that it takes up directly what the source
-- did

-- fronts at stages, where it acts
abbrev pub FrontPassesBarrier : Bool → ℕ → MemoryBarrier → Front → Front → Type 0
FrontPassesBarrier direct n barrier before after =
    (acts : ℕ → Bool) (events : ℕ → Event) (source : Source) (queue : ℕ) (buffers : Option (List ℕ))
    → events n ≡ Barrier queue (scopes_of barrier) buffers → acts n ≡ true
    → direct ≡ takes source queue (scopes_of barrier)
    → IsFront acts (steps events source) queue n before
    → IsFront acts (steps events source) queue (suc n) after

-- and all fronts
abbrev pub TablePassesBarrier : Bool → ℕ → MemoryBarrier → Table → Table → Type 0
TablePassesBarrier direct n barrier before after =
    (acts : ℕ → Bool) (events : ℕ → Event) (source : Source) (queue : ℕ) (buffers : Option (List ℕ))
    → events n ≡ Barrier queue (scopes_of barrier) buffers → acts n ≡ true
    → direct ≡ takes source queue (scopes_of barrier)
    → IsTable acts (steps events source) queue n before
    → IsTable acts (steps events source) queue (suc n) after

-- those of everything, where it may be limited to buffers
abbrev pub AllPassesBarrier : Bool → Bool → ℕ → MemoryBarrier → Table → Table → Type 0
AllPassesBarrier limited direct n barrier before after =
    (events : ℕ → Event) (source : Source) (queue : ℕ) (buffers : Option (List ℕ))
    → events n ≡ Barrier queue (scopes_of barrier) buffers → limited ≡ is_some buffers
    → direct ≡ takes source queue (scopes_of barrier)
    → IsAll events source queue n before
    → IsAll events source queue (suc n) after

-- and the chains of the queue
abbrev pub ChainsPassBarrier : Bool → ℕ → MemoryBarrier → Chains → Chains → Type 0
ChainsPassBarrier limited n barrier before after =
    (events : ℕ → Event) (queue : ℕ) (buffers : Option (List ℕ))
    → events n ≡ Barrier queue (scopes_of barrier) buffers → limited ≡ is_some buffers
    → AreChains events queue n before
    → AreChains events queue (suc n) after

-- what is kept of a thing on which it acts alone, by the fronts of everything and the chains of the queue
abbrev pub KeptPassesBarrier : Table → Option Override → Chains → Bool → ℕ → MemoryBarrier → Override → Type 0
KeptPassesBarrier all kept chains direct n barrier after =
    (acts : ℕ → Bool) (events : ℕ → Event) (source : Source) (queue : ℕ) (buffers : Option (List ℕ))
    → ActsOver events acts → IsAll events source queue n all → IsKept acts events source queue n kept
    → AreChains events queue n chains
    → events n ≡ Barrier queue (scopes_of barrier) buffers → acts n ≡ true
    → direct ≡ takes source queue (scopes_of barrier)
    → IsKept acts events source queue (suc n) (Some after)

-- ---- past a wait of the host

-- fronts at stages
abbrev pub FrontPassesWait : ℕ → Front → Front → Type 0
FrontPassesWait n before after =
    (acts : ℕ → Bool) (events : ℕ → Event) (source : Source) (queue : ℕ)
    → events n ≡ Wait → acts n ≡ true
    → IsFront acts (steps events source) queue n before
    → IsFront acts (steps events source) queue (suc n) after

-- all fronts
abbrev pub TablePassesWait : ℕ → Table → Table → Type 0
TablePassesWait n before after =
    (acts : ℕ → Bool) (events : ℕ → Event) (source : Source) (queue : ℕ)
    → events n ≡ Wait → acts n ≡ true
    → IsTable acts (steps events source) queue n before
    → IsTable acts (steps events source) queue (suc n) after

-- chains
abbrev pub ChainsPassWait : ℕ → Chains → Chains → Type 0
ChainsPassWait n before after =
    (events : ℕ → Event) (queue : ℕ)
    → events n ≡ Wait → AreChains events queue n before → AreChains events queue (suc n) after

-- ---- past the begin of a submission to the queue. The number is the greatest front at the signals that meet
-- its waits

-- fronts at stages
abbrev pub FrontPassesBegin : ℕ → Front → Front → Type 0
FrontPassesBegin number before after =
    (acts : ℕ → Bool) (events : ℕ → Event) (source : Source) (queue n : ℕ) (waits : List TimelinePoint)
    → events n ≡ Begin queue waits → acts n ≡ true
    → number ≡ greatest_of (front acts (steps events source) n) (met_by events n waits)
    → IsFront acts (steps events source) queue n before
    → IsFront acts (steps events source) queue (suc n) after

-- all fronts
abbrev pub TablePassesBegin : ℕ → Table → Table → Type 0
TablePassesBegin number before after =
    (acts : ℕ → Bool) (events : ℕ → Event) (source : Source) (queue n : ℕ) (waits : List TimelinePoint)
    → events n ≡ Begin queue waits → acts n ≡ true
    → number ≡ greatest_of (front acts (steps events source) n) (met_by events n waits)
    → IsTable acts (steps events source) queue n before
    → IsTable acts (steps events source) queue (suc n) after

-- of the chains of a queue the number is one for all its stages and accesses
abbrev pub ChainsPassBegin : ℕ → ℕ → Chains → Chains → Type 0
ChainsPassBegin n number before after =
    (events : ℕ → Event) (queue : ℕ) (waits : List TimelinePoint) (stage : Stage) (access : Option AccessType)
    → events n ≡ Begin queue waits
    → number
    ≡ greatest_of (front (everywhere events) (steps events (source_of queue stage access)) n)
    (met_by events n waits)
    → AreChains events queue n before
    → AreChains events queue (suc n) after

-- ---- questions

-- below a number what was done has reached a stage of a queue
abbrev pub TellsFront : Front → Stage → ℕ → Type 0
TellsFront numbers stage number =
    (acts : ℕ → Bool) (steps : ℕ → Step Node) (queue n i : ℕ)
    → IsFront acts steps queue n numbers
    → reached acts steps i n (At queue stage) ≡ nat_lt i number

-- and an access at a stage
abbrev pub TellsTable : Table → Stage → AccessType → ℕ → Type 0
TellsTable table stage access number =
    (acts : ℕ → Bool) (steps : ℕ → Step Node) (queue n i : ℕ)
    → IsTable acts steps queue n table
    → reached acts steps i n (Visible queue stage access) ≡ nat_lt i number

-- below a number what a source wrote to a thing is covered to an access at a stage, by the fronts of
-- everything, what is kept of the thing, and the chains of the queue
abbrev pub IsLimit : Table → Option Override → Chains → Stage → AccessType → ℕ → Type 0
IsLimit all kept chains stage access number =
    (acts : ℕ → Bool) (events : ℕ → Event) (source : Source) (queue n : ℕ)
    → ActsOver events acts → IsAll events source queue n all → IsKept acts events source queue n kept
    → AreChains events queue n chains
    → front acts (steps events source) n (Visible queue stage access) ≡ number

-- the same of a command by its number
abbrev pub TellsCovered : Table → Option Override → Chains → Stage → AccessType → ℕ → Type 0
TellsCovered all kept chains stage access number =
    (acts : ℕ → Bool) (events : ℕ → Event) (source : Source) (queue n i : ℕ)
    → ActsOver events acts → IsAll events source queue n all → IsKept acts events source queue n kept
    → AreChains events queue n chains
    → reached acts (steps events source) i n (Visible queue stage access) ≡ nat_lt i number
