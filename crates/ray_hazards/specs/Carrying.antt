-- How coverage is kept: of what the commands of one queue and stage wrote with one access, the fronts of
-- everything at a queue, and of each buffer that a barrier of it was limited to those just after the last
-- such barrier. (Own.)
use Rattle.std.specs.Prelude.{◌≡◌, ℕ, Bool, ◌&&◌, true, List, [], ◌∷◌, Option, Some, None, All, if◌then◌else◌}
use Rattle.std.specs.BTreeMap.{get, is_at}
use Rattle.std.specs.List.{flat_map, list_any}
use Rattle.std.specs.Option.{option_to_list}
use Rattle.std.specs.Ordering.{nat_cmp}
use Rattle.ray_chains.specs.declared.access_type.AccessType.{AccessType}
use Rattle.ray_chains.specs.declared.access_type.AccessType.TheVariants.{TransferWrite, StructureWrite, ShaderWrite}
use Rattle.ray_chains.specs.declared.kept.Override.{Override}
use Rattle.ray_chains.specs.declared.masks.MemoryBarrier.{MemoryBarrier}
use Rattle.ray_chains.specs.declared.stage.Stage.{Stage}
use Rattle.ray_chains.specs.declared.stage.Stage.TheVariants.{Transfer, Build, StructureCopy, Compute}
use Rattle.ray_chains.specs.Fronts.{front, greatest_of}
use Rattle.ray_chains.specs.Keeping.{AreChains, IsAll, IsKept}
use Rattle.ray_chains.specs.QueueLaws.{ActsOver, source_of}
use Rattle.ray_chains.specs.Queues.{Event, Source, TimelinePoint, Visible, acts_on_all, everywhere, met_by, steps}
use Rattle.ray_chains.specs.Tables.{has_access, has_stage}
use Rattle.ray_rules.specs.Makers.{maker_of_buffer}
use Rattle.ray_rules.specs.Status.{Status}
use Rattle.ray_hazards.specs.declared.carried.Carried.{Carried}
use Rattle.ray_hazards.specs.declared.carried.Limited.{Limited}
use Rattle.ray_hazards.specs.declared.coverage.Coverage.{Coverage}
use Rattle.ray_hazards.specs.declared.limits.PerWay.{PerWay}

-- the events of a recording, and on which of its things each acts: a thing is a buffer, by the command that
-- made it, or the structures, which are none
pub record Acting : Type 0 where
  pub events : ℕ → Event
  pub acts : Option ℕ → ℕ → Bool

-- what acts on everything acts on each thing, and nothing else acts on structures
pub record AreActs (z : Acting) : Type 0 where
  pub over : (thing : Option ℕ) → ActsOver z.events (z.acts thing)
  pub structures : (m : ℕ) → z.acts None m ≡ acts_on_all (z.events m)

-- what is kept of the buffer that a command made
abbrev pub kept_of : Carried → ℕ → Option Override
kept_of z made = get nat_cmp z.overrides made

-- and of a thing: nothing of structures, which no barrier names
abbrev pub kept_at : Carried → Option ℕ → Option Override
kept_at z None = None
kept_at z (Some made) = kept_of z made

-- where command number n stands, it says how far each write of a source has been handed on to a queue
pub record IsCarried (a : Acting) (source : Source) (queue n : ℕ) (z : Carried) : Type 0 where
  pub all : IsAll a.events source queue n z.all
  pub kept : (made : ℕ) → IsKept (a.acts (Some made)) a.events source queue n (kept_of z made)

-- that of all ways of writing on a queue at that queue, and its chains
pub record AreCarried (a : Acting) (queue n : ℕ) (z : Coverage) : Type 0 where
  pub chains : AreChains a.events queue n z.chains
  pub transfers : IsCarried a (source_of queue Transfer (Some TransferWrite)) queue n z.transfers
  pub builds : IsCarried a (source_of queue Build (Some StructureWrite)) queue n z.builds
  pub properties : IsCarried a (source_of queue Build (Some TransferWrite)) queue n z.properties
  pub copies : IsCarried a (source_of queue StructureCopy (Some StructureWrite)) queue n z.copies
  pub serialized : IsCarried a (source_of queue StructureCopy (Some TransferWrite)) queue n z.serialized
  pub traces : IsCarried a (source_of queue Compute (Some ShaderWrite)) queue n z.traces

-- these are the makers of the buffers that command number n, a barrier, names
pub record AreNamed (a : Acting) (n : ℕ) (makers : List ℕ) : Type 0 where
  pub each : All (λ made. a.acts (Some made) n ≡ true) makers
  pub only : (made : ℕ) → a.acts (Some made) n ≡ true → list_any (λ m. is_at (nat_cmp m) made) makers ≡ true

-- the makers of the live buffers that have these ids where a status stands
abbrev pub makers_of : Status → List ℕ → List ℕ
makers_of z ids = flat_map (λ id. option_to_list (maker_of_buffer z id)) ids

-- what is kept anew is that of buffers after command number n
abbrev pub AreLimited : Acting → Source → ℕ → ℕ → List Limited → Type 0
AreLimited a source queue n limits =
    All (λ (l : Limited). IsKept (a.acts (Some l.made)) a.events source queue n (Some l.over)) limits

-- what is kept of each buffer once these are put in their places
abbrev pub put_all : List Limited → (ℕ → Option Override) → ℕ → Option Override
put_all [] kept made = kept made
put_all (l ∷ limits) kept made =
    put_all limits (λ m. if is_at (nat_cmp l.made) m then Some l.over else kept m) made

-- whether a barrier takes up directly what commands of its queue wrote at a stage with an access
abbrev pub takes_directly : MemoryBarrier → Stage → AccessType → Bool
takes_directly barrier stage access = has_stage barrier.src_stages stage && has_access barrier.src_access access

-- below which number what a source wrote to a thing is covered to an access at a stage of a queue where
-- command number n stands
abbrev pub front_to : Acting → Source → Option ℕ → ℕ → ℕ → Stage → AccessType → ℕ
front_to a source thing n queue to x = front (a.acts thing) (steps a.events source) n (Visible queue to x)

-- these are the numbers of each way of writing, by its stage and access
pub record AreWays (number : Stage → AccessType → ℕ) (limits : PerWay) : Type 0 where
  pub transfers : number Transfer TransferWrite ≡ limits.transfers
  pub builds : number Build StructureWrite ≡ limits.builds
  pub properties : number Build TransferWrite ≡ limits.properties
  pub copies : number StructureCopy StructureWrite ≡ limits.copies
  pub serialized : number StructureCopy TransferWrite ≡ limits.serialized
  pub traces : number Compute ShaderWrite ≡ limits.traces

-- below these numbers what a queue wrote is covered to an access at a stage of a queue where command number
-- n stands
abbrev pub AreReached : Acting → ℕ → Option ℕ → ℕ → ℕ → Stage → AccessType → PerWay → Type 0
AreReached a from thing n queue to x limits =
    AreWays (λ stage access. front_to a (source_of from stage (Some access)) thing n queue to x) limits

-- below this number what a queue did is carried by what meets some waits where command number n stands,
-- whatever the stage and the access
abbrev pub IsMet : Acting → ℕ → ℕ → List TimelinePoint → ℕ → Type 0
IsMet a from n waits number =
    (stage : Stage) (access : Option AccessType)
    → number
    ≡ greatest_of (front (everywhere a.events) (steps a.events (source_of from stage access)) n)
    (met_by a.events n waits)
