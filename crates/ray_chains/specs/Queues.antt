-- Several queues: what barriers, semaphores and waits of the host hand on, as steps over the stages and
-- accesses of queues and the signals of submissions. (Vulkan: execution and memory dependencies, queue
-- submission and timeline semaphores; own: the nodes, and barriers limited to buffers.)
use Rattle.std.specs.Prelude.{ℕ, zero, suc, Bool, true, false, ◌&&◌, ◌==◌, nat_le, List, [], ◌∷◌, ◌++◌, Option, Some, None, if◌then◌else◌}
use Rattle.std.specs.List.{list_any}
use Rattle.ray_chains.specs.declared.access_type.AccessType.{AccessType}
use Rattle.ray_chains.specs.declared.stage.Stage.{Stage}
use Rattle.ray_chains.specs.declared.stage.Stage.TheVariants.{Transfer, Build, StructureCopy, Compute, Host}
use Rattle.ray_chains.specs.Dependencies.{Step, reached}

-- what a dependency can reach: a stage of a queue, which orders; an access at a stage of a queue, to which
-- writes are made visible; and what a submission signals
pub data Node : Type 0 where
  At : (queue : ℕ) (stage : Stage) → Node
  Visible : (queue : ℕ) (stage : Stage) (access : AccessType) → Node
  Signalled : (submit : ℕ) → Node

-- what a barrier takes up and to what it hands on: its synchronization scopes, which are stages, and its
-- access scopes
pub record Scopes : Type 0 where
  pub src_stages : Stage → Bool
  pub src_access : AccessType → Bool
  pub dst_stages : Stage → Bool
  pub dst_access : AccessType → Bool

-- a timeline semaphore and a value of it
pub record TimelinePoint : Type 0 where
  pub semaphore : ℕ
  pub value : ℕ

-- what a command is to the order: a barrier of a queue, for everything or limited to some buffers; the
-- begin of a submission to a queue, which waits for semaphores; its end, which signals; a wait of the host
-- for all before it; or nothing to it
pub data Event : Type 0 where
  Barrier : (queue : ℕ) (scopes : Scopes) (buffers : Option (List ℕ)) → Event
  Begin : (queue : ℕ) (waits : List TimelinePoint) → Event
  Submit : (queue : ℕ) (signals : List TimelinePoint) → Event
  Wait : Event
  Other : Event

-- whose order is asked for: the commands of a queue at a stage, or, with an access, what these wrote by it
pub record Source : Type 0 where
  pub queue : ℕ
  pub stage : Stage
  pub access : Option AccessType

-- ---- sets

-- every stage
abbrev pub any_stage : Stage → Bool
any_stage stage = true

-- every access
abbrev pub any_access : AccessType → Bool
any_access access = true

-- whether a stage is one of the device
abbrev pub is_device : Stage → Bool
is_device Transfer = true
is_device Build = true
is_device StructureCopy = true
is_device Compute = true
is_device Host = false

-- whether sets of stages and accesses hold a stage, or an access at a stage
abbrev pub holds : (Stage → Bool) → (AccessType → Bool) → Stage → Option AccessType → Bool
holds stages accesses stage None = stages stage
holds stages accesses stage (Some access) = stages stage && accesses access

-- a list with one member more where a test holds
abbrev pub with_if : {X : Type 0} → Bool → X → List X → List X
with_if test x xs = if test then x ∷ xs else xs

-- these stages of a queue
abbrev pub nodes_at : ℕ → (Stage → Bool) → List Node
nodes_at queue stages =
    with_if (stages Transfer) (At queue Transfer)
    (with_if (stages Build) (At queue Build)
    (with_if (stages StructureCopy) (At queue StructureCopy)
    (with_if (stages Compute) (At queue Compute) (with_if (stages Host) (At queue Host) []))))

-- whether a node is one of these stages of a queue, or one of these accesses at one of them
abbrev pub is_among : ℕ → (Stage → Bool) → (AccessType → Bool) → Node → Bool
is_among queue stages accesses (At at stage) = (at == queue) && stages stage
is_among queue stages accesses (Visible at stage access) = (at == queue) && (stages stage && accesses access)
is_among queue stages accesses (Signalled submit) = false

-- whether a node is at the device, of any queue
abbrev pub is_on_device : Node → Bool
is_on_device (At queue stage) = is_device stage
is_on_device (Visible queue stage access) = is_device stage
is_on_device (Signalled submit) = false

-- whether a node is what the submission of number n signals
abbrev pub is_signal : ℕ → Node → Bool
is_signal n (Signalled submit) = submit == n
is_signal n _ = false

-- ---- semaphores

-- whether an event signals enough for a wait
abbrev pub signals_enough : TimelinePoint → Event → Bool
signals_enough wait (Submit queue signals) =
    list_any (λ (p : TimelinePoint). (p.semaphore == wait.semaphore) && nat_le wait.value p.value) signals
signals_enough wait _ = false

-- a number, or else n where it passes a test
abbrev pub or_here : Option ℕ → Bool → ℕ → Option ℕ
or_here (Some m) passes n = Some m
or_here None passes n = if passes then Some n else None

-- the first number below n that passes a test
abbrev pub first_below : (ℕ → Bool) → ℕ → Option ℕ
first_below test zero = None
first_below test (suc n) = or_here (first_below test n) (test n) n

-- what a submission signals, as nodes
abbrev pub signal_of : Option ℕ → List Node
signal_of None = []
signal_of (Some submit) = Signalled submit ∷ []

-- what meets a wait where number n stands: the first submission before it that signals enough. A wait for
-- 0 is met by nothing, since every semaphore begins there
abbrev pub meets : (ℕ → Event) → ℕ → TimelinePoint → List Node
meets events n wait =
    if wait.value == 0 then [] else signal_of (first_below (λ m. signals_enough wait (events m)) n)

-- what meets any of some waits
abbrev pub met_by : (ℕ → Event) → ℕ → List TimelinePoint → List Node
met_by events n [] = []
met_by events n (wait ∷ waits) = meets events n wait ++ met_by events n waits

-- ---- steps

-- whether a barrier whose source has these stages and accesses takes up directly what a source did, where
-- it is on the source's queue
abbrev pub takes_source : Source → (Stage → Bool) → (AccessType → Bool) → Bool
takes_source source stages accesses = holds stages accesses source.stage source.access

-- the same of a barrier of any queue
abbrev pub takes : Source → ℕ → Scopes → Bool
takes source queue scopes =
    (queue == source.queue) && takes_source source scopes.src_stages scopes.src_access

-- the step of an event, number n, for what a source did. A submission takes up all that its queue did and
-- what has reached any stage of it; the begin of one takes up what meets its waits, and hands it to all
-- accesses at the device; a wait of the host hands all on to every device, and adds nothing for the host
abbrev pub step_of : (ℕ → Event) → Source → ℕ → Event → Step Node
step_of events source n (Barrier queue scopes buffers) = record {
  takes_all = takes source queue scopes;
  from = nodes_at queue scopes.src_stages;
  to = is_among queue scopes.dst_stages scopes.dst_access;
}
step_of events source n (Begin queue waits) = record {
  takes_all = false;
  from = met_by events n waits;
  to = is_among queue is_device any_access;
}
step_of events source n (Submit queue signals) = record {
  takes_all = queue == source.queue;
  from = nodes_at queue any_stage;
  to = is_signal n;
}
step_of events source n Wait = record { takes_all = true; from = []; to = is_on_device }
step_of events source n Other = record { takes_all = false; from = []; to = λ v. false }

-- the step of each number
abbrev pub steps : (ℕ → Event) → Source → ℕ → Step Node
steps events source n = step_of events source n (events n)

-- ---- which steps act

-- what a barrier can act on by itself: a buffer, by its number, or the structures, which no barrier names
pub data Thing : Type 0 where
  Buffer : (id : ℕ) → Thing
  Structures : Thing

-- whether a barrier limited to some buffers, or to none, reaches a thing. Repeats don't matter
abbrev pub names : List ℕ → Thing → Bool
names buffers (Buffer id) = list_any (λ buffer. buffer == id) buffers
names buffers Structures = false

-- the same of any barrier
abbrev pub reaches : Option (List ℕ) → Thing → Bool
reaches None thing = true
reaches (Some buffers) thing = names buffers thing

-- whether an event acts on a thing
abbrev pub acts_on : Thing → Event → Bool
acts_on thing (Barrier queue scopes buffers) = reaches buffers thing
acts_on thing _ = true

-- whether a barrier isn't limited
abbrev pub reaches_all : Option (List ℕ) → Bool
reaches_all None = true
reaches_all (Some buffers) = false

-- whether an event acts on everything: a barrier that isn't limited, and what is no barrier
abbrev pub acts_on_all : Event → Bool
acts_on_all (Barrier queue scopes buffers) = reaches_all buffers
acts_on_all _ = true

-- the same of a number
abbrev pub everywhere : (ℕ → Event) → ℕ → Bool
everywhere events m = acts_on_all (events m)

-- ---- the order

-- whether what a source did as number i is ordered before what is done at a stage of a queue where number n
-- stands. The execution part of a barrier is never limited
abbrev pub is_ordered : (ℕ → Event) → Source → ℕ → ℕ → ℕ → Stage → Bool
is_ordered events source i n queue stage = reached (λ m. true) (steps events source) i n (At queue stage)

-- whether what a source wrote to a thing as number i is covered to an access at a stage of a queue where
-- number n stands
abbrev pub is_covered : (ℕ → Event) → Source → Thing → ℕ → ℕ → ℕ → Stage → AccessType → Bool
is_covered events source thing i n queue stage access =
    reached (λ m. acts_on thing (events m)) (steps events source) i n (Visible queue stage access)
