-- What the laws of several queues say. (Own.)
use Rattle.std.specs.Prelude.{◌≡◌, ◌<◌, ◌≤◌, ℕ, suc, Bool, true, false, ◌==◌, Option, Some, None, List, if◌then◌else◌}
use Rattle.ray_chains.specs.declared.access_type.AccessType.{AccessType}
use Rattle.ray_chains.specs.declared.stage.Stage.{Stage}
use Rattle.ray_chains.specs.declared.stage.Stage.TheVariants.{Transfer}
use Rattle.ray_chains.specs.Fronts.{front}
use Rattle.ray_chains.specs.Overrides.{front_since}
use Rattle.ray_chains.specs.Queues.{Node, Thing, At, Signalled, Scopes, TimelinePoint, Event, Barrier, Submit, Wait, Source, any_stage, any_access, is_device, nodes_at, is_among, steps, acts_on_all, everywhere, is_ordered, is_covered}

-- what was done on a queue at a stage, or written there with an access
abbrev pub source_of : ℕ → Stage → Option AccessType → Source
source_of queue stage access = record { queue = queue; stage = stage; access = access }

-- a node is one of a queue
abbrev pub IsOfQueue : ℕ → Node → Type 0
IsOfQueue queue v = is_among queue any_stage any_access v ≡ true

-- what acts on everything acts on a thing
abbrev pub ActsOver : (ℕ → Event) → (ℕ → Bool) → Type 0
ActsOver events acts = (m : ℕ) → acts_on_all (events m) ≡ true → acts m ≡ true

-- between numbers t and n the barriers of a queue act on a thing exactly where they act on everything: none is
-- limited to it
abbrev pub IsQuiet : (ℕ → Event) → (ℕ → Bool) → ℕ → ℕ → ℕ → Type 0
IsQuiet events acts queue t n =
    (m : ℕ) (scopes : Scopes) (buffers : Option (List ℕ)) → t < m → m < n
    → events m ≡ Barrier queue scopes buffers → acts m ≡ acts_on_all (events m)

-- and below number n
abbrev pub IsQuietBelow : (ℕ → Event) → (ℕ → Bool) → ℕ → ℕ → Type 0
IsQuietBelow events acts queue n =
    (m : ℕ) (scopes : Scopes) (buffers : Option (List ℕ)) → m < n
    → events m ≡ Barrier queue scopes buffers → acts m ≡ acts_on_all (events m)

-- whether an event takes up what was done at a node, where the node is a stage of a queue: so a chain that
-- begins at a stage is what has become of the commands of this stage
abbrev pub holds_node : (ℕ → Event) → Node → ℕ → Bool
holds_node events (At queue stage) m = (steps events (source_of queue stage None) m).takes_all
holds_node events _ m = false

-- ---- barriers limited to buffers

-- a thing's fronts at a queue follow from those just after the last barrier of this queue that was limited
-- to it
abbrev pub ThingsSince : Type 0
ThingsSince =
    (acts : ℕ → Bool) (events : ℕ → Event) (source : Source) (queue t n : ℕ) (v : Node)
    → ActsOver events acts → IsOfQueue queue v → t < n → IsQuiet events acts queue t n
    → front acts (steps events source) n v
    ≡ front_since (everywhere events) (steps events source) (holds_node events) (nodes_at queue any_stage) t
    (front acts (steps events source) (suc t)) n v

-- where there was none they are those of everything
abbrev pub ThingsAlike : Type 0
ThingsAlike =
    (acts : ℕ → Bool) (events : ℕ → Event) (source : Source) (queue n : ℕ) (v : Node)
    → ActsOver events acts → IsOfQueue queue v → IsQuietBelow events acts queue n
    → front acts (steps events source) n v ≡ front (everywhere events) (steps events source) n v

-- what is covered to an access at a stage is ordered before what is done at the stage
abbrev pub CoveredIsOrdered : Type 0
CoveredIsOrdered =
    (events : ℕ → Event) (queue : ℕ) (stage : Stage) (access : AccessType) (thing : Thing) (i n to_queue : ℕ)
    (to : Stage) (x : AccessType)
    → is_covered events (source_of queue stage (Some access)) thing i n to_queue to x ≡ true
    → is_ordered events (source_of queue stage None) i n to_queue to ≡ true

-- a wait of the host orders all before it before all that a device does after it
abbrev pub WaitsOrder : Type 0
WaitsOrder =
    (events : ℕ → Event) (source : Source) (i w n queue : ℕ) (to : Stage)
    → events w ≡ Wait → i < w → w < n → is_device to ≡ true → is_ordered events source i n queue to ≡ true

-- ---- between queues

-- at the device of another queue one front says all, whatever the stages, the accesses and the thing: no
-- node of that queue has a greater one
abbrev pub CrossesAlike : Type 0
CrossesAlike =
    (events : ℕ → Event) (from_queue queue n : ℕ) (a b : Stage) (x y : Option AccessType)
    (acts more : ℕ → Bool) (w v : Node)
    → ActsOver events more → (queue == from_queue) ≡ false → IsOfQueue queue w
    → is_among queue is_device any_access v ≡ true
    → front acts (steps events (source_of from_queue a x)) n w
    ≤ front more (steps events (source_of from_queue b y)) n v

-- at each node of another queue, also of the host, the stage and access of what was done don't matter
abbrev pub FarAlike : Type 0
FarAlike =
    (events : ℕ → Event) (from_queue queue n : ℕ) (a b : Stage) (x y : Option AccessType)
    (acts : ℕ → Bool) (w : Node)
    → (queue == from_queue) ≡ false → IsOfQueue queue w
    → front acts (steps events (source_of from_queue a x)) n w
    ≡ front acts (steps events (source_of from_queue b y)) n w

-- nor do they at a signal
abbrev pub SentAlike : Type 0
SentAlike =
    (events : ℕ → Event) (from_queue submit n : ℕ) (a b : Stage) (x y : Option AccessType)
    (acts : ℕ → Bool)
    → front acts (steps events (source_of from_queue a x)) n (Signalled submit)
    ≡ front acts (steps events (source_of from_queue b y)) n (Signalled submit)

-- and at a signal the thing doesn't
abbrev pub SignalsAlike : Type 0
SignalsAlike =
    (acts : ℕ → Bool) (events : ℕ → Event) (source : Source) (n submit : ℕ)
    → ActsOver events acts
    → front acts (steps events source) n (Signalled submit)
    ≡ front (everywhere events) (steps events source) n (Signalled submit)

-- a signal carries all that its own queue did before it, and of another queue what has reached the device
-- of its own where it stands
abbrev pub SignalsCarry : Type 0
SignalsCarry =
    (acts : ℕ → Bool) (events : ℕ → Event) (source : Source) (queue submit n : ℕ) (signals : List TimelinePoint)
    → ActsOver events acts → events submit ≡ Submit queue signals → submit < n
    → front acts (steps events source) n (Signalled submit)
    ≡ (if queue == source.queue then submit else front acts (steps events source) submit (At queue Transfer))
