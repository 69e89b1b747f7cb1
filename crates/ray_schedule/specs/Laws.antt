-- What the laws of schedules say of the work of a device.
use Rattle.std.specs.Prelude.{◌≡◌, ◌<◌, ◌≤◌, ℕ, ◌+◌, Bool, true, false, List, take, Some, ◌↔◌}
use Rattle.ray_schedule.specs.Units.{Memory, Work, put, memory_before, outcome_at, is_faulty}
use Rattle.ray_schedule.specs.Events.{Event, Fetches, Stores, Moment, beginning, run}
use Rattle.ray_schedule.specs.Schedules.{StandsAt, IsPermitted}
use Rattle.ray_schedule.specs.Conflicts.{Conflict, AreOrdered}
use Rattle.ray_schedule.specs.Waves.{Wave, IsAmong, AreDistinct, events_of, AreWaves, RisesAlong, recording_order}
use Rattle.ray_schedule.specs.Faults.{IsFirstFault, is_found_faulty}
use Rattle.ray_schedule.specs.Progress.{AreRising, IsNewBound, IsAfterWave, IsDoneTo, put_each}

module _ {Location : Type 0} {Held : Location → Type 0} {Outcome : Type 0} (work : Work Held Outcome) where
  -- a schedule that is permitted
  abbrev pub MayRun : List Event → Type 0
  MayRun es = IsPermitted work.device work.before work.count es

  -- the moment after a list of events, from the beginning on
  abbrev pub after : List Event → Moment Held Outcome
  after es = run work.device es (beginning work.device work.start)

  -- in recording order: the memory before a unit, its outcome, and whether it is faulty
  abbrev pub before_unit : ℕ → Memory Held
  before_unit p = memory_before work.device work.start p

  abbrev pub outcome_of : ℕ → Outcome
  outcome_of p = outcome_at work.device work.start p

  abbrev pub is_at_fault : ℕ → Bool
  is_at_fault p = is_faulty work.device work.start p

  -- ---- every permitted schedule

  -- each unit has the outcome of recording order
  abbrev pub OutcomesAreSame : Type 0
  OutcomesAreSame =
      (es : List Event) → MayRun es → (p : ℕ) → p < work.count → (after es).kept p ≡ Some (outcome_of p)

  -- the memory at the end is that of recording order
  abbrev pub MemoryIsSame : Type 0
  MemoryIsSame =
      (es : List Event) → MayRun es → (l : Location) → (after es).memory l ≡ before_unit work.count l

  -- each fetch reads what it reads in recording order
  abbrev pub FetchesReadTheSame : Type 0
  FetchesReadTheSame =
      (es : List Event) → MayRun es → (i p : ℕ) (e : Event) (l : Location) → StandsAt es i e
      → Fetches e p → work.device.reads p l ≡ true
      → (after (take i es)).memory l ≡ before_unit p l

  -- and each store finds what its unit read, but for what it writes
  abbrev pub StoresFindTheSame : Type 0
  StoresFindTheSame =
      (es : List Event) → MayRun es → (i p : ℕ) (e : Event) (l : Location) → StandsAt es i e
      → Stores e p → work.device.reads p l ≡ true → work.device.writes p l ≡ false
      → (after (take i es)).memory l ≡ before_unit p l

  -- the first fault is that of recording order, and no other
  abbrev pub FirstFaultIsSame : Type 0
  FirstFaultIsSame =
      (es : List Event) → MayRun es → (b : ℕ)
      → IsFirstFault (is_found_faulty work.device (after es)) work.count b
      ↔ IsFirstFault is_at_fault work.count b

  -- the law of schedules
  pub record EverySchedule : Type 0 where
    pub outcomes : OutcomesAreSame
    pub memory : MemoryIsSame
    pub fetches : FetchesReadTheSame
    pub stores : StoresFindTheSame
    pub fault : FirstFaultIsSame

  -- ---- which schedules are permitted

  -- recording order is
  abbrev pub RecordingOrderIsPermitted : Type 0
  RecordingOrderIsPermitted = MayRun (recording_order work.device work.count)

  -- waves are, one after the other, whose numbers rise along the order
  abbrev pub WavesArePermitted : Type 0
  WavesArePermitted =
      (number : ℕ → ℕ) (waves : List Wave) → RisesAlong work.device work.before number work.count
      → AreWaves work.device number work.count 0 waves → MayRun (events_of work.device waves)

  -- recording order and waves
  pub record ArePermitted : Type 0 where
    pub recording_order : RecordingOrderIsPermitted
    pub waves : WavesArePermitted

  -- an order of the commands below a number permits the same of their units, where it is the same
  -- among these commands
  abbrev pub PartsArePermitted : Type 0
  PartsArePermitted =
      (part : ℕ → ℕ → Bool) (until m : ℕ)
      → ((a b : ℕ) → a < until → b < until → part a b ≡ work.before a b)
      → ((p : ℕ) → p < m → work.device.command p < until)
      → (es : List Event)
      → IsPermitted work.device part m es ↔ IsPermitted work.device work.before m es

  -- ---- the commands below a number

  -- the work of the first m units alone
  abbrev pub first_units : ℕ → Work Held Outcome
  first_units m = record work { count = m }

  -- the first fault of the first m units is that of all, where it is one of these
  abbrev pub FirstFaultBelow : Type 0
  FirstFaultBelow =
      (m b : ℕ) → m ≤ work.count → IsFirstFault is_at_fault work.count b
      → (b < m → IsFirstFault is_at_fault m b) × (m ≤ b → IsFirstFault is_at_fault m m)

  -- ---- runs in waves

  -- where conflicting units are ordered and the numbers of waves rise along the order, they rise along
  -- conflicts
  abbrev pub WavesRise : Type 0
  WavesRise =
      (number : ℕ → ℕ) → AreOrdered work.device work.before work.count
      → RisesAlong work.device work.before number work.count
      → AreRising work.device number work.count

  -- no two units of a wave conflict
  abbrev pub WavesAreFree : Type 0
  WavesAreFree =
      (number : ℕ → ℕ) (p q : ℕ) (l : Location) → AreRising work.device number work.count
      → p < work.count → q < work.count → number p ≡ number q → (p ≡ q → ⊥)
      → Conflict work.device p q l → ⊥

  -- at first no wave is done
  abbrev pub WavesBegin : Type 0
  WavesBegin = (number : ℕ → ℕ) → IsDoneTo work number 0 work.count work.start

  -- the fetches of a wave have the outcomes of recording order
  abbrev pub WavesFetchTheSame : Type 0
  WavesFetchTheSame =
      (number : ℕ → ℕ) (v bound : ℕ) (memory : Memory Held)
      → AreRising work.device number work.count → IsDoneTo work number v bound memory
      → (p : ℕ) → p < bound → number p ≡ v → work.device.outcome p memory ≡ outcome_of p

  -- a fetch finds the same whatever other units of its wave have stored
  abbrev pub WavesFetchApart : Type 0
  WavesFetchApart =
      (number : ℕ → ℕ) (p q : ℕ) (outcome : Outcome) (memory : Memory Held)
      → AreRising work.device number work.count → p < work.count → q < work.count
      → number p ≡ number q → (p ≡ q → ⊥)
      → work.device.outcome p (put work.device q outcome memory) ≡ work.device.outcome p memory

  -- the units of a wave below a bound may be stored in any order
  abbrev pub WavesStoreApart : Type 0
  WavesStoreApart =
      (number : ℕ → ℕ) (v bound : ℕ) (memory : Memory Held) (ps : List ℕ)
      → AreRising work.device number work.count → bound ≤ work.count → AreDistinct ps
      → ((p : ℕ) → IsAmong p ps ↔ ((p < bound) × (number p ≡ v)))
      → IsAfterWave work.device number v bound memory
      (put_each work.device (λ p. work.device.outcome p memory) ps memory)

  -- a wave more is done: all its units below the bound are fetched, the bound comes down to the least
  -- faulty one of these, and those below it are stored
  abbrev pub WavesGoOn : Type 0
  WavesGoOn =
      (number : ℕ → ℕ) (v bound new : ℕ) (memory later : Memory Held)
      → AreRising work.device number work.count → IsDoneTo work number v bound memory
      → IsNewBound work.device number v bound memory new
      → IsAfterWave work.device number v new memory later
      → IsDoneTo work number (v + 1) new later

  -- once all waves are done the bound is the first fault of recording order, and where there is none the
  -- memory is that of recording order
  abbrev pub WavesEnd : Type 0
  WavesEnd =
      (number : ℕ → ℕ) (v bound : ℕ) (memory : Memory Held) → ((p : ℕ) → p < work.count → number p < v)
      → IsDoneTo work number v bound memory
      → IsFirstFault is_at_fault work.count bound
      × (bound ≡ work.count → (l : Location) → memory l ≡ before_unit work.count l)

  -- a run in waves, from its beginning to its end
  pub record WavesRun : Type 0 where
    pub rise : WavesRise
    pub free : WavesAreFree
    pub begin : WavesBegin
    pub fetches : WavesFetchTheSame
    pub fetch_apart : WavesFetchApart
    pub store_apart : WavesStoreApart
    pub go_on : WavesGoOn
    pub end : WavesEnd

-- what holds of the work of a device holds of that of its first units
abbrev pub HoldsBelow :
    {Location : Type 0} {Held : Location → Type 0} {Outcome : Type 0}
    → (Work Held Outcome → Type 0) → Work Held Outcome → Type 0
HoldsBelow Law work = (m : ℕ) → m ≤ work.count → Law (first_units work m)
