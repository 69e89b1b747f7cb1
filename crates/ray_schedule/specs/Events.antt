-- The run along a list of events. (Own.)
use Rattle.std.specs.Prelude.{◌≡◌, ℕ, ◌==◌, List, [], ◌∷◌, Option, Some, None, if◌then◌else◌}
use Rattle.ray_schedule.specs.Units.{Device, Memory, put}

-- what happens at one moment: a piece computes its outcome, a piece's outcome is stored, a command of
-- the host does both at once
pub data Event : Type 0 where
  Fetch : (p : ℕ) → Event
  Store : (p : ℕ) → Event
  Act : (p : ℕ) → Event

-- the unit of an event
abbrev pub unit_of : Event → ℕ
unit_of (Fetch p) = p
unit_of (Store p) = p
unit_of (Act p) = p

-- the outcome of unit q is computed at an event
abbrev pub Fetches : Event → ℕ → Type 0
Fetches (Fetch p) q = q ≡ p
Fetches (Store p) q = ⊥
Fetches (Act p) q = q ≡ p

-- the outcome of unit q is stored at an event
abbrev pub Stores : Event → ℕ → Type 0
Stores (Fetch p) q = ⊥
Stores (Store p) q = q ≡ p
Stores (Act p) q = q ≡ p

-- a moment of a run: the memory, and the outcomes kept, also of units in flight
pub record Moment {Location : Type 0} (Held : Location → Type 0) (Outcome : Type 0) : Type 0 where
  pub memory : Memory Held
  pub kept : ℕ → Option Outcome

module _ {Location : Type 0} {Held : Location → Type 0} {Outcome : Type 0} (d : Device Held Outcome) where
  -- the moment in which a run begins
  abbrev pub beginning : Memory Held → Moment Held Outcome
  beginning start = record { memory = start; kept = λ p. None }

  -- a unit's outcome is computed from the memory as it is, and kept
  abbrev pub after_fetch : ℕ → Moment Held Outcome → Moment Held Outcome
  after_fetch p moment = record {
    memory = moment.memory;
    kept = λ q. if q == p then Some (d.outcome p moment.memory) else moment.kept q;
  }

  -- the memory once what is kept of a unit is stored
  abbrev pub put_kept : ℕ → Option Outcome → Memory Held → Memory Held
  put_kept p None memory = memory
  put_kept p (Some outcome) memory = put d p outcome memory

  -- a unit's outcome that was kept is stored
  abbrev pub after_store : ℕ → Moment Held Outcome → Moment Held Outcome
  after_store p moment = record {
    memory = put_kept p (moment.kept p) moment.memory;
    kept = moment.kept;
  }

  -- the moment after an event
  abbrev pub after_event : Event → Moment Held Outcome → Moment Held Outcome
  after_event (Fetch p) moment = after_fetch p moment
  after_event (Store p) moment = after_store p moment
  after_event (Act p) moment = after_store p (after_fetch p moment)

  -- the moment after a list of events
  abbrev pub run : List Event → Moment Held Outcome → Moment Held Outcome
  run [] moment = moment
  run (e ∷ es) moment = run es (after_event e moment)
