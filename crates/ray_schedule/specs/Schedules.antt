-- Which orders of events a device may take. (Vulkan, "Synchronization and Cache Control": an
-- execution dependency puts all operations of one command before all of another; own: the events.)
use Rattle.std.specs.Prelude.{◌≡◌, ◌<◌, ℕ, Bool, true, false, List, slice_get, Some}
use Rattle.ray_schedule.specs.Units.{Device}
use Rattle.ray_schedule.specs.Events.{Event, Fetch, Store, Act, unit_of}

-- an event stands at a place of a list
abbrev pub StandsAt : List Event → ℕ → Event → Type 0
StandsAt es i e = slice_get es i ≡ Some e

-- wherever two events stand, the first stands before the second
abbrev pub StandsBefore : List Event → Event → Event → Type 0
StandsBefore es e f = (i j : ℕ) → StandsAt es i e → StandsAt es j f → i < j

module _ {Location : Type 0} {Held : Location → Type 0} {Outcome : Type 0} (d : Device Held Outcome) where
  -- the events of the first n units: a fetch and a store of each piece, an act of each host command
  abbrev pub IsEvent : ℕ → Event → Type 0
  IsEvent n (Fetch p) = (p < n) × (d.is_host p ≡ false)
  IsEvent n (Store p) = (p < n) × (d.is_host p ≡ false)
  IsEvent n (Act p) = (p < n) × (d.is_host p ≡ true)

  -- a list holds the events of the first n units, and each once
  pub record IsSchedule (n : ℕ) (es : List Event) : Type 0 where
    pub only : (i : ℕ) (e : Event) → StandsAt es i e → IsEvent n e
    pub all : (e : Event) → IsEvent n e → (i : ℕ) × StandsAt es i e
    pub once : (i j : ℕ) (e : Event) → StandsAt es i e → StandsAt es j e → i ≡ j

  -- a schedule is permitted where each piece is fetched before it is stored, and all that belongs to a
  -- command stands before all that belongs to another which the order puts after it
  pub record IsPermitted (before : ℕ → ℕ → Bool) (n : ℕ) (es : List Event) : Type 0 where
    pub schedule : IsSchedule n es
    pub fetched_first : (p : ℕ) → StandsBefore es (Fetch p) (Store p)
    pub ordered :
        (e f : Event) → before (d.command (unit_of e)) (d.command (unit_of f)) ≡ true
        → StandsBefore es e f
