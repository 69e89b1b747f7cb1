-- A device that does units of work in the order of a recording. (Own; a unit is a piece of a device
-- command, as one copy region, or a host command. Vulkan calls the pieces' execution and memory
-- accesses the operations of a command.)
--
-- The bridge to a device's memory as actions see it, for a recording whose commands have one action
-- each: unit p is command p; `writes p` is the `writes` of its action, `outcome p` its `outcome_of`;
-- an outcome is a fault where it is `Breaks`; and `stored p (Gives output)` is the `written` of the
-- action and the output. Then `put` here is `after` there, and `memory_before` has one name. Where a
-- command has many pieces, unit p is the p-th of all pieces and host commands in recording order.
use Rattle.std.specs.Prelude.{ℕ, zero, suc, Bool, not, ◌&&◌, if◌then◌else◌}

-- a memory: what each location holds
abbrev pub Memory : {Location : Type 0} → (Location → Type 0) → Type 0
Memory {Location} Held = (l : Location) → Held l

-- the units of a device, numbered in recording order
pub record Device {Location : Type 0} (Held : Location → Type 0) (Outcome : Type 0) : Type 0 where
  -- the number of the command that a unit belongs to
  pub command : ℕ → ℕ
  -- whether a unit is a command of the host
  pub is_host : ℕ → Bool
  -- whether a unit reads a location
  pub reads : ℕ → Location → Bool
  -- whether a unit writes a location
  pub writes : ℕ → Location → Bool
  -- what a unit computes from a memory: an output, or a fault of its inputs
  pub outcome : ℕ → Memory Held → Outcome
  -- whether an outcome is a fault
  pub is_fault : Outcome → Bool
  -- what a location that a unit writes holds once its output is stored, after what it held before
  pub stored : ℕ → Outcome → (l : Location) → Held l → Held l

-- what a device is to do: its units, how many of these, the memory in which it starts, and whether the
-- order of the commands puts all that belongs to one before all that belongs to another
pub record Work {Location : Type 0} (Held : Location → Type 0) (Outcome : Type 0) : Type 0 where
  pub device : Device Held Outcome
  pub count : ℕ
  pub start : Memory Held
  pub before : ℕ → ℕ → Bool

module _ {Location : Type 0} {Held : Location → Type 0} {Outcome : Type 0} (d : Device Held Outcome) where
  -- what a location holds after a unit's store: it changes where the unit writes it, and a fault
  -- stores nothing
  abbrev pub held_after : ℕ → Outcome → (l : Location) → Held l → Held l
  held_after p outcome l old =
      if not (d.is_fault outcome) && d.writes p l then d.stored p outcome l old else old

  -- the memory after a unit's store
  abbrev pub put : ℕ → Outcome → Memory Held → Memory Held
  put p outcome memory l = held_after p outcome l (memory l)

  -- the memory in which unit p stands in recording order, each unit's outcome stored before the next
  abbrev pub memory_before : Memory Held → ℕ → Memory Held
  memory_before start zero = start
  memory_before start (suc p) = put p (d.outcome p (memory_before start p)) (memory_before start p)

  -- the outcome of unit p in recording order
  abbrev pub outcome_at : Memory Held → ℕ → Outcome
  outcome_at start p = d.outcome p (memory_before start p)

  -- whether unit p is faulty in recording order
  abbrev pub is_faulty : Memory Held → ℕ → Bool
  is_faulty start p = d.is_fault (outcome_at start p)
