-- Which units conflict, and what of an order a run needs. (Vulkan, "Synchronization and Cache
-- Control": read-after-write, write-after-read and write-after-write hazards; own: by locations.)
use Rattle.std.specs.Prelude.{◌≡◌, ◌<◌, ℕ, Bool, true}
use Rattle.ray_schedule.specs.Units.{Device, Memory}

module _ {Location : Type 0} {Held : Location → Type 0} {Outcome : Type 0} (d : Device Held Outcome) where
  -- of two units that touch a location one writes it at least
  pub data Conflict (p q : ℕ) (l : Location) : Type 0 where
    WriteAfterWrite : d.writes p l ≡ true → d.writes q l ≡ true → Conflict p q l
    ReadAfterWrite : d.writes p l ≡ true → d.reads q l ≡ true → Conflict p q l
    WriteAfterRead : d.reads p l ≡ true → d.writes q l ≡ true → Conflict p q l

  -- conflicting units are ordered, the first n of them: the order puts the command of the earlier one
  -- before that of the later one
  abbrev pub AreOrdered : (ℕ → ℕ → Bool) → ℕ → Type 0
  AreOrdered before n =
      (p q : ℕ) (l : Location) → p < q → q < n → Conflict p q l
      → before (d.command p) (d.command q) ≡ true

  -- the order goes with recording order: it puts no unit before itself or an earlier one
  abbrev pub IsForward : (ℕ → ℕ → Bool) → ℕ → Type 0
  IsForward before n =
      (p q : ℕ) → p < n → q < n → before (d.command p) (d.command q) ≡ true → p < q

  -- a unit's outcome depends on what it reads alone
  abbrev pub IsLocal : Type 0
  IsLocal =
      (p : ℕ) (memory other : Memory Held)
      → ((l : Location) → d.reads p l ≡ true → memory l ≡ other l)
      → d.outcome p memory ≡ d.outcome p other
