-- How far a run in waves has come, for the invariants of loops that run a device. (Own.)
use Rattle.std.specs.Prelude.{◌≡◌, ◌<◌, ◌≤◌, ℕ, Bool, true, false, List, [], ◌∷◌}
use Rattle.ray_schedule.specs.Units.{Device, Work, Memory, put, memory_before, is_faulty}
use Rattle.ray_schedule.specs.Conflicts.{Conflict}

module _ {Location : Type 0} {Held : Location → Type 0} {Outcome : Type 0} (d : Device Held Outcome) (start : Memory Held) where
  -- a memory in which some units are stored: where those that write a location are the ones below a
  -- number, the location holds what it holds before the unit of that number in recording order
  abbrev pub IsSound : (ℕ → Type 0) → Memory Held → Type 0
  IsSound Stored memory =
      (l : Location) (k : ℕ)
      → ((q : ℕ) → q < k → d.writes q l ≡ true → Stored q)
      → ((q : ℕ) → k ≤ q → d.writes q l ≡ true → Stored q → ⊥)
      → memory l ≡ memory_before d start k l

module _ {Location : Type 0} {Held : Location → Type 0} {Outcome : Type 0} (d : Device Held Outcome) where
  -- the memory once outcomes of units are stored, one unit after the other
  abbrev pub put_each : (ℕ → Outcome) → List ℕ → Memory Held → Memory Held
  put_each outcomes [] memory = memory
  put_each outcomes (p ∷ ps) memory = put_each outcomes ps (put d p (outcomes p) memory)

module _ {Location : Type 0} {Held : Location → Type 0} {Outcome : Type 0} (d : Device Held Outcome) (number : ℕ → ℕ) where
  -- the numbers of waves rise along conflicts of the first n units
  abbrev pub AreRising : ℕ → Type 0
  AreRising n = (p q : ℕ) (l : Location) → p < q → q < n → Conflict d p q l → number p < number q

  -- what the fetches of wave v below a bound show, all from one memory: the least faulty unit, which
  -- is the new bound, or none, and then the bound stays
  pub record IsNewBound (v bound : ℕ) (memory : Memory Held) (new : ℕ) : Type 0 where
    pub within : new ≤ bound
    pub none_below : (p : ℕ) → p < new → number p ≡ v → d.is_fault (d.outcome p memory) ≡ false
    pub in_wave : new < bound → number new ≡ v
    pub here : new < bound → d.is_fault (d.outcome new memory) ≡ true

  -- the memory once what was fetched of wave v below a bound is stored, in any order
  pub record IsAfterWave (v bound : ℕ) (memory later : Memory Held) : Type 0 where
    pub changed :
        (p : ℕ) (l : Location) → p < bound → number p ≡ v → d.writes p l ≡ true
        → later l ≡ put d p (d.outcome p memory) memory l
    pub same :
        (l : Location) → ((p : ℕ) → p < bound → number p ≡ v → d.writes p l ≡ true → ⊥)
        → later l ≡ memory l

module _ {Location : Type 0} {Held : Location → Type 0} {Outcome : Type 0} (work : Work Held Outcome) (number : ℕ → ℕ) where
  -- the waves below number v are done, of the units below a bound, which is the least faulty unit among
  -- these waves, or the count of units
  pub record IsDoneTo (v bound : ℕ) (memory : Memory Held) : Type 0 where
    pub stored : ℕ → Bool
    pub all : (q : ℕ) → q < bound → number q < v → stored q ≡ true
    pub only : (q : ℕ) → stored q ≡ true → (q < work.count) × (number q < v)
    pub sound : IsSound work.device work.start (λ q. stored q ≡ true) memory
    pub within : bound ≤ work.count
    pub none_below : (q : ℕ) → q < bound → number q < v → is_faulty work.device work.start q ≡ false
    pub here : bound < work.count → is_faulty work.device work.start bound ≡ true
