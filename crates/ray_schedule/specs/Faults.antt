-- The first fault, in recording order. A fault stores nothing, and a run goes on after it; so what is
-- kept of each unit is its outcome in recording order in every permitted schedule, and no schedule can
-- hide the first fault or show another. (Own.)
use Rattle.std.specs.Prelude.{◌≡◌, ◌<◌, ◌≤◌, ℕ, Bool, true, false, Option, Some, None}
use Rattle.ray_schedule.specs.Units.{Device}
use Rattle.ray_schedule.specs.Events.{Moment}

-- b is the least faulty one of the first n units, or n where there is none
pub record IsFirstFault (faulty : ℕ → Bool) (n b : ℕ) : Type 0 where
  pub within : b ≤ n
  pub none_below : (q : ℕ) → q < b → faulty q ≡ false
  pub here : b < n → faulty b ≡ true

module _ {Location : Type 0} {Held : Location → Type 0} {Outcome : Type 0} (d : Device Held Outcome) where
  -- whether what is kept of a unit is a fault
  abbrev pub is_kept_fault : Option Outcome → Bool
  is_kept_fault None = false
  is_kept_fault (Some outcome) = d.is_fault outcome

  -- whether a unit is known to be faulty at a moment
  abbrev pub is_found_faulty : Moment Held Outcome → ℕ → Bool
  is_found_faulty moment p = is_kept_fault (moment.kept p)
