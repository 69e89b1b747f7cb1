-- What was done so far in a memory, event by event, each at a moment at which it could be asked for. No order
-- of commands is spoken of, and the events need be no schedule. (Own.)
use Rattle.std.specs.Prelude.{◌≡◌, ◌<◌, ◌⊎◌, ℕ, ◌==◌, ◌||◌, Bool, true, false, List, [], ◌∷◌, Option, Some, None}
use Rattle.ray_schedule.specs.Units.{Work}
use Rattle.ray_schedule.specs.Events.{Event, Fetch, Store, Act, Moment, beginning, after_event}

-- whether the outcome of a unit is computed at one of the events
abbrev pub is_fetched : List Event → ℕ → Bool
is_fetched [] q = false
is_fetched (Fetch p ∷ es) q = q == p || is_fetched es q
is_fetched (Store p ∷ es) q = is_fetched es q
is_fetched (Act p ∷ es) q = q == p || is_fetched es q

-- whether it is stored at one of them
abbrev pub is_stored : List Event → ℕ → Bool
is_stored [] q = false
is_stored (Fetch p ∷ es) q = is_stored es q
is_stored (Store p ∷ es) q = q == p || is_stored es q
is_stored (Act p ∷ es) q = q == p || is_stored es q

module _ {Location : Type 0} {Held : Location → Type 0} {Outcome : Type 0} (work : Work Held Outcome) where
  -- the moment after events, of which the latest stands first
  abbrev pub moment_of : List Event → Moment Held Outcome
  moment_of [] = beginning work.device work.start
  moment_of (e ∷ es) = after_event work.device e (moment_of es)

  -- a unit may be asked for after events: the earlier units that write what it reads or writes are stored, no
  -- later one that writes what it reads is, and it isn't either
  pub record MayAsk (es : List Event) (p : ℕ) : Type 0 where
    pub below : p < work.count
    pub earlier :
        (q : ℕ) (l : Location) → q < p → work.device.writes q l ≡ true
        → (work.device.reads p l ≡ true) ⊎ (work.device.writes p l ≡ true) → is_stored es q ≡ true
    pub later :
        (q : ℕ) (l : Location) → p < q → work.device.writes q l ≡ true → work.device.reads p l ≡ true
        → is_stored es q ≡ false
    pub fresh : is_stored es p ≡ false

  -- what is kept is an output, and no fault
  abbrev pub IsOutput : Option Outcome → Type 0
  IsOutput None = ⊥
  IsOutput (Some outcome) = work.device.is_fault outcome ≡ false

  -- an event may come after others: a unit is fetched where it may be asked for; an output that was fetched is
  -- stored once; a command of the host that may be asked for gives an output
  abbrev pub MayCome : Event → List Event → Type 0
  MayCome (Fetch p) es = MayAsk es p
  MayCome (Store p) es = (is_fetched es p ≡ true) × (is_stored es p ≡ false) × IsOutput ((moment_of es).kept p)
  MayCome (Act p) es = MayAsk es p × (work.device.is_fault (work.device.outcome p (moment_of es).memory) ≡ false)

  -- each of the events could come after those before it
  abbrev pub AreInTurn : List Event → Type 0
  AreInTurn [] = Unit {0}
  AreInTurn (e ∷ es) = MayCome e es × AreInTurn es
