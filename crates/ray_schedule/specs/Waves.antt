-- Schedules in waves: all that is fetched in a wave is fetched before anything of it is stored. (Own.)
use Rattle.std.specs.Prelude.{◌≡◌, ◌<◌, ℕ, suc, Bool, true, false, List, [], ◌∷◌, ◌++◌, map, ◌⊎◌, ◌↔◌, if◌then◌else◌}
use Rattle.std.specs.List.{range_with_len}
use Rattle.ray_schedule.specs.Units.{Device}
use Rattle.ray_schedule.specs.Events.{Event, Fetch, Store, Act}

-- x is among the members of a list
abbrev pub IsAmong : {X : Type 0} → X → List X → Type 0
IsAmong x [] = ⊥
IsAmong x (y ∷ ys) = (x ≡ y) ⊎ IsAmong x ys

-- R holds of each member of a list and each later one
abbrev pub EachLater : {X : Type 0} → (X → X → Type 0) → List X → Type 0
EachLater R [] = Unit {0}
EachLater {X} R (x ∷ xs) = ((y : X) → IsAmong y xs → R x y) × EachLater R xs

-- no member of a list is a later one
abbrev pub AreDistinct : List ℕ → Type 0
AreDistinct ps = EachLater (λ p q. p ≡ q → ⊥) ps

-- the units of a wave: in which order they are fetched, or done by the host, and in which the pieces
-- are stored
pub record Wave : Type 0 where
  pub begun : List ℕ
  pub stored : List ℕ

module _ {Location : Type 0} {Held : Location → Type 0} {Outcome : Type 0} (d : Device Held Outcome) where
  -- the event with which a unit begins
  abbrev pub begin : ℕ → Event
  begin p = if d.is_host p then Act p else Fetch p

  -- the events of waves, one wave after the other
  abbrev pub events_of : List Wave → List Event
  events_of [] = []
  events_of (wave ∷ waves) = map begin wave.begun ++ (map Store wave.stored ++ events_of waves)

  -- wave number v has each of the first n units with this number once, in any order, and stores each
  -- piece of these once, in any order
  pub record IsWave (number : ℕ → ℕ) (n v : ℕ) (wave : Wave) : Type 0 where
    pub begins : (p : ℕ) → IsAmong p wave.begun ↔ ((p < n) × (number p ≡ v))
    pub begins_once : AreDistinct wave.begun
    pub stores : (p : ℕ) → IsAmong p wave.stored ↔ ((p < n) × (number p ≡ v) × (d.is_host p ≡ false))
    pub stores_once : AreDistinct wave.stored

  -- these are the waves from number v on, and no unit has a greater number
  abbrev pub AreWaves : (ℕ → ℕ) → ℕ → ℕ → List Wave → Type 0
  AreWaves number n v [] = (p : ℕ) → p < n → number p < v
  AreWaves number n v (wave ∷ waves) = IsWave number n v wave × AreWaves number n (suc v) waves

  -- the numbers of waves rise along an order
  abbrev pub RisesAlong : (ℕ → ℕ → Bool) → (ℕ → ℕ) → ℕ → Type 0
  RisesAlong before number n =
      (p q : ℕ) → p < n → q < n → before (d.command p) (d.command q) ≡ true → number p < number q

  -- one unit, as a wave
  abbrev pub alone : ℕ → Wave
  alone p = record { begun = p ∷ []; stored = if d.is_host p then [] else p ∷ [] }

  -- recording order: each unit in turn, a piece stored as soon as it is fetched
  abbrev pub recording_order : ℕ → List Event
  recording_order n = events_of (map alone (range_with_len 0 n))
