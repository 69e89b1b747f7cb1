-- Which units are fetched and stored before a place of a list of events.
use Rattle.std.proofs.Common.{◌≡◌, ◌<◌, ℕ, zero, suc, List, [], ◌∷◌, refl, sym, ◌∙◌, ap, subst, arith, inl, inr, ◌⊎◌, take, length}
use Rattle.std.specs.Prelude.{slice_get}
use Rattle.std.proofs.lemmas.Bool.{cases_eq}
use Rattle.std.proofs.lemmas.Option.{same_Some, none-some}
use Rattle.ray_schedule.specs.Units.{Device}
use Rattle.ray_schedule.specs.Events.{Event, Fetches, Stores, Moment, after_event, run}
use Rattle.ray_schedule.specs.Schedules.{StandsAt}

-- unit q is fetched before place i
pub record FetchedBefore (es : List Event) (i q : ℕ) : Type 0 where
  pub place : ℕ
  pub event : Event
  pub below : place < i
  pub stands : StandsAt es place event
  pub fetches : Fetches event q

-- unit q is stored before place i
pub record StoredBefore (es : List Event) (i q : ℕ) : Type 0 where
  pub place : ℕ
  pub event : Event
  pub below : place < i
  pub stands : StandsAt es place event
  pub stores : Stores event q

-- what is so at a place is so at the next, with what its event does
pub fetched_less :
    (es : List Event) (i q : ℕ) (e : Event) → StandsAt es i e → FetchedBefore es (suc i) q
    → Fetches e q ⊎ FetchedBefore es i q
fetched_less es i q e stands f =
    elim (cases_eq f.place i) [
      | inl same ↦
          (let is : f.event ≡ e = same_Some f.event e (sym f.stands ∙ (ap (slice_get es) same ∙ stands)) in
          inl (subst (λ x. Fetches x q) is f.fetches))
      | inr differs ↦ (let b : f.place < suc i = f.below in
          inr (record { place = f.place; event = f.event; below = omega arith; stands = f.stands; fetches = f.fetches }))
    ]

pub stored_less :
    (es : List Event) (i q : ℕ) (e : Event) → StandsAt es i e → StoredBefore es (suc i) q
    → Stores e q ⊎ StoredBefore es i q
stored_less es i q e stands f =
    elim (cases_eq f.place i) [
      | inl same ↦
          (let is : f.event ≡ e = same_Some f.event e (sym f.stands ∙ (ap (slice_get es) same ∙ stands)) in
          inl (subst (λ x. Stores x q) is f.stores))
      | inr differs ↦ (let b : f.place < suc i = f.below in
          inr (record { place = f.place; event = f.event; below = omega arith; stands = f.stands; stores = f.stores }))
    ]

pub stored_more : (es : List Event) (i q : ℕ) → StoredBefore es i q → StoredBefore es (suc i) q
stored_more es i q f =
    let b : f.place < i = f.below in
    record { place = f.place; event = f.event; below = omega arith; stands = f.stands; stores = f.stores }

pub stored_here :
    (es : List Event) (i q : ℕ) (e : Event) → StandsAt es i e → Stores e q → StoredBefore es (suc i) q
stored_here es i q e stands s =
    record { place = i; event = e; below = omega arith; stands = stands; stores = s }

pub fetched_here :
    (es : List Event) (i q : ℕ) (e : Event) → StandsAt es i e → Fetches e q → FetchedBefore es (suc i) q
fetched_here es i q e stands s =
    record { place = i; event = e; below = omega arith; stands = stands; fetches = s }

-- at the first place nothing is
pub nothing_stored : (es : List Event) (q : ℕ) → StoredBefore es 0 q → ⊥
nothing_stored es q f = let b : f.place < 0 = f.below in absurd (omega arith)

pub nothing_fetched : (es : List Event) (q : ℕ) → FetchedBefore es 0 q → ⊥
nothing_fetched es q f = let b : f.place < 0 = f.below in absurd (omega arith)

-- each place below the length has an event
pub event_at : (es : List Event) (i : ℕ) → i < length es → (e : Event) × StandsAt es i e
event_at [] i h = absurd (omega arith)
event_at (x ∷ xs) zero h = (x, refl)
event_at (x ∷ xs) (suc i) h = event_at xs i (omega arith)

module _ {Location : Type 0} {Held : Location → Type 0} {Outcome : Type 0} (d : Device Held Outcome) where
  -- the moment before the place after one is that after its event
  pub run-next :
      (es : List Event) (i : ℕ) (e : Event) (moment : Moment Held Outcome) → StandsAt es i e
      → run d (take (suc i) es) moment ≡ after_event d e (run d (take i es) moment)
  run-next [] i e moment h = absurd (none-some e h)
  run-next (x ∷ xs) zero e moment h = ap (λ y. after_event d y moment) (same_Some x e h)
  run-next (x ∷ xs) (suc i) e moment h = run-next xs i e (after_event d x moment) h

  pub run-all :
      (es : List Event) (moment : Moment Held Outcome) → run d (take (length es) es) moment ≡ run d es moment
  run-all [] moment = refl
  run-all (x ∷ xs) moment = run-all xs (after_event d x moment)
