-- Along a permitted schedule each unit may be fetched and stored where it is, so that the run stays on
-- course.
use Rattle.std.proofs.Common.{◌≡◌, ◌<◌, ◌≤◌, ℕ, zero, suc, Bool, true, false, List, refl, sym, ◌∙◌, ap, subst, arith, inl, inr, ◌⊎◌, take, length}
use Rattle.std.specs.Prelude.{Some}
use Rattle.std.proofs.lemmas.Bool.{cases_eq, cases_Bool, both_ways}
use Rattle.std.proofs.lemmas.Option.{slice_get_within}
use Rattle.ray_schedule.specs.Units.{Device, Memory, memory_before, outcome_at}
use Rattle.ray_schedule.specs.Events.{Event, Fetch, Store, Act, unit_of, Fetches, Stores, Moment, beginning, after_event, after_fetch, after_store, run}
use Rattle.ray_schedule.specs.Schedules.{StandsAt, IsEvent, IsPermitted}
use Rattle.ray_schedule.specs.Conflicts.{ReadAfterWrite, WriteAfterRead, WriteAfterWrite, AreOrdered, IsLocal}
use Rattle.ray_schedule.proofs.Places.{FetchedBefore, StoredBefore, fetched_less, fetched_here, stored_less, stored_more, stored_here, nothing_stored, nothing_fetched, event_at, run-next, run-all}
use Rattle.ray_schedule.proofs.Course.{IsOnCourse, MayFetch, MayStore, sound_at_first, sound_with, reads_in_order, on_course_after_fetch, on_course_after_store}

-- the unit of an event is the one that it fetches or stores
pub unit-fetches : (e : Event) (q : ℕ) → Fetches e q → unit_of e ≡ q
unit-fetches (Fetch p) q h = sym h
unit-fetches (Store p) q h = absurd h
unit-fetches (Act p) q h = sym h

pub unit-stores : (e : Event) (q : ℕ) → Stores e q → unit_of e ≡ q
unit-stores (Fetch p) q h = absurd h
unit-stores (Store p) q h = sym h
unit-stores (Act p) q h = sym h

module _ {Location : Type 0} {Held : Location → Type 0} {Outcome : Type 0} (d : Device Held Outcome) where
  pub unit_below : (n : ℕ) (e : Event) → IsEvent d n e → unit_of e < n
  unit_below n (Fetch p) h = h.0
  unit_below n (Store p) h = h.0
  unit_below n (Act p) h = h.0

  -- the event at which a unit is stored
  pub storing : (n q : ℕ) → q < n → (e : Event) × IsEvent d n e × Stores e q
  storing n q h =
      elim (cases_Bool (d.is_host q)) [
        | inl host ↦ (Act q, (h, host), refl)
        | inr piece ↦ (Store q, (h, piece), refl)
      ]

  clash : (a b : ℕ) → a ≡ b → d.is_host a ≡ false → d.is_host b ≡ true → ⊥
  clash a b same piece host = both_ways (d.is_host a) piece (ap d.is_host same ∙ host)

  -- a unit is stored at one event, and fetched at this or at its own
  pub stores_once :
      (n p : ℕ) (e f : Event) → IsEvent d n e → IsEvent d n f → Stores e p → Stores f p → e ≡ f
  stores_once n p (Fetch a) f x y s t = absurd s
  stores_once n p (Store a) (Fetch b) x y s t = absurd t
  stores_once n p (Store a) (Store b) x y s t = ap Store (sym s ∙ t)
  stores_once n p (Store a) (Act b) x y s t = absurd (clash a b (sym s ∙ t) x.1 y.1)
  stores_once n p (Act a) (Fetch b) x y s t = absurd t
  stores_once n p (Act a) (Store b) x y s t = absurd (clash b a (sym t ∙ s) y.1 x.1)
  stores_once n p (Act a) (Act b) x y s t = ap Act (sym s ∙ t)

  pub fetches_then_stores :
      (n p : ℕ) (e f : Event) → IsEvent d n e → IsEvent d n f → Fetches e p → Stores f p
      → ((e ≡ Fetch p) × (f ≡ Store p)) ⊎ (e ≡ f)
  fetches_then_stores n p (Fetch a) (Fetch b) x y s t = absurd t
  fetches_then_stores n p (Fetch a) (Store b) x y s t = inl (ap Fetch (sym s), ap Store (sym t))
  fetches_then_stores n p (Fetch a) (Act b) x y s t = absurd (clash a b (sym s ∙ t) x.1 y.1)
  fetches_then_stores n p (Store a) f x y s t = absurd s
  fetches_then_stores n p (Act a) (Fetch b) x y s t = absurd t
  fetches_then_stores n p (Act a) (Store b) x y s t = absurd (clash b a (sym t ∙ s) y.1 x.1)
  fetches_then_stores n p (Act a) (Act b) x y s t = inr (ap Act (sym s ∙ t))

module _ {Location : Type 0} {Held : Location → Type 0} {Outcome : Type 0} (d : Device Held Outcome) (before : ℕ → ℕ → Bool) (n : ℕ) (es : List Event) where
  -- of two events whose units are ordered, the first stands before the second
  pub in_order :
      (i j p q : ℕ) (e f : Event) → IsPermitted d before n es → StandsAt es i e → StandsAt es j f
      → unit_of e ≡ p → unit_of f ≡ q → before (d.command p) (d.command q) ≡ true → i < j
  in_order i j p q e f permitted at to is it h =
      permitted.ordered e f
      (subst (λ a. before (d.command a) (d.command (unit_of f)) ≡ true) (sym is)
      (subst (λ b. before (d.command p) (d.command b) ≡ true) (sym it) h))
      i j at to

  -- where a unit is fetched it isn't stored
  not_yet :
      (i p : ℕ) (e : Event) → IsPermitted d before n es → StandsAt es i e → Fetches e p
      → StoredBefore es i p → ⊥
  not_yet i p e permitted at fetches s =
      let below : s.place < i = s.below in
      elim (fetches_then_stores d n p e s.event (permitted.schedule.only i e at)
      (permitted.schedule.only s.place s.event s.stands) fetches s.stores) [
        | inl kinds ↦
            (let first : i < s.place =
            permitted.fetched_first p i s.place (at ∙ ap Some kinds.0) (s.stands ∙ ap Some kinds.1) in
            absurd (omega arith))
        | inr same ↦
            (let one : i ≡ s.place = permitted.schedule.once i s.place e at (s.stands ∙ ap Some (sym same)) in
            absurd (omega arith))
      ]

  pub may_fetch :
      (i p : ℕ) (e : Event) → AreOrdered d before n → IsPermitted d before n es → StandsAt es i e
      → Fetches e p → MayFetch d (StoredBefore es i) p
  may_fetch i p e ordered permitted at fetches =
      let is : unit_of e ≡ p = unit-fetches e p fetches in
      let within : unit_of e < n = unit_below d n e (permitted.schedule.only i e at) in
      record {
        earlier = λ l q r m w.
            let f = storing d n q (omega arith) in
            let stands = permitted.schedule.all f.0 f.1 in
            record {
              place = stands.0;
              event = f.0;
              below = in_order stands.0 i q p f.0 e permitted stands.1 at (unit-stores f.0 q f.2) is
                  (ordered q p l m (omega arith) (ReadAfterWrite w r));
              stands = stands.1;
              stores = f.2;
            };
        later = λ l q r g w s. elim (cases_eq q p) [
          | inl same ↦ not_yet i p e permitted at fetches (subst (StoredBefore es i) same s)
          | inr differs ↦
              (let it : unit_of s.event ≡ q = unit-stores s.event q s.stores in
              let inside : unit_of s.event < n = unit_below d n s.event (permitted.schedule.only s.place s.event s.stands) in
              let below : s.place < i = s.below in
              let after : i < s.place = in_order i s.place p q e s.event permitted at s.stands is it
              (ordered p q l (omega arith) (omega arith) (WriteAfterRead r w)) in
              absurd (omega arith))
        ];
      }

  pub may_store :
      (i p : ℕ) (e : Event) → AreOrdered d before n → IsPermitted d before n es → StandsAt es i e
      → Stores e p → MayStore d (StoredBefore es i) p
  may_store i p e ordered permitted at stores =
      let is : unit_of e ≡ p = unit-stores e p stores in
      record {
        fresh = λ s.
            let below : s.place < i = s.below in
            let same : e ≡ s.event =
            stores_once d n p e s.event (permitted.schedule.only i e at)
            (permitted.schedule.only s.place s.event s.stands) stores s.stores in
            let one : i ≡ s.place = permitted.schedule.once i s.place e at (s.stands ∙ ap Some (sym same)) in
            absurd (omega arith);
        over = λ l q w m x s.
            let it : unit_of s.event ≡ q = unit-stores s.event q s.stores in
            let inside : unit_of s.event < n = unit_below d n s.event (permitted.schedule.only s.place s.event s.stands) in
            let below : s.place < i = s.below in
            let after : i < s.place = in_order i s.place p q e s.event permitted at s.stands is it
            (ordered p q l m (omega arith) (WriteAfterWrite w x)) in
            absurd (omega arith);
      }

  -- a piece is fetched before its store
  fetched_already :
      (i p : ℕ) → IsPermitted d before n es → StandsAt es i (Store p) → FetchedBefore es i p
  fetched_already i p permitted at =
      let stands = permitted.schedule.all (Fetch p) (permitted.schedule.only i (Store p) at) in
      record {
        place = stands.0;
        event = Fetch p;
        below = permitted.fetched_first p stands.0 i stands.1 at;
        stands = stands.1;
        fetches = refl;
      }

module _ {Location : Type 0} {Held : Location → Type 0} {Outcome : Type 0} (d : Device Held Outcome) (start : Memory Held) (before : ℕ → ℕ → Bool) (n : ℕ) (es : List Event) where
  -- the run is on course at a place
  abbrev OnCourseAt : ℕ → Moment Held Outcome → Type 0
  OnCourseAt i moment = IsOnCourse d start (FetchedBefore es i) (StoredBefore es i) moment

  one_event :
      (i : ℕ) (e : Event) (moment : Moment Held Outcome) → IsLocal d → AreOrdered d before n
      → IsPermitted d before n es → StandsAt es i e
      → OnCourseAt i moment → OnCourseAt (suc i) (after_event d e moment)
  one_event i (Fetch p) moment local ordered permitted at course =
      let next : IsOnCourse d start (FetchedBefore es (suc i)) (StoredBefore es i) (after_fetch d p moment) =
      on_course_after_fetch d start (FetchedBefore es i) (FetchedBefore es (suc i)) (StoredBefore es i) moment p
      local course (may_fetch d before n es i p (Fetch p) ordered permitted at refl)
      (λ q f. fetched_less es i q (Fetch p) at f) in
      record {
        kept = next.kept;
        sound = sound_with d start (StoredBefore es i) (StoredBefore es (suc i)) moment.memory
            (λ q s. stored_more es i q s)
            (λ q s. elim (stored_less es i q (Fetch p) at s) [ inl none ↦ absurd none | inr t ↦ t ])
            next.sound;
      }
  one_event i (Store p) moment local ordered permitted at course =
      let next : IsOnCourse d start (FetchedBefore es i) (StoredBefore es (suc i)) (after_store d p moment) =
      on_course_after_store d start (FetchedBefore es i) (StoredBefore es i) (StoredBefore es (suc i)) moment p
      course (fetched_already d before n es i p permitted at)
      (may_store d before n es i p (Store p) ordered permitted at refl)
      (λ q s. stored_less es i q (Store p) at s)
      (λ q s. elim s [ inl same ↦ stored_here es i q (Store p) at same | inr t ↦ stored_more es i q t ]) in
      record {
        kept = λ q f. next.kept q (elim (fetched_less es i q (Store p) at f) [ inl none ↦ absurd none | inr t ↦ t ]);
        sound = next.sound;
      }
  one_event i (Act p) moment local ordered permitted at course =
      on_course_after_store d start (FetchedBefore es (suc i)) (StoredBefore es i) (StoredBefore es (suc i))
      (after_fetch d p moment) p
      (on_course_after_fetch d start (FetchedBefore es i) (FetchedBefore es (suc i)) (StoredBefore es i) moment p
      local course (may_fetch d before n es i p (Act p) ordered permitted at refl)
      (λ q f. fetched_less es i q (Act p) at f))
      (fetched_here es i p (Act p) at refl)
      (may_store d before n es i p (Act p) ordered permitted at refl)
      (λ q s. stored_less es i q (Act p) at s)
      (λ q s. elim s [ inl same ↦ stored_here es i q (Act p) at same | inr t ↦ stored_more es i q t ])

  pub on_course :
      (i : ℕ) → IsLocal d → AreOrdered d before n → IsPermitted d before n es → i ≤ length es
      → OnCourseAt i (run d (take i es) (beginning d start))
  on_course zero local ordered permitted h = record {
    kept = λ p f. absurd (nothing_fetched es p f);
    sound = sound_at_first d start (StoredBefore es 0) (nothing_stored es);
  }
  on_course (suc i) local ordered permitted h =
      let e = event_at es i (omega arith) in
      subst (OnCourseAt (suc i)) (sym (run-next d es i e.0 (beginning d start) e.1))
      (one_event i e.0 (run d (take i es) (beginning d start)) local ordered permitted e.1
      (on_course i local ordered permitted (omega arith)))

  -- each fetch reads what it reads in recording order
  pub fetch_reads :
      IsLocal d → AreOrdered d before n → IsPermitted d before n es
      → (i p : ℕ) (e : Event) (l : Location) → StandsAt es i e → Fetches e p → d.reads p l ≡ true
      → (run d (take i es) (beginning d start)).memory l ≡ memory_before d start p l
  fetch_reads local ordered permitted i p e l at fetches reads =
      let within : i < length es = slice_get_within es i e at in
      reads_in_order d start (StoredBefore es i) (run d (take i es) (beginning d start)).memory p
      (on_course i local ordered permitted (omega arith)).sound
      (may_fetch d before n es i p e ordered permitted at fetches) l reads

  at_the_end :
      IsLocal d → AreOrdered d before n → IsPermitted d before n es
      → OnCourseAt (length es) (run d es (beginning d start))
  at_the_end local ordered permitted =
      subst (OnCourseAt (length es)) (run-all d es (beginning d start))
      (on_course (length es) local ordered permitted (omega arith))

  -- each outcome is that of recording order
  pub outcomes_same :
      IsLocal d → AreOrdered d before n → IsPermitted d before n es
      → (p : ℕ) → p < n → (run d es (beginning d start)).kept p ≡ Some (outcome_at d start p)
  outcomes_same local ordered permitted p h =
      (at_the_end local ordered permitted).kept p
      (elim (cases_Bool (d.is_host p)) [
        | inl host ↦ (let s = permitted.schedule.all (Act p) (h, host) in
            record { place = s.0; event = Act p; below = slice_get_within es s.0 (Act p) s.1; stands = s.1; fetches = refl })
        | inr piece ↦ (let s = permitted.schedule.all (Fetch p) (h, piece) in
            record { place = s.0; event = Fetch p; below = slice_get_within es s.0 (Fetch p) s.1; stands = s.1; fetches = refl })
      ])

  -- and so is the memory at the end
  pub memory_same :
      IsLocal d → AreOrdered d before n → IsPermitted d before n es
      → (l : Location) → (run d es (beginning d start)).memory l ≡ memory_before d start n l
  memory_same local ordered permitted l =
      (at_the_end local ordered permitted).sound l n
      (λ q m w.
      let f = storing d n q m in
      let s = permitted.schedule.all f.0 f.1 in
      record { place = s.0; event = f.0; below = slice_get_within es s.0 f.0 s.1; stands = s.1; stores = f.2 })
      (λ q g w s.
      let it : unit_of s.event ≡ q = unit-stores s.event q s.stores in
      let inside : unit_of s.event < n = unit_below d n s.event (permitted.schedule.only s.place s.event s.stands) in
      absurd (omega arith))

  -- each store finds what its unit read, but for what it writes
  pub store_finds :
      IsLocal d → AreOrdered d before n → IsPermitted d before n es
      → (i p : ℕ) (e : Event) (l : Location) → StandsAt es i e → Stores e p → d.reads p l ≡ true
      → d.writes p l ≡ false
      → (run d (take i es) (beginning d start)).memory l ≡ memory_before d start p l
  store_finds local ordered permitted i p e l at stores reads stays =
      let within : i < length es = slice_get_within es i e at in
      let is : unit_of e ≡ p = unit-stores e p stores in
      let below : unit_of e < n = unit_below d n e (permitted.schedule.only i e at) in
      (on_course i local ordered permitted (omega arith)).sound l p
      (λ q m w.
      let f = storing d n q (omega arith) in
      let stands = permitted.schedule.all f.0 f.1 in
      record {
        place = stands.0;
        event = f.0;
        below = in_order d before n es stands.0 i q p f.0 e permitted stands.1 at (unit-stores f.0 q f.2) is
            (ordered q p l m (omega arith) (ReadAfterWrite w reads));
        stands = stands.1;
        stores = f.2;
      })
      (λ q g w s. elim (cases_eq q p) [
        | inl same ↦ both_ways (d.writes p l) stays (subst (λ r. d.writes r l ≡ true) same w)
        | inr differs ↦
            (let it : unit_of s.event ≡ q = unit-stores s.event q s.stores in
            let inside : unit_of s.event < n = unit_below d n s.event (permitted.schedule.only s.place s.event s.stands) in
            let early : s.place < i = s.below in
            let after : i < s.place = in_order d before n es i s.place p q e s.event permitted at s.stands is it
            (ordered p q l (omega arith) (omega arith) (WriteAfterRead reads w)) in
            absurd (omega arith))
      ])
