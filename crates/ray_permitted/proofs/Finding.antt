-- What each store along a permitted schedule finds, and what the actions of a wave read.
use Rattle.std.proofs.Common.{◌≡◌, ◌<◌, ◌≤◌, ℕ, Bool, true, false, List, inl, inr, refl, sym, ◌∙◌, ap, subst, arith, length, take}
use Rattle.std.specs.Prelude.{◌==◌, ◌||◌, nat_lt}
use Rattle.std.proofs.lemmas.Bool.{cases_eq, eq-eqb, eqb-true, lt-ltb, ltb-true, or_cases, or_left, or_right}
use Rattle.std.proofs.lemmas.Option.{slice_get_within}
use Rattle.ray_schedule.specs.Units.{Device, Memory, Work, memory_before}
use Rattle.ray_schedule.specs.Conflicts.{AreOrdered, IsLocal, ReadAfterWrite, WriteAfterRead}
use Rattle.ray_schedule.specs.Events.{Event, Stores, beginning, run, unit_of}
use Rattle.ray_schedule.specs.Progress.{AreRising, IsDoneTo}
use Rattle.ray_schedule.specs.Schedules.{IsPermitted, StandsAt}
use Rattle.ray_schedule.proofs.Course.{MayFetch, reads_in_order}
use Rattle.ray_schedule.proofs.Permitted.{in_order, may_store, on_course, storing, unit-stores, unit_below}
use Rattle.ray_schedule.proofs.Places.{StoredBefore}
use Rattle.ray_schedule.proofs.Waving.{may_fetch_in_wave}
use Rattle.ray_action.specs.Memory as actions
use Rattle.ray_action.specs.Outcomes.{Outcome, Gives, Breaks, Undefined}
use Rattle.ray_action.specs.Pieces.{Numbered}
use Rattle.ray_action.specs.Running.{action_at, outcome_at}
use Rattle.ray_action.specs.Running as running
use Rattle.ray_ready.specs.Laws.{AreSources, IsGiven, first_actions}
use Rattle.ray_ready.proofs.Local.{ready_local}
use Rattle.ray_permitted.specs.Laws.{AtEachStore, StoresAreReady, StoresFindTheSame, WavesAreReady, WavesReadTheSame}
use Rattle.ray_permitted.specs.Job.{Job}
use Rattle.ray_permitted.specs.Work.{stores_nothing, work_of}
use Rattle.ray_permitted.proofs.Fetching.{ready_by_sources, runnable_orderly}
use Rattle.ray_permitted.proofs.Runs.{memory_is}

-- ---- any device

module _ {Location : Type 0} {Held : Location → Type 0} {Outcome : Type 0} (d : Device Held Outcome) (start : Memory Held) (before : ℕ → ℕ → Bool) (n : ℕ) (es : List Event) where
  -- a unit that is being stored could be fetched once more
  may_fetch_again :
      (i p : ℕ) (e : Event) → AreOrdered d before n → IsPermitted d before n es → StandsAt es i e → Stores e p → MayFetch d (StoredBefore es i) p
  may_fetch_again i p e ordered permitted at stores =
      let is : unit_of e ≡ p = unit-stores e p stores in
      let within : unit_of e < n = unit_below d n e (permitted.schedule.only i e at) in
      let store = may_store d before n es i p e ordered permitted at stores in
      record {
        earlier = λ l q r m w.
            let f = storing d n q (omega (arith, m, is, within)) in
            let stands = permitted.schedule.all f.0 f.1 in
            record {
              place = stands.0;
              event = f.0;
              below = in_order d before n es stands.0 i q p f.0 e permitted stands.1 at (unit-stores f.0 q f.2) is
                  (ordered q p l m (omega (arith, is, within)) (ReadAfterWrite w r));
              stands = stands.1;
              stores = f.2;
            };
        later = λ l q r g w s. elim (cases_eq q p) [
          | inl same ↦ store.fresh (subst (StoredBefore es i) same s)
          | inr differs ↦
              (let it : unit_of s.event ≡ q = unit-stores s.event q s.stores in
              let inside : unit_of s.event < n = unit_below d n s.event (permitted.schedule.only s.place s.event s.stands) in
              let below : s.place < i = s.below in
              let after : i < s.place = in_order d before n es i s.place p q e s.event permitted at s.stands is it
              (ordered p q l (omega arith) (omega arith) (WriteAfterRead r w)) in
              absurd (omega (arith, below, after)))
        ];
      }

  store_finds_all :
      IsLocal d → AreOrdered d before n → IsPermitted d before n es
      → (i p : ℕ) (e : Event) (l : Location) → StandsAt es i e → Stores e p → d.reads p l ≡ true
      → (run d (take i es) (beginning d start)).memory l ≡ memory_before d start p l
  store_finds_all local ordered permitted i p e l at stores reads =
      let within : i < length es = slice_get_within es i e at in
      reads_in_order d start (StoredBefore es i) (run d (take i es) (beginning d start)).memory p
      (on_course d start before n es i local ordered permitted (omega arith)).sound
      (may_fetch_again i p e ordered permitted at stores) l reads

module _ {Location : Type 0} {Held : Location → Type 0} {Outcome : Type 0} (work : Work Held Outcome) where
  waves_read :
      (number : ℕ → ℕ) (v bound p : ℕ) (memory : Memory Held) → AreRising work.device number work.count
      → IsDoneTo work number v bound memory → p < bound → number p ≡ v
      → (l : Location) → work.device.reads p l ≡ true → memory l ≡ memory_before work.device work.start p l
  waves_read number v bound p memory rising done below is l reads =
      reads_in_order work.device work.start (λ q. done.stored q ≡ true) memory p done.sound
      (may_fetch_in_wave work number v bound p memory rising done below is) l reads

-- ---- the work of commands

stores_find : StoresFindTheSame
stores_find job n es i p e runnable permitted at stores = λ l reads.
    let o = runnable_orderly job n runnable in
    let w = work_of job n in
    store_finds_all w.device w.start w.before w.count es o.local o.ordered permitted i p e l at stores reads
    ∙ (λ j. memory_is job (first_actions job.commands n) p j l)

stores_ready : StoresAreReady
stores_ready job n es i p e runnable permitted at stores ready =
    ready_local (action_at (first_actions job.commands n) p) (running.memory_before job.clients (first_actions job.commands n) p) _
    (λ l reads. sym (stores_find job n es i p e runnable permitted at stores l reads)) ready

pub at_each_store : AtEachStore
at_each_store = record { reads = stores_find; ready = stores_ready }

pub waves_read_the_same : WavesReadTheSame
waves_read_the_same job n number v bound p memory rising done below is = λ l reads.
    waves_read (work_of job n) number v bound p memory rising done below is l reads
    ∙ (λ j. memory_is job (first_actions job.commands n) p j l)

-- ---- readiness in a wave

pub given_from : (x : Outcome) → stores_nothing x ≡ false → IsGiven x
given_from (Gives output) e = tt
given_from (Breaks fault) e = absurd cc
given_from Undefined e = absurd cc

wave_sources : (job : Job) (n : ℕ) (number : ℕ → ℕ) (v bound p : ℕ) (memory : actions.Memory)
    → AreRising (work_of job n).device number (work_of job n).count → IsDoneTo (work_of job n) number v bound memory → p < bound → number p ≡ v
    → AreSources job.clients (first_actions job.commands n) (λ q. nat_lt (number q) v || q == p) p
wave_sources job n number v bound p memory rising done below is =
    let us : List Numbered = first_actions job.commands n in
    let within : bound ≤ length us = done.within in
    record {
      closed = λ q r l before upto member w reads.
          let rises : number q < number r = rising q r l before (omega arith) (ReadAfterWrite w reads) in
          or_left (nat_lt (number q) v) (q == p) (lt-ltb (number q) v
          (elim (or_cases (nat_lt (number r) v) (r == p) member) [
            | inl s ↦ (let less : number r < v = ltb-true (number r) v s in omega arith)
            | inr s ↦ (let same : number r ≡ number p = ap number (eqb-true r p s) in omega arith)
          ]));
      gave = λ q before member.
          let earlier : number q < v = elim (or_cases (nat_lt (number q) v) (q == p) member) [
            | inl s ↦ ltb-true (number q) v s
            | inr s ↦ (let same : q ≡ p = eqb-true q p s in absurd (omega arith))
          ] in
          given_from (outcome_at job.clients us q (running.memory_before job.clients us q))
          (ap (λ m. stores_nothing (outcome_at job.clients us q m)) (sym (memory_is job us q)) ∙ done.none_below q (omega arith) earlier);
    }

pub waves_are_ready : WavesAreReady
waves_are_ready job n number v bound p memory accepted rising done below is =
    let us : List Numbered = first_actions job.commands n in
    let within : bound ≤ length us = done.within in
    ready_local (action_at us p) (running.memory_before job.clients us p) memory
    (λ l reads. sym (waves_read_the_same job n number v bound p memory rising done below is l reads))
    (ready_by_sources job.clients job.commands n p (λ q. nat_lt (number q) v || q == p) accepted (omega (arith, below, within))
    (or_right (nat_lt (number p) v) (p == p) (eq-eqb p p refl)) (wave_sources job n number v bound p memory rising done below is))
