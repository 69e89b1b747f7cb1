-- One wave more of a run in waves.
use Rattle.std.proofs.Common.{ℕ, ◌≡◌, ◌<◌, ◌≤◌, ◌++◌, ◌↔◌, inl, inr, true, false, List, [], ◌∷◌, length, Option, Some, None, refl, ap, sym, subst, ◌∙◌, arith}
use Rattle.std.proofs.lemmas.Bool.{cases_lt, cases_eq}
use Rattle.ray_schedule.specs.Conflicts.{ReadAfterWrite}
use Rattle.ray_schedule.specs.Progress.{AreRising}
use Rattle.ray_schedule.specs.Waves.{AreDistinct, EachLater, IsAmong}
use Rattle.ray_schedule.proofs.Turns.{among-append_left, each_later-map}
use Rattle.ray_schedule.proofs.Waving.{waves_are_free}
use Rattle.ray_cmd.specs.declared.command.Command.{Command}
use Rattle.ray_cmd.specs.declared.refusal.Refusal.{Refusal}
use Rattle.ray_action.specs.Memory.{Location, Memory}
use Rattle.ray_action.specs.Areas.{cover}
use Rattle.ray_action.specs.Action.{areas_read}
use Rattle.ray_action.specs.Outcomes.{Outcome, Gives, Breaks, Undefined}
use Rattle.ray_action.specs.Pieces.{Numbered, command_at}
use Rattle.ray_action.specs.Readiness.{IsReady}
use Rattle.ray_action.specs.Running.{action_at, number_at}
use Rattle.ray_action.specs.Storing.{writes}
use Rattle.ray_ready.specs.Accepted.{refused_from}
use Rattle.ray_ready.specs.Laws.{IsGiven, first_actions}
use Rattle.ray_permitted.specs.Job.{Job}
use Rattle.ray_permitted.specs.Work.{stores_nothing, work_of}
use Rattle.ray_permitted.proofs.Finding.{waves_are_ready}
use Rattle.ray_permitted.proofs.Ordered.{numbers_rise as numbers_rise_along}
use Rattle.ray_device.specs.declared.piece.Piece.{Piece}
use Rattle.ray_device.specs.Pieces.{piece_action}
use Rattle.ray_exec.specs.Given.{AreReady}
use Rattle.ray_exec.specs.Progress.{IsDone, IsStopAt, wave_of}
use Rattle.ray_exec.specs.Settled.{AreApart}
use Rattle.ray_exec.specs.Steps.{CanEach}
use Rattle.ray_exec.specs.Waves.{AreRun, IsPart, commands_of_wave, pieces_below, wave_at}
use Rattle.ray_exec.proofs.Lists.{map-among}
use Rattle.ray_exec.proofs.Numbering.{action_is, command_is, commands_rise, is_part, numbers_are, numbers_in, numbers_rise, numbers_there, piece_at, wave_pieces}

pub rising : (job : Job) (numbers : List ℕ) (n : ℕ) → AreRun job.commands numbers n
    → AreRising (work_of job n).device (wave_of job.commands numbers n) (work_of job n).count
rising job numbers n run = numbers_rise_along job n (wave_at numbers) run.accepted run.separate

-- ---- the numbers of a wave

-- they are those of the wave below the bound
pub in_wave : (job : Job) (numbers : List ℕ) (n v : ℕ) (memory : Memory) (text : List ℕ) (stop : Option Refusal) → AreRun job.commands numbers n
    → (bound : ℕ) → bound ≤ length (first_actions job.commands n) → IsStopAt job numbers n v bound text stop
    → (p : ℕ) → IsAmong p (numbers_in job.commands numbers n v (refused_from n stop)) ↔ ((p < bound) × (wave_of job.commands numbers n p ≡ v))
in_wave job numbers n v memory text None run bound upto stopped p =
    let us : List Numbered = first_actions job.commands n in
    let all : bound ≡ length us = stopped.0 in (
      λ a. let is = numbers_are job.commands numbers n v n p run.within a in let l : p < length us = is.below in (omega (arith, l, all), is.wave),
      λ is.
          let l : p < length us = omega (arith, is.0, all) in
          numbers_there job.commands numbers n v n p run.within (record {
            below = l;
            wave = is.1;
            command = subst (λ i. i < n) (sym (command_is job.commands n p run.within l)) (is_part job.commands n p run.within l).1;
          }),
    )
in_wave job numbers n v memory text (Some refusal) run bound upto stopped p =
    let us : List Numbered = first_actions job.commands n in
    let inside : bound < length us = stopped.0 in
    let earlier : wave_of job.commands numbers n bound < v = stopped.1 in
    let named : refusal.command ≡ number_at us bound = ap (λ (r : Refusal). r.command) stopped.2.2 in (
      λ a.
          let is = numbers_are job.commands numbers n v refusal.command p run.within a in
          let less : number_at us p < refusal.command = is.command in (
            elim (cases_lt p bound) [
              | inl l ↦ l
              | inr g ↦ (let rise : number_at us bound ≤ number_at us p = elim (cases_eq p bound) [
                | inl same ↦ (let e : number_at us p ≡ number_at us bound = ap (number_at us) same in omega (arith, e))
                | inr differs ↦ commands_rise job.commands n bound p run.within (omega (arith, g, differs)) is.below
              ] in absurd (omega (arith, rise, less, named)))
            ],
            is.wave,
          ),
      λ is.
          let l : p < length us = omega (arith, is.0, inside) in
          let rise : number_at us p ≤ number_at us bound = commands_rise job.commands n p bound run.within is.0 inside in
          numbers_there job.commands numbers n v refusal.command p run.within (record {
            below = l;
            wave = is.1;
            command = elim (cases_eq (number_at us p) (number_at us bound)) [
              | inl same ↦ (let e : wave_of job.commands numbers n p ≡ wave_of job.commands numbers n bound = ap (wave_at numbers) same in
                  let w : wave_of job.commands numbers n p ≡ v = is.1 in absurd (omega (arith, e, w, earlier)))
              | inr differs ↦ omega (arith, rise, differs, named)
            ];
          }),
    )

-- ---- what is fetched

pub ready_in : (job : Job) (numbers : List ℕ) (n v : ℕ) (memory : Memory) (text : List ℕ) (stop : Option Refusal) → AreRun job.commands numbers n
    → IsDone job numbers n v memory text stop → (p : ℕ) → IsAmong p (numbers_in job.commands numbers n v (refused_from n stop)) → IsReady (action_at (first_actions job.commands n) p) memory
ready_in job numbers n v memory text stop run done p a =
    let is = (in_wave job numbers n v memory text stop run done.bound done.done.within done.stopped p).0 a in
    waves_are_ready job n (wave_of job.commands numbers n) v done.bound p memory run.accepted (rising job numbers n run) done.done is.0 is.1

-- each piece of a wave is ready, and can be fetched
pub wave_ready : (can : Command → Type 0) (job : Job) (numbers : List ℕ) (n v : ℕ) (memory : Memory) (text : List ℕ) (stop : Option Refusal) → CanEach can job.commands n
    → AreRun job.commands numbers n → IsDone job numbers n v memory text stop
    → AreReady can job.commands memory (pieces_below job.commands (refused_from n stop) (commands_of_wave numbers n v))
wave_ready can job numbers n v memory text stop each run done =
    let rec : List Command = job.commands in
    let bound : ℕ = refused_from n stop in
    subst (AreReady can rec memory) (sym (wave_pieces rec numbers n v bound)) (record {
      each = λ piece a.
          let m = map-among (piece_at rec n) piece (numbers_in rec numbers n v bound) a in
          let is = numbers_are rec numbers n v bound m.0 run.within m.1 in
          subst (λ pc. IsPart rec pc × IsReady (piece_action rec pc) memory) (sym m.2) (
            (is_part rec n m.0 run.within is.below).0,
            subst (λ act. IsReady act memory) (action_is rec n m.0 run.within is.below) (ready_in job numbers n v memory text stop run done m.0 m.1),
          );
      can_each = λ piece a.
          let m = map-among (piece_at rec n) piece (numbers_in rec numbers n v bound) a in
          let is = numbers_are rec numbers n v bound m.0 run.within m.1 in
          subst (λ (pc : Piece). can (command_at rec pc.command)) (sym m.2)
          (each (piece_at rec n m.0).command (is_part rec n m.0 run.within is.below).1);
    })

-- none writes what another reads
pub wave_apart : (job : Job) (numbers : List ℕ) (n v bound : ℕ) → AreRun job.commands numbers n → AreApart job.commands (pieces_below job.commands bound (commands_of_wave numbers n v))
wave_apart job numbers n v bound run =
    subst (AreApart job.commands) (sym (wave_pieces job.commands numbers n v bound))
    (each_later-map (piece_at job.commands n) (λ p q. p < q)
    (λ (piece other : Piece). (l : Location) → writes (piece_action job.commands piece) l ≡ true → cover (areas_read (piece_action job.commands other)) l ≡ true → ⊥)
    (numbers_in job.commands numbers n v bound) (numbers_rise job.commands numbers n v bound)
    (λ p q a b less l w r.
    let first = numbers_are job.commands numbers n v bound p run.within a in
    let second = numbers_are job.commands numbers n v bound q run.within b in
    waves_are_free (work_of job n) (wave_of job.commands numbers n) p q l (rising job numbers n run) first.below second.below (first.wave ∙ sym second.wave)
    (λ e. omega (arith, e, less))
    (ReadAfterWrite
    (subst (λ act. writes act l ≡ true) (sym (action_is job.commands n p run.within first.below)) w)
    (subst (λ act. cover (areas_read act) l ≡ true) (sym (action_is job.commands n q run.within second.below)) r))))

-- ---- what is stored

pub later_differ : (ps : List ℕ) → EachLater (λ p q. p < q) ps → AreDistinct ps
later_differ [] rise = tt
later_differ (p ∷ ps) rise = (λ q a e. let l : p < q = rise.0 q a in omega (arith, l, e), later_differ ps rise.1)

pub front_rises : (front : List ℕ) (q : ℕ) (back : List ℕ) → EachLater (λ p r. p < r) (front ++ q ∷ back) → EachLater (λ p r. p < r) front
front_rises [] q back rise = tt
front_rises (p ∷ front) q back rise = (λ r a. rise.0 r (among-append_left r front (q ∷ back) a), front_rises front q back rise.1)

pub front_less : (front : List ℕ) (q : ℕ) (back : List ℕ) → EachLater (λ p r. p < r) (front ++ q ∷ back) → (p : ℕ) → IsAmong p front → p < q
front_less [] q back rise p a = absurd a
front_less (r ∷ front) q back rise p (inl same) =
    let l : r < q = rise.0 q (middle front) in omega (arith, l, same)
  where
    middle : (ps : List ℕ) → IsAmong q (ps ++ q ∷ back)
    middle [] = inl refl
    middle (s ∷ ps) = inr (middle ps)
front_less (r ∷ front) q back rise p (inr later) = front_less front q back rise.1 p later

-- what is below the one behind the front is in the front
pub in_front : (front : List ℕ) (q : ℕ) (back : List ℕ) → EachLater (λ p r. p < r) (front ++ q ∷ back) → (p : ℕ) → p < q → IsAmong p (front ++ q ∷ back) → IsAmong p front
in_front [] q back rise p less (inl same) = absurd (omega (arith, less, same))
in_front [] q back rise p less (inr later) = let l : q < p = rise.0 p later in absurd (omega (arith, less, l))
in_front (r ∷ front) q back rise p less (inl same) = inl same
in_front (r ∷ front) q back rise p less (inr later) = inr (in_front front q back rise.1 p less later)

pub middle_of : (front : List ℕ) (q : ℕ) (back : List ℕ) → IsAmong q (front ++ q ∷ back)
middle_of [] q back = inl refl
middle_of (p ∷ front) q back = inr (middle_of front q back)

pub given_stores : (x : Outcome) → IsGiven x → stores_nothing x ≡ false
given_stores (Gives output) given = refl
given_stores (Breaks fault) given = absurd given
given_stores Undefined given = absurd given
