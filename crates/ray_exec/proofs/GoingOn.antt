-- A run in waves is done one wave more, and comes to an end.
use Rattle.std.proofs.Common.{ℕ, ◌≡◌, ◌<◌, ◌≤◌, ◌+◌, ◌++◌, ◌↔◌, inl, inr, List, [], ◌∷◌, length, flat_map, Option, Some, None, refl, ap, sym, subst, ◌∙◌, arith}
use Rattle.ray_schedule.specs.Laws as laws
use Rattle.ray_schedule.specs.Progress.{IsAfterWave, IsDoneTo, IsNewBound, put_each}
use Rattle.ray_schedule.specs.Waves.{AreDistinct, EachLater, IsAmong}
use Rattle.ray_schedule.proofs.Turns.{among-append_left}
use Rattle.ray_schedule.proofs.Waving.{waves_fetch_the_same, waves_go_on, waves_store_apart}
use Rattle.ray_cmd.specs.declared.command.Command.{Command}
use Rattle.ray_cmd.specs.declared.refusal.Refusal.{Refusal}
use Rattle.ray_action.specs.Memory.{Location, Memory}
use Rattle.ray_action.specs.Outcomes.{Fault, Breaks}
use Rattle.ray_action.specs.Pieces.{Numbered}
use Rattle.ray_action.specs.Running.{action_at, number_at, text_with}
use Rattle.ray_ready.specs.Accepted.{refused_from}
use Rattle.ray_ready.specs.Laws.{IsGiven, first_actions}
use Rattle.ray_ready.proofs.Defined.{defined}
use Rattle.ray_permitted.specs.Job.{Job}
use Rattle.ray_permitted.specs.Work.{device_of, stores_nothing, work_of}
use Rattle.ray_permitted.proofs.Fetching.{local_work}
use Rattle.ray_permitted.proofs.Runs.{memory_is}
use Rattle.ray_device.specs.declared.piece.Piece.{Piece}
use Rattle.ray_exec.specs.Progress.{IsDone, IsStopAt, least, wave_of}
use Rattle.ray_exec.specs.Settled.{IsLeftBy, settled}
use Rattle.ray_exec.specs.Waves.{AreRun, commands_of_wave, pieces_below}
use Rattle.ray_exec.proofs.Cutting.{IsCut, IsEnd, Stopped, Whole, cut, numbers_settled, outcome_in, settled_by_number, text_in}
use Rattle.ray_exec.proofs.Numbering.{numbers_are, numbers_in, numbers_rise, wave_pieces}
use Rattle.ray_exec.proofs.OneWave.{front_less, front_rises, given_stores, in_front, in_wave, later_differ, middle_of, ready_in, rising}
use Rattle.ray_exec.proofs.WaveTexts.{wave_text}

pub same-memory : (m n : Memory) → ((l : Location) → m l ≡ n l) → m ≡ n
same-memory m n h = λ i l. h l i

-- what was settled of the pieces of a wave, by the numbers of its actions
by_number : (job : Job) (numbers : List ℕ) (n v : ℕ) (memory later : Memory) (text text_new : List ℕ) (stop met : Option Refusal) → AreRun job.commands numbers n
    → IsLeftBy (settled job.commands job.clients memory (pieces_below job.commands (refused_from n stop) (commands_of_wave numbers n v)) memory text) later text_new met
    → IsLeftBy (numbers_settled job (first_actions job.commands n) memory (numbers_in job.commands numbers n v (refused_from n stop)) memory text) later text_new met
by_number job numbers n v memory later text text_new stop met run left =
    subst (λ s. IsLeftBy s later text_new met)
    (ap (λ pieces. settled job.commands job.clients memory pieces memory text) (wave_pieces job.commands numbers n v (refused_from n stop))
    ∙ settled_by_number job n memory run.within (numbers_in job.commands numbers n v (refused_from n stop))
    (λ q a. (numbers_are job.commands numbers n v (refused_from n stop) q run.within a).below) memory text)
    left

-- the texts of a wave are those of recording order
same_texts : (t s : ℕ → List ℕ) (ps : List ℕ) → ((p : ℕ) → IsAmong p ps → t p ≡ s p) → flat_map t ps ≡ flat_map s ps
same_texts t s [] same = refl
same_texts t s (p ∷ ps) same =
    let rest = same_texts t s ps (λ q a. same q (inr a)) in λ i. same p (inl refl) i ++ rest i

-- ---- the wave is done

-- those in front of the new bound are stored
done_by : (job : Job) (numbers : List ℕ) (n v : ℕ) (memory later : Memory) (bound new : ℕ) (front : List ℕ) → AreRun job.commands numbers n
    → IsDoneTo (work_of job n) (wave_of job.commands numbers n) v bound memory
    → IsNewBound (work_of job n).device (wave_of job.commands numbers n) v bound memory new
    → AreDistinct front → ((p : ℕ) → IsAmong p front ↔ ((p < new) × (wave_of job.commands numbers n p ≡ v)))
    → later ≡ put_each (device_of job (first_actions job.commands n)) (outcome_in job (first_actions job.commands n) memory) front memory
    → IsDoneTo (work_of job n) (wave_of job.commands numbers n) (v + 1) new later
done_by job numbers n v memory later bound new front run done found distinct are is =
    let w = work_of job n in
    let upto : new ≤ bound = found.within in
    let within : bound ≤ w.count = done.within in
    waves_go_on w (local_work job n) (wave_of job.commands numbers n) v bound new memory later (rising job numbers n run) done found
    (subst (IsAfterWave w.device (wave_of job.commands numbers n) v new memory) (sym is)
    (waves_store_apart w (wave_of job.commands numbers n) v new memory front (rising job numbers n run) (omega (arith, upto, within)) distinct are))

-- the whole wave is stored, and the bound stays
whole_bound : (job : Job) (numbers : List ℕ) (n v : ℕ) (memory : Memory) (bound : ℕ) (front : List ℕ)
    → ((p : ℕ) → IsAmong p front ↔ ((p < bound) × (wave_of job.commands numbers n p ≡ v)))
    → ((p : ℕ) → IsAmong p front → IsGiven (outcome_in job (first_actions job.commands n) memory p))
    → IsNewBound (work_of job n).device (wave_of job.commands numbers n) v bound memory bound
whole_bound job numbers n v memory bound front are given = record {
  within = omega arith;
  none_below = λ p l w. given_stores (outcome_in job (first_actions job.commands n) memory p) (given p ((are p).1 (l, w)));
  in_wave = λ l. absurd (omega (arith, l));
  here = λ l. absurd (omega (arith, l));
}

-- it goes up to an action that breaks a data rule
lesser_bound : (job : Job) (numbers : List ℕ) (n v : ℕ) (memory : Memory) (bound q : ℕ) (fault : Fault) (front : List ℕ)
    → (q < bound) × (wave_of job.commands numbers n q ≡ v) → outcome_in job (first_actions job.commands n) memory q ≡ Breaks fault
    → ((p : ℕ) → IsAmong p front ↔ ((p < q) × (wave_of job.commands numbers n p ≡ v)))
    → ((p : ℕ) → IsAmong p front → IsGiven (outcome_in job (first_actions job.commands n) memory p))
    → IsNewBound (work_of job n).device (wave_of job.commands numbers n) v bound memory q
lesser_bound job numbers n v memory bound q fault front is broken are given = record {
  within = let l : q < bound = is.0 in omega (arith, l);
  none_below = λ p l w. given_stores (outcome_in job (first_actions job.commands n) memory p) (given p ((are p).1 (l, w)));
  in_wave = λ l. is.1;
  here = λ l. ap stores_nothing broken;
}

-- the members of the front
front_members : (front : List ℕ) (q : ℕ) (back : List ℕ) (v bound : ℕ) (wave : ℕ → ℕ) → EachLater (λ p r. p < r) (front ++ q ∷ back)
    → ((p : ℕ) → IsAmong p (front ++ q ∷ back) ↔ ((p < bound) × (wave p ≡ v)))
    → (p : ℕ) → IsAmong p front ↔ ((p < q) × (wave p ≡ v))
front_members front q back v bound wave rise are p = (
  λ a. (front_less front q back rise p a, ((are p).0 (among-append_left p front (q ∷ back) a)).1),
  λ is.
      let below : q < bound = ((are q).0 (middle_of front q back)).0 in
      let less : p < q = is.0 in
      in_front front q back rise p is.0 ((are p).1 (omega (arith, less, below), is.1)),
)

-- where no refusal is met
stays : (job : Job) (numbers : List ℕ) (n v : ℕ) (memory : Memory) (text text_new : List ℕ) (stop : Option Refusal) (bound : ℕ) → AreRun job.commands numbers n
    → IsDoneTo (work_of job n) (wave_of job.commands numbers n) v bound memory → IsStopAt job numbers n v bound text stop
    → text_new ≡ text ++ flat_map (text_in job (first_actions job.commands n) memory) (numbers_in job.commands numbers n v (refused_from n stop))
    → IsStopAt job numbers n (v + 1) bound text_new stop
stays job numbers n v memory text text_new None bound run done stopped told_so =
    let us : List Numbered = first_actions job.commands n in
    let qs : List ℕ = numbers_in job.commands numbers n v n in (
      stopped.0,
      told_so
          ∙ ((λ i. stopped.1 i ++ same_texts (text_in job us memory) (λ p. text_with (action_at us p) (laws.outcome_of (work_of job n) p)) qs
          (λ p a.
          let is = (in_wave job numbers n v memory text None run bound done.within stopped p).0 a in
          ap (text_with (action_at us p)) (waves_fetch_the_same (work_of job n) (local_work job n) (wave_of job.commands numbers n) v bound memory (rising job numbers n run) done p is.0 is.1)) i)
          ∙ sym (wave_text job numbers n v run)),
    )
stays job numbers n v memory text text_new (Some refusal) bound run done stopped told_so =
    let earlier : wave_of job.commands numbers n bound < v = stopped.1 in
    (stopped.0, (let l : wave_of job.commands numbers n bound < v + 1 = omega (arith, earlier) in l), stopped.2)

goes_on_to : (job : Job) (numbers : List ℕ) (n v : ℕ) (memory later : Memory) (text text_new : List ℕ) (stop met : Option Refusal) → AreRun job.commands numbers n
    → (done : IsDone job numbers n v memory text stop)
    → (front : List ℕ) → ((p : ℕ) → IsAmong p front → IsGiven (outcome_in job (first_actions job.commands n) memory p))
    → later ≡ put_each (device_of job (first_actions job.commands n)) (outcome_in job (first_actions job.commands n) memory) front memory
    → text_new ≡ text ++ flat_map (text_in job (first_actions job.commands n) memory) front
    → IsEnd job (first_actions job.commands n) memory (numbers_in job.commands numbers n v (refused_from n stop)) front met
    → IsDone job numbers n (v + 1) later text_new (least met stop)
goes_on_to job numbers n v memory later text text_new stop met run done front given memory_is text_is (Whole all none) =
    let qs : List ℕ = numbers_in job.commands numbers n v (refused_from n stop) in
    let are : (p : ℕ) → IsAmong p front ↔ ((p < done.bound) × (wave_of job.commands numbers n p ≡ v)) =
    subst (λ ps. (p : ℕ) → IsAmong p ps ↔ ((p < done.bound) × (wave_of job.commands numbers n p ≡ v))) all
    (in_wave job numbers n v memory text stop run done.bound done.done.within done.stopped) in
    subst (λ m. IsDone job numbers n (v + 1) later text_new (least m stop)) (sym none)
    (record {
      bound = done.bound;
      done = done_by job numbers n v memory later done.bound done.bound front run done.done (whole_bound job numbers n v memory done.bound front are given)
          (later_differ front (subst (EachLater (λ p q. p < q)) all (numbers_rise job.commands numbers n v (refused_from n stop)))) are memory_is;
      stopped = stays job numbers n v memory text text_new stop done.bound run done.done done.stopped
          (subst (λ ps. text_new ≡ text ++ flat_map (text_in job (first_actions job.commands n) memory) ps) (sym all) text_is);
    })
goes_on_to job numbers n v memory later text text_new stop met run done front given memory_is text_is (Stopped q back fault all broken is) =
    let us : List Numbered = first_actions job.commands n in
    let rise : EachLater (λ p r. p < r) (front ++ q ∷ back) = subst (EachLater (λ p r. p < r)) all (numbers_rise job.commands numbers n v (refused_from n stop)) in
    let whole : (p : ℕ) → IsAmong p (front ++ q ∷ back) ↔ ((p < done.bound) × (wave_of job.commands numbers n p ≡ v)) =
    subst (λ ps. (p : ℕ) → IsAmong p ps ↔ ((p < done.bound) × (wave_of job.commands numbers n p ≡ v))) all
    (in_wave job numbers n v memory text stop run done.bound done.done.within done.stopped) in
    let are = front_members front q back v done.bound (wave_of job.commands numbers n) rise whole in
    let here : (q < done.bound) × (wave_of job.commands numbers n q ≡ v) = (whole q).0 (middle_of front q back) in
    let below : q < done.bound = here.0 in
    let within : done.bound ≤ length us = done.done.within in
    let at : wave_of job.commands numbers n q ≡ v = here.1 in
    subst (λ m. IsDone job numbers n (v + 1) later text_new (least m stop)) (sym is)
    (record {
      bound = q;
      done = done_by job numbers n v memory later done.bound q front run done.done (lesser_bound job numbers n v memory done.bound q fault front here broken are given)
          (later_differ front (front_rises front q back rise)) are memory_is;
      stopped = (
        (let l : q < length us = omega (arith, below, within) in l),
        (let l : wave_of job.commands numbers n q < v + 1 = omega (arith, at) in l),
        (
          fault,
          sym (waves_fetch_the_same (work_of job n) (local_work job n) (wave_of job.commands numbers n) v done.bound memory (rising job numbers n run) done.done q here.0 here.1) ∙ broken,
          refl,
        ),
      );
    })

pub goes_on : (job : Job) (numbers : List ℕ) (n v : ℕ) (memory later : Memory) (text text_new : List ℕ) (stop met : Option Refusal) → AreRun job.commands numbers n
    → IsDone job numbers n v memory text stop
    → IsLeftBy (settled job.commands job.clients memory (pieces_below job.commands (refused_from n stop) (commands_of_wave numbers n v)) memory text) later text_new met
    → IsDone job numbers n (v + 1) later text_new (least met stop)
goes_on job numbers n v memory later text text_new stop met run done left =
    let us : List Numbered = first_actions job.commands n in
    let qs : List ℕ = numbers_in job.commands numbers n v (refused_from n stop) in
    let by = by_number job numbers n v memory later text text_new stop met run left in
    let c : IsCut job us memory memory text qs (numbers_settled job us memory qs memory text) =
    cut job us memory qs (λ q a. defined (job.clients (number_at us q)) (action_at us q) memory (ready_in job numbers n v memory text stop run done q a)) memory text in
    goes_on_to job numbers n v memory later text text_new stop met run done c.front c.given
    (same-memory later (numbers_settled job us memory qs memory text).memory by.same_memory ∙ c.memory_is) (by.same_text ∙ c.text_is)
    (subst (IsEnd job us memory qs c.front) (sym by.same_stop) c.end)

-- the pieces that code lists are those of the wave
pub pieces_are : (rec : List Command) (numbers : List ℕ) (n v bound : ℕ) (stop : Option Refusal) (commands : List ℕ) (pieces : List Piece) → commands ≡ commands_of_wave numbers n v
    → bound ≡ refused_from n stop → pieces ≡ pieces_below rec bound commands → pieces ≡ pieces_below rec (refused_from n stop) (commands_of_wave numbers n v)
pieces_are rec numbers n v bound stop commands pieces of_wave below are = are ∙ (λ i. pieces_below rec (below i) (of_wave i))
