-- How a run in waves begins, and what it comes to.
use Rattle.std.proofs.Common.{ℕ, ◌≡◌, ◌<◌, false, List, [], length, Option, Some, None, refl, ap, sym, subst, ◌∙◌, arith}
use Rattle.std.specs.Prelude.{nat_lt}
use Rattle.std.specs.List.{range_with_len}
use Rattle.std.proofs.lemmas.Bool.{le-ltb, lt-ltb}
use Rattle.ray_schedule.specs.Faults.{IsFirstFault}
use Rattle.ray_schedule.specs.Laws as laws
use Rattle.ray_schedule.proofs.Waving.{waves_begin, waves_end}
use Rattle.ray_cmd.specs.declared.refusal.Refusal.{Refusal}
use Rattle.ray_action.specs.Memory.{Location, Memory, nothing_live}
use Rattle.ray_action.specs.Outcomes.{Outcome, Gives, Breaks, Undefined}
use Rattle.ray_action.specs.Pieces.{Numbered}
use Rattle.ray_action.specs.Running as action
use Rattle.ray_action.specs.Running.{Run, Text, number_at}
use Rattle.ray_ready.specs.Laws.{IsGiven, first_actions}
use Rattle.ray_permitted.specs.Along.{memory_below, run_below}
use Rattle.ray_permitted.specs.Job.{Job}
use Rattle.ray_permitted.specs.Work.{stores_nothing, work_of}
use Rattle.ray_permitted.proofs.Runs.{memory_is, outcomes_tell}
use Rattle.ray_exec.specs.Waves.{AreRanked}
use Rattle.ray_exec.specs.Progress.{IsDone, texts, wave_of}
use Rattle.ray_exec.proofs.GoingOn.{same-memory}
use Rattle.ray_exec.proofs.Lists.{among-range, filter_all, filter_none}
use Rattle.ray_exec.proofs.Numbering.{command_is, is_part}
use Rattle.ray_exec.proofs.Telling.{refused, told}

-- ---- the beginning

pub begins : (job : Job) (numbers : List ℕ) (n : ℕ) (memory : Memory) (text : List ℕ) → ((l : Location) → memory l ≡ nothing_live l) → text ≡ []
    → IsDone job numbers n 0 memory text None
begins job numbers n memory text new empty =
    subst (λ m. IsDone job numbers n 0 m text None) (sym (same-memory memory nothing_live new))
    (record {
      bound = length (first_actions job.commands n);
      done = waves_begin (work_of job n) (wave_of job.commands numbers n);
      stopped = (refl, empty ∙ sym (ap (texts job n) (filter_none (λ p. nat_lt (wave_of job.commands numbers n p) 0) (range_with_len 0 (length (first_actions job.commands n))) (λ p a. le-ltb (wave_of job.commands numbers n p) 0 (omega arith)))));
    })

-- ---- all waves

-- all waves are done after as many as there are commands
past : (job : Job) (numbers : List ℕ) (n : ℕ) → AreRanked job.commands numbers n → (p : ℕ) → p < length (first_actions job.commands n) → wave_of job.commands numbers n p < n
past job numbers n ranked p less =
    ranked.short (number_at (first_actions job.commands n) p)
    (subst (λ i. i < n) (sym (command_is job.commands n p ranked.run.within less)) (is_part job.commands n p ranked.run.within less).1)

-- ---- the end

given_from : (x : Outcome) → stores_nothing x ≡ false → IsGiven x
given_from (Gives output) e = tt
given_from (Breaks fault) e = absurd cc
given_from Undefined e = absurd cc

-- the outcomes of all actions, in recording order
abbrev out : Job → ℕ → ℕ → Outcome
out job n p = laws.outcome_of (work_of job n) p

first_fault : (job : Job) (numbers : List ℕ) (n : ℕ) (memory : Memory) (text : List ℕ) (stop : Option Refusal) → AreRanked job.commands numbers n
    → (done : IsDone job numbers n n memory text stop) → IsFirstFault (laws.is_at_fault (work_of job n)) (work_of job n).count done.bound
first_fault job numbers n memory text stop run done =
    (waves_end (work_of job n) (wave_of job.commands numbers n) n done.bound memory (past job numbers n run) done.done).0

given_below : (job : Job) (n b : ℕ) → IsFirstFault (laws.is_at_fault (work_of job n)) (work_of job n).count b → (p : ℕ) → p < b → IsGiven (out job n p)
given_below job n b first p less = given_from (out job n p) (first.none_below p less)

-- a run without a refusal comes to its text
pub ends_in_text : (job : Job) (numbers : List ℕ) (n : ℕ) (memory : Memory) (text : List ℕ) → AreRanked job.commands numbers n
    → IsDone job numbers n n memory text None → run_below job n ≡ Text text
ends_in_text job numbers n memory text run done =
    let us : List Numbered = first_actions job.commands n in
    let all : done.bound ≡ length us = done.stopped.0 in
    let first = first_fault job numbers n memory text None run done in
    sym (outcomes_tell job n done.bound (λ p. Some (out job n p)) first (λ p l u. refl))
    ∙ (told us (out job n) (λ p l. given_below job n done.bound first p (omega (arith, l, all)))
    ∙ ap Text (ap (texts job n) (sym (filter_all (λ p. nat_lt (wave_of job.commands numbers n p) n) (range_with_len 0 (length us))
    (λ p a. let r = (among-range 0 (length us) p a).1 in lt-ltb (wave_of job.commands numbers n p) n (past job numbers n run p (omega (arith, r)))))) ∙ sym done.stopped.1))

-- and leaves the memory of recording order
pub ends_in_memory : (job : Job) (numbers : List ℕ) (n : ℕ) (memory : Memory) (text : List ℕ) → AreRanked job.commands numbers n
    → IsDone job numbers n n memory text None → (l : Location) → memory l ≡ memory_below job n l
ends_in_memory job numbers n memory text run done l =
    (waves_end (work_of job n) (wave_of job.commands numbers n) n done.bound memory (past job numbers n run) done.done).1 done.stopped.0 l
    ∙ (λ i. memory_is job (first_actions job.commands n) (length (first_actions job.commands n)) i l)

-- one with a refusal comes to it
pub ends_refused : (job : Job) (numbers : List ℕ) (n : ℕ) (memory : Memory) (text : List ℕ) (refusal : Refusal) → AreRanked job.commands numbers n
    → IsDone job numbers n n memory text (Some refusal) → run_below job n ≡ action.Refused refusal
ends_refused job numbers n memory text refusal run done =
    let us : List Numbered = first_actions job.commands n in
    let first = first_fault job numbers n memory text (Some refusal) run done in
    let broken = done.stopped.2 in
    sym (outcomes_tell job n done.bound (λ p. Some (out job n p)) first (λ p l u. refl))
    ∙ (refused us (out job n) done.bound broken.0 done.stopped.0 (given_below job n done.bound first) broken.1
    ∙ ap action.Refused (sym broken.2))
