-- Recording order in the words of schedules is that of the run, so each permitted schedule comes to the
-- run.
use Rattle.std.proofs.Common.{◌≡◌, ◌<◌, ◌≤◌, ℕ, zero, suc, Bool, true, false, List, [], ◌∷◌, Option, Some, refl, sym, ◌∙◌, ap, arith, length}
use Rattle.std.specs.Prelude.{◌&&◌, not, if◌then◌else◌}
use Rattle.ray_schedule.specs.Events.{Event}
use Rattle.ray_schedule.specs.Units as schedules
use Rattle.ray_schedule.specs.Laws.{MayRun}
use Rattle.ray_schedule.proofs.Whole.{every_schedule}
use Rattle.ray_action.specs.Memory.{Held, Location, Memory, nothing_live}
use Rattle.ray_action.specs.Action.{Action}
use Rattle.ray_action.specs.Clients.{Clients}
use Rattle.ray_action.specs.Outcomes.{Outcome, Gives, Breaks, Undefined}
use Rattle.ray_action.specs.Pieces.{Numbered}
use Rattle.ray_action.specs.Running.{Run, action_at, memory_before, outcome_at, run_from, then_run, unit_after, unit_at, unit_outcome}
use Rattle.ray_action.specs.Storing.{left, writes}
use Rattle.ray_ready.specs.Laws.{first_actions}
use Rattle.ray_permitted.specs.Along.{moment_along, run_along, run_below, run_kept, then_kept}
use Rattle.ray_permitted.specs.Job.{Job}
use Rattle.ray_permitted.specs.Laws.{IsOrderly, OutcomesTellTheRun, RecordingOrderIsTheRun}
use Rattle.ray_permitted.specs.Work.{device_of, stores_nothing, work_of}

-- ---- one memory

either_way : {X : Type 0} (b : Bool) (x : X) → x ≡ (if b then x else x)
either_way true x = refl
either_way false x = refl

-- what a store leaves is the same in both
pub left_same : (a : Action) (x : Outcome) (l : Location) (old : Held l)
    → (if not (stores_nothing x) && writes a l then left a x l old else old) ≡ (if writes a l then left a x l old else old)
left_same a (Gives output) l old = refl
left_same a (Breaks fault) l old = either_way (writes a l) old
left_same a Undefined l old = either_way (writes a l) old

pub memory_is : (job : Job) (units : List Numbered) (p : ℕ)
    → schedules.memory_before (device_of job units) nothing_live p ≡ memory_before job.clients units p
memory_is job units zero = refl
memory_is job units (suc p) =
    let before : Memory = memory_before job.clients units p in
    ap (λ (m : Memory). schedules.put (device_of job units) p (outcome_at job.clients units p m) m) (memory_is job units p)
    ∙ (λ i l. left_same (action_at units p) (outcome_at job.clients units p before) l (before l) i)

pub recording_order_is : RecordingOrderIsTheRun
recording_order_is job n p = memory_is job (first_actions job.commands n) p

-- ---- one run

-- the memory in which action number p stands, from a memory on
abbrev pub memory_from : Clients → Memory → List Numbered → ℕ → Memory
memory_from clients m units zero = m
memory_from clients m units (suc p) = unit_after clients (unit_at units p) (memory_from clients m units p)

pub from_nothing : (clients : Clients) (units : List Numbered) (p : ℕ) → memory_from clients nothing_live units p ≡ memory_before clients units p
from_nothing clients units zero = refl
from_nothing clients units (suc p) = ap (unit_after clients (unit_at units p)) (from_nothing clients units p)

pub one_later : (clients : Clients) (m : Memory) (u : Numbered) (units : List Numbered) (p : ℕ)
    → memory_from clients m (u ∷ units) (suc p) ≡ memory_from clients (unit_after clients u m) units p
one_later clients m u units zero = refl
one_later clients m u units (suc p) = ap (unit_after clients (unit_at units p)) (one_later clients m u units p)

-- where what is kept is what actions compute one after the other, it is their run
kept_run : (clients : Clients) (units : List Numbered) (m : Memory) (kept : ℕ → Option Outcome)
    → ((p : ℕ) → p < length units → kept p ≡ Some (outcome_at clients units p (memory_from clients m units p)))
    → run_kept kept units ≡ run_from clients m units
kept_run clients [] m kept same = refl
kept_run clients (u ∷ units) m kept same =
    let first : kept 0 ≡ Some (unit_outcome clients u m) = same 0 (omega arith) in
    let later = kept_run clients units (unit_after clients u m) (λ p. kept (suc p))
    (λ p less. same (suc p) (omega (arith, less)) ∙ ap (λ x. Some (outcome_at clients units p x)) (one_later clients m u units p)) in
    λ i. then_kept u (first i) (later i)

pub comes_to_the_run : (job : Job) (n : ℕ) (es : List Event) → IsOrderly job n → MayRun (work_of job n) es
    → run_along job n es ≡ run_below job n
unfolding run_along
comes_to_the_run job n es orderly permitted =
    let clients : Clients = job.clients in
    let units : List Numbered = first_actions job.commands n in
    let every = every_schedule (work_of job n) orderly.local orderly.ordered in
    kept_run clients units nothing_live (moment_along job units es).kept
    (λ p less.
    every.outcomes es permitted p less
    ∙ ap (λ m. Some (outcome_at clients units p m)) (memory_is job units p ∙ sym (from_nothing clients units p)))

-- what stores nothing ends a run, whatever comes after it
ends_there : (u : Numbered) (x : Outcome) (later other : Run) → stores_nothing x ≡ true → then_run u x later ≡ then_run u x other
ends_there u (Gives output) later other e = absurd cc
ends_there u (Breaks fault) later other e = refl
ends_there u Undefined later other e = refl

-- so what is kept up to there is enough
kept_to : (clients : Clients) (units : List Numbered) (m : Memory) (kept : ℕ → Option Outcome) (b : ℕ)
    → ((p : ℕ) → p < length units → p ≤ b → kept p ≡ Some (outcome_at clients units p (memory_from clients m units p)))
    → (b < length units → stores_nothing (outcome_at clients units b (memory_from clients m units b)) ≡ true)
    → run_kept kept units ≡ run_from clients m units
kept_to clients [] m kept b same here = refl
kept_to clients (u ∷ units) m kept zero same here =
    let first : kept 0 ≡ Some (unit_outcome clients u m) = same 0 (omega arith) (omega arith) in
    let later : Run = run_kept (λ p. kept (suc p)) units in
    (λ i. then_kept u (first i) later) ∙ ends_there u (unit_outcome clients u m) later (run_from clients (unit_after clients u m) units) (here (omega arith))
kept_to clients (u ∷ units) m kept (suc b) same here =
    let first : kept 0 ≡ Some (unit_outcome clients u m) = same 0 (omega arith) (omega arith) in
    let later = kept_to clients units (unit_after clients u m) (λ p. kept (suc p)) b
    (λ p less upto. same (suc p) (omega (arith, less)) (omega (arith, upto)) ∙ ap (λ x. Some (outcome_at clients units p x)) (one_later clients m u units p))
    (λ less. sym (ap (λ x. stores_nothing (outcome_at clients units b x)) (one_later clients m u units b)) ∙ here (omega (arith, less))) in
    λ i. then_kept u (first i) (later i)

pub outcomes_tell : OutcomesTellTheRun
outcomes_tell job n b kept first same =
    let clients : Clients = job.clients in
    let units : List Numbered = first_actions job.commands n in
    let plain : (p : ℕ) → schedules.memory_before (device_of job units) nothing_live p ≡ memory_from clients nothing_live units p =
    λ p. memory_is job units p ∙ sym (from_nothing clients units p) in
    kept_to clients units nothing_live kept b
    (λ p less upto. same p less upto ∙ ap (λ m. Some (outcome_at clients units p m)) (plain p))
    (λ less. sym (ap (λ m. stores_nothing (outcome_at clients units b m)) (plain b)) ∙ first.here less)
