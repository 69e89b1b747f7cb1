-- An action that may be asked for after what was done in turn is ready there.
use Rattle.std.proofs.Common.{◌≡◌, ℕ, true, List, inl, inr, refl, sym, ◌∙◌, ap, subst, arith}
use Rattle.std.specs.Prelude.{◌==◌, ◌||◌}
use Rattle.std.proofs.lemmas.Bool.{eq-eqb, eqb-true, or_cases, or_left, or_right}
use Rattle.ray_schedule.specs.Events.{Event}
use Rattle.ray_schedule.specs.InTurn.{AreInTurn, MayAsk, is_stored, moment_of}
use Rattle.ray_schedule.proofs.Course.{reads_in_order}
use Rattle.ray_schedule.proofs.InTurn.{in_turn, may_fetch_asked}
use Rattle.ray_action.specs.Action.{areas_read}
use Rattle.ray_action.specs.Areas.{cover}
use Rattle.ray_action.specs.Pieces.{Numbered}
use Rattle.ray_action.specs.Running.{action_at, memory_before, outcome_at}
use Rattle.ray_ready.specs.Laws.{AreSources, first_actions}
use Rattle.ray_ready.proofs.Local.{ready_local}
use Rattle.ray_permitted.specs.Laws.{ActionsInTurnAreReady, ActionsInTurnReadTheSame}
use Rattle.ray_permitted.specs.Job.{Job}
use Rattle.ray_permitted.specs.Work.{stores_nothing, work_of}
use Rattle.ray_permitted.proofs.Fetching.{local_work, ready_by_sources}
use Rattle.ray_permitted.proofs.Finding.{given_from}
use Rattle.ray_permitted.proofs.Runs.{memory_is}

pub in_turn_reads : ActionsInTurnReadTheSame
in_turn_reads job n p es done may = λ l reads.
    let w = work_of job n in
    reads_in_order w.device w.start (λ q. is_stored es q ≡ true) (moment_of w es).memory p
    (in_turn w (local_work job n) es done).on.sound (may_fetch_asked w es p may) l reads
    ∙ (λ j. memory_is job (first_actions job.commands n) p j l)

-- what was stored holds what the action rests on
its_sources : (job : Job) (n p : ℕ) (es : List Event) → AreInTurn (work_of job n) es → MayAsk (work_of job n) es p
    → AreSources job.clients (first_actions job.commands n) (λ q. is_stored es q || q == p) p
its_sources job n p es done may =
    let us : List Numbered = first_actions job.commands n in
    let course = in_turn (work_of job n) (local_work job n) es done in
    record {
      closed = λ q r l before upto member w reads.
          or_left (is_stored es q) (q == p)
          (elim (or_cases (is_stored es r) (r == p) member) [
            | inl s ↦ course.closed q r l before (course.were_fetched r s) w (inl reads)
            | inr s ↦
                (let same : r ≡ p = eqb-true r p s in
                may.earlier q l (omega (arith, before, same)) w
                (inl (subst (λ k. cover (areas_read (action_at us k)) l ≡ true) same reads)))
          ]);
      gave = λ q before member. elim (or_cases (is_stored es q) (q == p) member) [
        | inl s ↦
            given_from (outcome_at job.clients us q (memory_before job.clients us q))
            (ap (λ m. stores_nothing (outcome_at job.clients us q m)) (sym (memory_is job us q)) ∙ course.gave q s)
        | inr s ↦ (let same : q ≡ p = eqb-true q p s in absurd (omega (arith, before, same)))
      ];
    }

pub in_turn_ready : ActionsInTurnAreReady
in_turn_ready job n p es accepted done may =
    let us : List Numbered = first_actions job.commands n in
    ready_local (action_at us p) (memory_before job.clients us p) (moment_of (work_of job n) es).memory
    (λ l reads. sym (in_turn_reads job n p es done may l reads))
    (ready_by_sources job.clients job.commands n p (λ q. is_stored es q || q == p) accepted may.below
    (or_right (is_stored es p) (p == p) (eq-eqb p p refl)) (its_sources job n p es done may))
