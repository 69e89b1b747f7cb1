-- The stores of a wave go as far as its first action that breaks a data rule.
use Rattle.std.proofs.Common.{ℕ, ◌≡◌, ◌<◌, ◌≤◌, ◌++◌, inl, inr, List, [], ◌∷◌, length, map, flat_map, Option, Some, None, refl, ap, sym, subst, ◌∙◌, append_assoc, append-nil}
use Rattle.ray_schedule.specs.Progress.{put_each}
use Rattle.ray_schedule.specs.Units as schedules
use Rattle.ray_schedule.specs.Waves.{IsAmong}
use Rattle.ray_cmd.specs.declared.refusal.Refusal.{Refusal}
use Rattle.ray_action.specs.Memory.{Memory}
use Rattle.ray_action.specs.Outcomes.{Fault, Outcome, Gives, Breaks, Undefined, outcome_of}
use Rattle.ray_action.specs.Pieces.{Numbered}
use Rattle.ray_action.specs.Running.{action_at, number_at, outcome_at, refusal_by, text_with}
use Rattle.ray_action.specs.Storing.{put}
use Rattle.ray_ready.specs.Laws.{IsDefined, IsGiven, first_actions}
use Rattle.ray_permitted.specs.Job.{Job}
use Rattle.ray_permitted.specs.Work.{device_of}
use Rattle.ray_permitted.proofs.Runs.{left_same}
use Rattle.ray_device.specs.Pieces.{piece_action}
use Rattle.ray_exec.specs.Settled.{Settled, settled, then_settled}
use Rattle.ray_exec.proofs.Numbering.{action_is, command_is, piece_at}

-- ---- by number

-- the outcome of an action in a memory, and its text
abbrev pub outcome_in : Job → List Numbered → Memory → ℕ → Outcome
outcome_in job us before p = outcome_at job.clients us p before

abbrev pub text_in : Job → List Numbered → Memory → ℕ → List ℕ
text_in job us before p = text_with (action_at us p) (outcome_in job us before p)

-- what actions leave that were stored, as `settled` says it of pieces
abbrev pub numbers_settled : Job → List Numbered → Memory → List ℕ → Memory → List ℕ → Settled
numbers_settled job us before [] memory text = record { memory = memory; text = text; stop = None }
numbers_settled job us before (q ∷ qs) memory text =
    then_settled (number_at us q) (outcome_in job us before q) memory text
    (numbers_settled job us before qs (put (action_at us q) (outcome_in job us before q) memory) (text ++ text_in job us before q))

pub settled_by_number : (job : Job) (n : ℕ) (before : Memory) → n ≤ length job.commands → (qs : List ℕ) → ((q : ℕ) → IsAmong q qs → q < length (first_actions job.commands n))
    → (memory : Memory) (text : List ℕ) → settled job.commands job.clients before (map (piece_at job.commands n) qs) memory text ≡ numbers_settled job (first_actions job.commands n) before qs memory text
settled_by_number job n before within [] below memory text = refl
settled_by_number job n before within (q ∷ qs) below memory text =
    let us : List Numbered = first_actions job.commands n in
    let action : piece_action job.commands (piece_at job.commands n q) ≡ action_at us q = sym (action_is job.commands n q within (below q (inl refl))) in
    let command : (piece_at job.commands n q).command ≡ number_at us q = sym (command_is job.commands n q within (below q (inl refl))) in
    let rest = settled_by_number job n before within qs (λ r a. below r (inr a)) in
    (λ i. then_settled (command i) (outcome_of (job.clients (command i)) (action i) before) memory text
    (settled job.commands job.clients before (map (piece_at job.commands n) qs) (put (action i) (outcome_of (job.clients (command i)) (action i) before) memory)
    (text ++ text_with (action i) (outcome_of (job.clients (command i)) (action i) before))))
    ∙ ap (then_settled (number_at us q) (outcome_in job us before q) memory text)
    (rest (put (action_at us q) (outcome_in job us before q) memory) (text ++ text_in job us before q))

-- ---- the first that breaks a data rule

-- where it ends: at the end of all, or at an action
pub data IsEnd (job : Job) (us : List Numbered) (before : Memory) (qs front : List ℕ) (stop : Option Refusal) : Type 0 where
  Whole : qs ≡ front → stop ≡ None → IsEnd job us before qs front stop
  Stopped : (q : ℕ) (back : List ℕ) (fault : Fault) → qs ≡ front ++ q ∷ back → outcome_in job us before q ≡ Breaks fault
      → stop ≡ Some (refusal_by (number_at us q) fault) → IsEnd job us before qs front stop

-- those in front of it give outputs, which are stored
pub record IsCut (job : Job) (us : List Numbered) (before memory : Memory) (text : List ℕ) (qs : List ℕ) (left : Settled) : Type 0 where
  pub front : List ℕ
  pub given : (p : ℕ) → IsAmong p front → IsGiven (outcome_in job us before p)
  pub memory_is : left.memory ≡ put_each (device_of job us) (outcome_in job us before) front memory
  pub text_is : left.text ≡ text ++ flat_map (text_in job us before) front
  pub end : IsEnd job us before qs front left.stop

more_front : (job : Job) (us : List Numbered) (before : Memory) (q : ℕ) (qs front : List ℕ) (stop : Option Refusal) → IsEnd job us before qs front stop → IsEnd job us before (q ∷ qs) (q ∷ front) stop
more_front job us before q qs front stop (Whole all none) = Whole (ap (λ ps. q ∷ ps) all) none
more_front job us before q qs front stop (Stopped r back fault all broken is) = Stopped r back fault (ap (λ ps. q ∷ ps) all) broken is

put_is : (job : Job) (us : List Numbered) (q : ℕ) (x : Outcome) (m : Memory) → put (action_at us q) x m ≡ schedules.put (device_of job us) q x m
put_is job us q x m = sym (λ i l. left_same (action_at us q) x l (m l) i)

cut_by : (job : Job) (us : List Numbered) (before memory : Memory) (text : List ℕ) (q : ℕ) (qs : List ℕ) (x : Outcome) (later : Settled)
    → outcome_in job us before q ≡ x → IsDefined x
    → IsCut job us before (put (action_at us q) (outcome_in job us before q) memory) (text ++ text_in job us before q) qs later
    → IsCut job us before memory text (q ∷ qs) (then_settled (number_at us q) x memory text later)
cut_by job us before memory text q qs (Gives output) later is defined rest = record {
  front = q ∷ rest.front;
  given = λ p a. elim a [
    | inl same ↦ subst (λ r. IsGiven (outcome_in job us before r)) (sym same) (subst IsGiven (sym is) tt)
    | inr among ↦ rest.given p among
  ];
  memory_is = rest.memory_is ∙ ap (put_each (device_of job us) (outcome_in job us before) rest.front) (put_is job us q (outcome_in job us before q) memory);
  text_is = rest.text_is ∙ append_assoc text (text_in job us before q) (flat_map (text_in job us before) rest.front);
  end = more_front job us before q qs rest.front later.stop rest.end;
}
cut_by job us before memory text q qs (Breaks fault) later is defined rest = record {
  front = [];
  given = λ p a. absurd a;
  memory_is = refl;
  text_is = sym (append-nil text);
  end = Stopped q qs fault refl is refl;
}
cut_by job us before memory text q qs Undefined later is defined rest = absurd defined

pub cut : (job : Job) (us : List Numbered) (before : Memory) (qs : List ℕ) → ((q : ℕ) → IsAmong q qs → IsDefined (outcome_in job us before q))
    → (memory : Memory) (text : List ℕ) → IsCut job us before memory text qs (numbers_settled job us before qs memory text)
cut job us before [] defined memory text = record {
  front = [];
  given = λ p a. absurd a;
  memory_is = refl;
  text_is = sym (append-nil text);
  end = Whole refl refl;
}
cut job us before (q ∷ qs) defined memory text =
    cut_by job us before memory text q qs (outcome_in job us before q)
    (numbers_settled job us before qs (put (action_at us q) (outcome_in job us before q) memory) (text ++ text_in job us before q)) refl (defined q (inl refl))
    (cut job us before qs (λ p a. defined p (inr a)) (put (action_at us q) (outcome_in job us before q) memory) (text ++ text_in job us before q))
