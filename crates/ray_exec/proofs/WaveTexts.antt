-- The text of one wave more, in recording order.
use Rattle.std.proofs.Common.{ℕ, ◌≡◌, ◌<◌, ◌≤◌, ◌+◌, ◌++◌, inl, inr, Bool, true, false, List, [], ◌∷◌, length, filter, cond, refl, ap, sym, subst, ◌∙◌, arith}
use Rattle.std.specs.Prelude.{◌==◌, ◌&&◌, nat_lt, not}
use Rattle.std.specs.Option.{option_map_or}
use Rattle.std.specs.List.{range_with_len}
use Rattle.std.proofs.lemmas.Bool.{cases_eq, lt-ltb}
use Rattle.std.proofs.lemmas.Option.{slice_get-get_or}
use Rattle.ray_schedule.specs.Laws as laws
use Rattle.ray_schedule.specs.Waves.{EachLater, IsAmong}
use Rattle.ray_cmd.specs.declared.command.Command.{Command}
use Rattle.ray_cmd.specs.declared.command.Command.TheVariants as commands
use Rattle.ray_rules.specs.Hazards.{status_at}
use Rattle.ray_rules.specs.declared.kind.Kind.{Kind}
use Rattle.ray_rules.specs.declared.kind.Kind.TheVariants.{Device, Barrier, HostCommand}
use Rattle.ray_rules.specs.Kinds.{is_by_host, kind_of}
use Rattle.ray_rules.specs.Order.{kind_at}
use Rattle.ray_action.specs.Action.{Action}
use Rattle.ray_action.specs.Outcomes.{Outcome, Gives, Breaks, Undefined}
use Rattle.ray_action.specs.Pieces as actions
use Rattle.ray_action.specs.Pieces.{Numbered}
use Rattle.ray_action.specs.Running.{action_at, number_at, text_with}
use Rattle.ray_action.specs.Text.{text_of}
use Rattle.ray_ready.specs.Laws.{first_actions}
use Rattle.ray_permitted.specs.Job.{Job}
use Rattle.ray_permitted.specs.Work.{work_of}
use Rattle.ray_device.specs.Pieces.{is_device}
use Rattle.ray_exec.specs.Progress.{actions_before, texts, wave_of}
use Rattle.ray_exec.specs.Waves.{AreRun, wave_at}
use Rattle.ray_exec.proofs.Lists.{among-range, range-rises}
use Rattle.ray_exec.proofs.Numbering.{action_is, as_many, command_is, commands_rise, is_part, numbers_in, piece_at}
use Rattle.ray_exec.proofs.Silent.{part_silent}
use Rattle.ray_exec.proofs.Telling.{HaveTexts, texts_more}

-- ---- commands of the host come before all later ones

host_kind : (kind : Kind) → not (is_by_host kind) ≡ false → kind ≡ HostCommand
host_kind (Device stage) host = absurd cc
host_kind Barrier host = absurd cc
host_kind HostCommand host = refl

kind_is : (rec : List Command) (i : ℕ) → i < length rec → is_device (actions.command_at rec i) ≡ false → kind_at rec i ≡ HostCommand
kind_is rec i within host =
    ap (λ found. option_map_or kind_of found HostCommand) (slice_get-get_or rec i commands.Begin within) ∙ host_kind (kind_of (actions.command_at rec i)) host

-- ---- which actions have a text

is-true : (b : Bool) → not b ≡ false → b ≡ true
is-true true e = refl
is-true false e = absurd cc

is-false : (b : Bool) → not b ≡ true → b ≡ false
is-false true e = absurd cc
is-false false e = refl

abbrev has_text : List Command → ℕ → ℕ → Bool
has_text rec n p = not (is_device (actions.command_at rec (number_at (first_actions rec n) p)))

abbrev text_of_number : Job → ℕ → ℕ → List ℕ
text_of_number job n p = text_with (action_at (first_actions job.commands n) p) (laws.outcome_of (work_of job n) p)

silent_with : (a : Action) (x : Outcome) → ((o : _) → text_of a o ≡ []) → text_with a x ≡ []
silent_with a (Gives output) silent = silent output
silent_with a (Breaks fault) silent = refl
silent_with a Undefined silent = refl

silent : (job : Job) (n p : ℕ) → n ≤ length job.commands → p < length (first_actions job.commands n) → has_text job.commands n p ≡ false → text_of_number job n p ≡ []
silent job n p within below none =
    let at = command_is job.commands n p within below in
    silent_with (action_at (first_actions job.commands n) p) (laws.outcome_of (work_of job n) p) (λ o.
    ap (λ a. text_of a o) (action_is job.commands n p within below)
    ∙ part_silent job.commands (status_at job.commands (piece_at job.commands n p).command) (actions.command_at job.commands (piece_at job.commands n p).command) (piece_at job.commands n p).part o
    (is-true (is_device (actions.command_at job.commands (piece_at job.commands n p).command)) (ap (λ i. not (is_device (actions.command_at job.commands i))) (sym at) ∙ none)))

later_with : (R S : ℕ → ℕ → Type 0) (ps : List ℕ) → EachLater R ps → ((p q : ℕ) → IsAmong p ps → IsAmong q ps → R p q → S p q) → EachLater S ps
later_with R S [] are carries = tt
later_with R S (p ∷ ps) are carries = (
  λ q a. carries p q (inl refl) (inr a) (are.0 q a),
  later_with R S ps are.1 (λ q r a b e. carries q r (inr a) (inr b) e),
)

have_texts : (job : Job) (numbers : List ℕ) (n : ℕ) → AreRun job.commands numbers n
    → HaveTexts (text_of_number job n) (wave_of job.commands numbers n) (has_text job.commands n) (range_with_len 0 (length (first_actions job.commands n)))
have_texts job numbers n run =
    let us : List Numbered = first_actions job.commands n in
    let within : n ≤ length job.commands = run.within in
    record {
      silent = λ p a none. silent job n p run.within (let r = (among-range 0 (length us) p a).1 in omega (arith, r)) none;
      rise = later_with (λ p q. p < q) (λ p q. has_text job.commands n p ≡ true → has_text job.commands n q ≡ true → wave_of job.commands numbers n p ≤ wave_of job.commands numbers n q)
          (range_with_len 0 (length us)) (range-rises 0 (length us))
          (λ p q a b less first second.
          let inside : q < length us = (let r = (among-range 0 (length us) q b).1 in omega (arith, r)) in
          let before_it : p < length us = omega (arith, less, inside) in
          let i : ℕ = number_at us p in
          let j : ℕ = number_at us q in
          let upto : i ≤ j = commands_rise job.commands n p q run.within less inside in
          elim (cases_eq i j) [
            | inl same ↦ (let e : wave_of job.commands numbers n p ≡ wave_of job.commands numbers n q = ap (wave_at numbers) same in omega (arith, e))
            | inr differs ↦
                (let below : i < n = subst (λ k. k < n) (sym (command_is job.commands n p run.within before_it)) (is_part job.commands n p run.within before_it).1 in
                let above : j < n = subst (λ k. k < n) (sym (command_is job.commands n q run.within inside)) (is_part job.commands n q run.within inside).1 in
                let rises : wave_of job.commands numbers n p < wave_of job.commands numbers n q =
                run.separate.host i j (omega (arith, upto, differs)) above
                (kind_is job.commands i (omega (arith, below, within)) (is-false (is_device (actions.command_at job.commands i)) first)) in
                omega (arith, rises))
          ]);
    }

-- ---- one wave more

filter_agree : (P Q : ℕ → Bool) (ps : List ℕ) → ((p : ℕ) → IsAmong p ps → P p ≡ Q p) → filter P ps ≡ filter Q ps
filter_agree P Q [] same = refl
filter_agree P Q (p ∷ ps) same =
    let rest = filter_agree P Q ps (λ q a. same q (inr a)) in
    λ i. cond (same p (inl refl) i) (p ∷ rest i) (rest i)

-- the numbers of a wave, where no command is beyond the bound
pub whole_wave : (job : Job) (numbers : List ℕ) (n v : ℕ) → n ≤ length job.commands
    → filter (λ p. wave_of job.commands numbers n p == v) (range_with_len 0 (length (first_actions job.commands n))) ≡ numbers_in job.commands numbers n v n
whole_wave job numbers n v within =
    filter_agree (λ p. wave_of job.commands numbers n p == v) (λ p. (wave_at numbers (piece_at job.commands n p).command == v) && nat_lt (piece_at job.commands n p).command n)
    (range_with_len 0 (length (first_actions job.commands n)))
    (λ p a.
    let r = (among-range 0 (length (first_actions job.commands n)) p a).1 in
    let less : p < length (first_actions job.commands n) = omega (arith, r) in
    ap (λ i. wave_at numbers i == v) (command_is job.commands n p within less)
    ∙ both_true (wave_at numbers (piece_at job.commands n p).command == v) (nat_lt (piece_at job.commands n p).command n)
    (lt-ltb (piece_at job.commands n p).command n (is_part job.commands n p within less).1))
    ∙ ap (λ m. filter (λ p. (wave_at numbers (piece_at job.commands n p).command == v) && nat_lt (piece_at job.commands n p).command n) (range_with_len 0 m)) (as_many job.commands n within)
  where
    both_true : (a b : Bool) → b ≡ true → a ≡ (a && b)
    both_true true b e = sym e
    both_true false b e = refl

pub wave_text : (job : Job) (numbers : List ℕ) (n v : ℕ) → AreRun job.commands numbers n
    → texts job n (actions_before job.commands numbers n (v + 1)) ≡ texts job n (actions_before job.commands numbers n v) ++ texts job n (numbers_in job.commands numbers n v n)
wave_text job numbers n v run =
    texts_more (text_of_number job n) (wave_of job.commands numbers n) (has_text job.commands n) v (range_with_len 0 (length (first_actions job.commands n))) (have_texts job numbers n run)
    ∙ ap (λ ps. texts job n (actions_before job.commands numbers n v) ++ texts job n ps) (whole_wave job numbers n v run.within)
