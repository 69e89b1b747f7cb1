-- The last command of a recording, where it reads bytes to show them, breaks no data rule and changes no memory.
use Rattle.std.proofs.Common.{ℕ, zero, suc, ◌≡◌, ◌+◌, ◌-◌, ◌++◌, List, [], ◌∷◌, length, map, take, Bool, true, false, Some, None, Result, Ok, Err, Vec, Global, refl, ap, sym, subst, ◌∙◌, arith, append_assoc, cond}
use Rattle.std.specs.Prelude.{slice_get}
use Rattle.std.proofs.lemmas.Option.{slice_get-get_or}
use Rattle.ray_cmd.specs.declared.command.Command.{Command}
use Rattle.ray_cmd.specs.declared.command.Command.TheVariants as commands
use Rattle.ray_cmd.specs.declared.read_form.ReadForm.{ReadForm}
use Rattle.ray_rules.specs.declared.byte_range.ByteRange.{ByteRange}
use Rattle.ray_rules.specs.Order.{barriers}
use Rattle.ray_rules.specs.Status.{Status, after, at_first}
use Rattle.ray_rules.specs.Verdict.{rule_refusal}
use Rattle.ray_action.specs.Memory.{Location, Memory, nothing_live}
use Rattle.ray_action.specs.Action.{ShowBytes}
use Rattle.ray_action.specs.Clients.{Clients}
use Rattle.ray_action.specs.Outcomes.{Outcome, Gives, Breaks, Undefined, bytes_outcome}
use Rattle.ray_action.specs.Pieces.{Numbered, actions_from, actions_of, command_at, host_action, numbered}
use Rattle.ray_action.specs.Running.{Run, Text, Refused, Unknown, run_from, then_run, unit_after, unit_outcome, with_text}
use Rattle.ray_action.specs.Seeing.{SeenBytes, see}
use Rattle.ray_ready.specs.Accepted.{IsAccepted}
use Rattle.ray_ready.specs.Laws.{first_actions}
use Rattle.ray_ready.proofs.Recording.{runs_known}
use Rattle.ray_permitted.specs.Along.{memory_below, run_below}
use Rattle.ray_permitted.specs.Job.{Job, recorded}
use Rattle.ray_permitted.proofs.Runs.{from_nothing, memory_from, one_later}
use Rattle.ray_permitted.specs.Rules.{BreakNoRule}
use Rattle.ray_exec.specs.declared.run_fault.RunFault.{RunFault}
use Rattle.ray_exec.specs.declared.run_fault.RunFault.TheVariants as faults
use Rattle.ray_exec.specs.Runs.{IsRun}
use Rattle.vkray.specs.declared.request.Request.TheVariants.{RunSelf}
use Rattle.vkray.specs.declared.request.SelfRun.{SelfRun}
use Rattle.vkray.specs.declared.stop.Stop.{Stop}
use Rattle.vkray.specs.Answer.{Ending, ending_of_run, in_place_of_text, ran, refused, run_with}
use Rattle.vkray.specs.Counting.{counts_line, is_read, last_shown_in, quiet_length}
use Rattle.vkray.specs.Tasks.{recorded_task}
use Rattle.vkray.specs.Endings.{Ends, IsCounted, StopsSo, stop_of_run}

-- ---- one action that shows bytes, behind others

-- what is told of a run by a line in place of its text
abbrev pub told : List ℕ → Run → Ending
told line run = in_place_of_text line (ending_of_run run)

with_told : (line text : List ℕ) (run : Run) → told line (with_text text run) ≡ told line run
with_told line text (Text t) = refl
with_told line text (Refused r) = refl
with_told line text Unknown = refl

then_told : (line : List ℕ) (u : Numbered) (x : Outcome) (full part : Run) → ((full ≡ Unknown → ⊥) → told line full ≡ told line part)
    → (then_run u x full ≡ Unknown → ⊥) → told line (then_run u x full) ≡ told line (then_run u x part)
then_told line u (Gives o) full part same known =
    with_told line _ full ∙ (same (λ e. known (ap (with_text _) e)) ∙ sym (with_told line _ part))
then_told line u (Breaks f) full part same known = refl
then_told line u Undefined full part same known = refl

module _ (clients : Clients) (i : ℕ) (from : ByteRange) (form : ReadForm) where
  abbrev shows : Numbered
  shows = numbered i (ShowBytes from form)

  shown : (line : List ℕ) (seen : SeenBytes) → (then_run shows (bytes_outcome seen) (Text []) ≡ Unknown → ⊥) → told line (then_run shows (bytes_outcome seen) (Text [])) ≡ Ok line
  shown line (Some bytes) known = refl
  shown line None known = absurd (known refl)

  tells_the_same : (line : List ℕ) (us : List Numbered) (m : Memory) → (run_from clients m (us ++ shows ∷ []) ≡ Unknown → ⊥)
      → told line (run_from clients m (us ++ shows ∷ [])) ≡ told line (run_from clients m us)
  tells_the_same line [] m known = shown line (see (ShowBytes from form) m) known
  tells_the_same line (u ∷ us) m known =
      then_told line u (unit_outcome clients u m) (run_from clients (unit_after clients u m) (us ++ shows ∷ [])) (run_from clients (unit_after clients u m) us)
      (tells_the_same line us (unit_after clients u m)) known

  -- the memory after all of them
  abbrev after_all : List Numbered → Memory → Memory
  after_all us m = memory_from clients m us (length us)

  leaves_the_same : (us : List Numbered) (m : Memory) → after_all (us ++ shows ∷ []) m ≡ after_all us m
  leaves_the_same [] m = refl
  leaves_the_same (u ∷ us) m =
      one_later clients m u (us ++ shows ∷ []) (length (us ++ shows ∷ []))
      ∙ (leaves_the_same us (unit_after clients u m) ∙ sym (one_later clients m u us (length us)))

-- ---- the last command

-- the last of some commands, and the actions of all
record IsShowing (clients : Clients) (rec : List Command) (k : ℕ) : Type 0 where
  number : ℕ
  from : ByteRange
  form : ReadForm
  are : first_actions rec (k + 1) ≡ first_actions rec k ++ numbered number (ShowBytes from form) ∷ []

one_more : (rec : List Command) (i : ℕ) (z : Status) (cs : List Command) (k buffer offset size : ℕ) (form : ReadForm) → slice_get cs k ≡ Some (commands.Read buffer offset size form)
    → (number : ℕ) × ((actions_from rec i z (take (suc k) cs)) ≡ actions_from rec i z (take k cs) ++ numbered number (host_action (commands.Read buffer offset size form)) ∷ [])
unfolding actions_from actions_of
one_more rec i z [] k buffer offset size form e = absurd cc
one_more rec i z (c ∷ cs) zero buffer offset size form e =
    let is : c ≡ commands.Read buffer offset size form = cc in
    (i, ap (λ d. map (numbered i) (actions_of rec z d) ++ []) is)
one_more rec i z (c ∷ cs) (suc k) buffer offset size form e =
    let rest = one_more rec (i + 1) (after i c z) cs k buffer offset size form e in
    (rest.0, ap (λ us. map (numbered i) (actions_of rec z c) ++ us) rest.1 ∙ sym (append_assoc (map (numbered i) (actions_of rec z c)) _ _))

showing : (clients : Clients) (rec : List Command) (k buffer offset size : ℕ) (form : ReadForm) → slice_get rec k ≡ Some (commands.Read buffer offset size form) → IsShowing clients rec k
unfolding host_action
showing clients rec k buffer offset size form e =
    let is = one_more rec 0 at_first rec k buffer offset size form e in
    let next : suc k ≡ k + 1 = omega arith in
    record {
      number = is.0;
      from = record { buffer = buffer; from = offset; size = size };
      form = form;
      are = subst (λ n. first_actions rec n ≡ first_actions rec k ++ numbered is.0 (ShowBytes (record { buffer = buffer; from = offset; size = size }) form) ∷ []) next is.1;
    }

showing_by : (clients : Clients) (rec : List Command) (k : ℕ) (c : Command) → slice_get rec k ≡ Some c → is_read c ≡ true → IsShowing clients rec k
showing_by clients rec k (commands.Read buffer offset size form) at is = showing clients rec k buffer offset size form at
showing_by clients rec k (commands.Buffer id size usage content) at is = absurd cc
showing_by clients rec k (commands.Structure id kind buffer offset size) at is = absurd cc
showing_by clients rec k (commands.Destroy what id) at is = absurd cc
showing_by clients rec k (commands.Sizes kind counts) at is = absurd cc
showing_by clients rec k commands.Begin at is = absurd cc
showing_by clients rec k commands.End at is = absurd cc
showing_by clients rec k commands.Submit at is = absurd cc
showing_by clients rec k commands.Wait at is = absurd cc
showing_by clients rec k (commands.Update buffer offset content) at is = absurd cc
showing_by clients rec k (commands.Fill buffer offset size value) at is = absurd cc
showing_by clients rec k (commands.Copy src dst regions) at is = absurd cc
showing_by clients rec k (commands.Build infos) at is = absurd cc
showing_by clients rec k (commands.CopyStructure mode src dst) at is = absurd cc
showing_by clients rec k (commands.Serialize src dst form) at is = absurd cc
showing_by clients rec k (commands.Deserialize src dst uses) at is = absurd cc
showing_by clients rec k (commands.Property what structures dst) at is = absurd cc
showing_by clients rec k (commands.Barrier src_stages src_access dst_stages dst_access buffers) at is = absurd cc
showing_by clients rec k (commands.Trace top rays count hits flags mask script) at is = absurd cc

-- ---- the run without it

-- the run of k commands of a job tells the same by a line as that of all, and leaves the same memory
pub record IsEnough (job : Job) (k : ℕ) : Type 0 where
  pub tells : (line : List ℕ) → told line (run_below job (length job.commands)) ≡ told line (run_below job k)
  pub leaves : memory_below job (length job.commands) ≡ memory_below job k

all_but_one : (job : Job) (k : ℕ) → k + 1 ≡ length job.commands → IsAccepted job.commands (length job.commands) → IsShowing job.clients job.commands k → IsEnough job k
all_but_one job k last accepted is =
    let rec : List Command = job.commands in
    let all : first_actions rec (length rec) ≡ first_actions rec k ++ numbered is.number (ShowBytes is.from is.form) ∷ [] = ap (first_actions rec) (sym last) ∙ is.are in
    record {
      tells = λ line.
          ap (λ us. told line (run_from job.clients nothing_live us)) all
          ∙ tells_the_same job.clients is.number is.from is.form line (first_actions rec k) nothing_live
          (λ e. runs_known job.clients rec (length rec) accepted (ap (run_from job.clients nothing_live) all ∙ e));
      leaves =
          sym (from_nothing job.clients (first_actions rec (length rec)) (length (first_actions rec (length rec))))
          ∙ (ap (λ us. memory_from job.clients nothing_live us (length us)) all
          ∙ (leaves_the_same job.clients is.number is.from is.form (first_actions rec k) nothing_live
          ∙ from_nothing job.clients (first_actions rec k) (length (first_actions rec k))));
    }

enough_by : (job : Job) (b : Bool) → is_read (command_at job.commands (length job.commands - 1)) ≡ b → IsAccepted job.commands (length job.commands)
    → IsEnough job (cond b (length job.commands - 1) (length job.commands))
enough_by job false is accepted = record { tells = λ line. refl; leaves = refl }
enough_by job true is accepted = by_length job.commands refl
  where
    by_length : (rec : List Command) → job.commands ≡ rec → IsEnough job (length job.commands - 1)
    by_length [] none = absurd (let never : is_read commands.Begin ≡ true = sym (ap (λ r. is_read (command_at r (length r - 1))) none) ∙ is in cc)
    by_length (c ∷ rec) some =
        let count : length job.commands ≡ suc (length rec) = ap length some in
        all_but_one job (length job.commands - 1) (omega (arith, count)) accepted
        (showing_by job.clients job.commands (length job.commands - 1) (command_at job.commands (length job.commands - 1))
        (slice_get-get_or job.commands (length job.commands - 1) commands.Begin (omega (arith, count))) is)

quiet_is_enough : (job : Job) → IsAccepted job.commands (length job.commands) → IsEnough job (quiet_length job.commands)
quiet_is_enough job accepted = enough_by job (is_read (command_at job.commands (length job.commands - 1))) refl accepted

-- ---- what a self run counts

module _ (by : SelfRun) (rec : List Command) (kept : BreakNoRule (recorded rec) (length rec)) (none : rule_refusal (barriers rec) rec ≡ None) (k : ℕ) (quiet : k ≡ quiet_length rec) where
  enough : IsEnough (recorded rec) k
  enough = subst (IsEnough (recorded rec)) (sym quiet) (quiet_is_enough (recorded rec) kept.accepted)

  -- the line that is told
  abbrev line_in : Memory → List ℕ
  line_in memory = counts_line by.scene.rays (last_shown_in memory rec)

  -- what is told of the run of k commands is the answer
  told_is : (ending : Ending) → told (line_in (memory_below (recorded rec) k)) (run_below (recorded rec) k) ≡ ending → ran (RunSelf by) (recorded_task rec) ≡ ending
  told_is ending is =
      ap (run_with (RunSelf by) (recorded rec)) none
      ∙ (ap (λ m. told (line_in m) (run_below (recorded rec) (length rec))) enough.leaves
      ∙ (enough.tells (line_in (memory_below (recorded rec) k)) ∙ is))

  pub count_ends : (text : List ℕ) (memory : Memory) (r : Result (Vec ℕ Global) Stop) → run_below (recorded rec) k ≡ Text text
      → ((l : Location) → memory l ≡ memory_below (recorded rec) k l) → IsCounted (line_in memory) r → Ends (ran (RunSelf by) (recorded_task rec)) r
  count_ends text memory (Ok line) run left counts =
      let same : memory ≡ memory_below (recorded rec) k = λ i l. left l i in
      told_is (Ok line.items) (ap (told (line_in (memory_below (recorded rec) k))) run ∙ ap Ok (sym (counts ∙ ap line_in same)))
  count_ends text memory (Err stop) run left counts = subst (λ s. StopsSo (ran (RunSelf by) (recorded_task rec)) s) (sym counts) tt

  pub stops : (fault : RunFault) → IsRun (run_below (recorded rec) k) (Err fault) → StopsSo (ran (RunSelf by) (recorded_task rec)) (stop_of_run fault)
  stops (faults.Refused refusal) run = told_is (refused refusal) (ap (told (line_in (memory_below (recorded rec) k))) run)
  stops faults.NoMemory run = tt
