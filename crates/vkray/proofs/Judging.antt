-- What an input ends with whose lines are judged, and that each input has one answer.
use Rattle.std.proofs.Common.{ℕ, ◌≡◌, ◌==◌, ◌<◌, Bool, true, false, List, length, Option, None, Some, Result, Ok, Err, Vec, Global, refl, ap, sym, subst, ◌∙◌, arith}
use Rattle.std.proofs.lemmas.Bool.{eq-eqb}
use Rattle.ray_cmd.specs.declared.command.Command.{Command}
use Rattle.ray_cmd.specs.declared.refusal.Refusal.{Refusal}
use Rattle.ray_cmd.specs.declared.fault.RecordingFault.{RecordingFault}
use Rattle.ray_cmd.specs.declared.fault.RecordingFault.TheVariants as recorded_faults
use Rattle.ray_cmd.specs.Recordings as recordings
use Rattle.ray_cmd.specs.Recordings.{recording_in}
use Rattle.ray_rules.specs.Order.{barriers}
use Rattle.ray_rules.specs.Verdict.{rule_refusal}
use Rattle.ray_action.specs.Running as action
use Rattle.ray_action.specs.Running.{Run, Text, Unknown}
use Rattle.ray_ready.specs.Accepted.{KeepStaticRules, refused_from}
use Rattle.ray_ready.proofs.Unrefused.{unrefused}
use Rattle.ray_inputs.specs.declared.fault.BadInput.{BadInput}
use Rattle.ray_inputs.specs.declared.fault.BadInput.TheVariants as inputs
use Rattle.ray_inputs.specs.Inputs.{Answers, CertifiedCommands, certified_in}
use Rattle.ray_permitted.specs.Along.{run_below}
use Rattle.ray_permitted.specs.Job.{recorded}
use Rattle.ray_exec.specs.declared.run_fault.RunFault.{RunFault}
use Rattle.ray_exec.specs.declared.run_fault.RunFault.TheVariants as faults
use Rattle.ray_exec.specs.Runs.{IsRun}
use Rattle.ray_certify.specs.declared.verdict.Verdict.{Verdict}
use Rattle.ray_certify.specs.declared.verdict.Verdict.TheVariants.{Certified}
use Rattle.ray_certify.specs.Certified.{AreMade, CertifyThemselves, IsRunWith, certificate_lines, certificates_of}
use Rattle.ray_certify.specs.Rays.{TracedRay, ray_count, rays_below}
use Rattle.ray_certify.specs.Verified.{IsVerdict, NameAnswers}
use Rattle.ray_certify.proofs.AsMany.{as_many_lines}
use Rattle.ray_certify.proofs.Themselves.{all_seen, themselves_certified}
use Rattle.ray_certify.proofs.Verdicts.{one_verdict}
use Rattle.vkray.specs.declared.asked.Asked.{Asked}
use Rattle.vkray.specs.declared.asked.Asked.TheVariants as asked
use Rattle.vkray.specs.declared.input_fault.InputFault.TheVariants.{NotJson, BadObject, BadShape, BadTable, BadSubmits, BadCertificates}
use Rattle.vkray.specs.declared.request.Request.{Request}
use Rattle.vkray.specs.declared.request.Request.TheVariants.{Input, Generate, RunSelf}
use Rattle.vkray.specs.declared.stop.Stop.{Stop}
use Rattle.vkray.specs.declared.stop.Stop.TheVariants as stops
use Rattle.vkray.specs.Answer.{Ending, answer_of, ending_of_run, in_place_of_text, ran, refused, refused_before, run_with, runs, with_task}
use Rattle.vkray.specs.Endings.{Ends, EndsBy, EndsTo, IsCertifiedTo, IsCertifyingOf, IsCounted, IsVerifiedTo, StopsBy, StopsSo, is_of_certificates, stop_of_input, stop_of_recording, stop_of_run}
use Rattle.vkray.specs.Judged.{CertifyRays, InPlaceOfText, IsAnswerTo, IsJudgedBy, IsJudgedOf, IsVerifiable}
use Rattle.vkray.specs.Lines.{verdict_line}
use Rattle.vkray.specs.Tasks.{Task, certified_task, recorded_task, task_of_read, task_of_recording}
use Rattle.vkray.proofs.Jobs.{no_text}

-- ---- one answer

one_judged_by : (as_many : Bool) (c : CertifiedCommands) (a b : Ending) → IsJudgedBy as_many c a → IsJudgedBy as_many c b → a ≡ b
one_judged_by true c a b x y =
    x.told
    ∙ (ap (λ v. Ok (verdict_line (length c.certificates) v)) (one_verdict (rays_below (recorded c.commands) (length c.commands)) c.certificates x.verdict y.verdict x.is_it y.is_it)
    ∙ sym y.told)
one_judged_by false c a b x y = x ∙ sym y

one_judged_of : (read : Result CertifiedCommands BadInput) (a b : Ending) → IsJudgedOf read a → IsJudgedOf read b → a ≡ b
one_judged_of (Ok c) a b x y = one_judged_by (length c.certificates == ray_count c.commands (length c.commands)) c a b x y
one_judged_of (Err fault) a b x y = absurd x

one_in_place : (read : Result CertifiedCommands BadInput) (run a b : Ending) → InPlaceOfText read run a → InPlaceOfText read run b → a ≡ b
one_in_place read (Ok text) a b x y = one_judged_of read a b x y
one_in_place read (Err stop) a b x y = x ∙ sym y

-- of `verify`
pub one_verified : (input : List ℕ) (a b : Ending) → IsAnswerTo (Input asked.Verify) input a → IsAnswerTo (Input asked.Verify) input b → a ≡ b
one_verified input a b x y = one_in_place (certified_in input) (answer_of (Input asked.Verify) input) a b x y

-- of a request that runs it is what its run tells
pub as_told : (request : Request) (input : List ℕ) (ending : Ending) → runs request ≡ true → IsAnswerTo request input ending → answer_of request input ≡ ending
as_told (Input (asked.Run workers)) input ending run h = h
as_told (Input asked.Check) input ending run h = h
as_told (Input (asked.Queues workers)) input ending run h = h
as_told (Input asked.Groups) input ending run h = h
as_told (Input asked.Certify) input ending run h = h.is
as_told (Input asked.Verify) input ending run h = absurd cc
as_told (Generate scene) input ending run h = h
as_told (RunSelf by) input ending run h = h

-- ---- what calls end with

by_stop : (ending : Ending) (stop : Stop) → StopsSo ending stop → StopsBy (λ e. ending ≡ e) stop
by_stop ending stops.BadWords h = h
by_stop ending stops.ReadFault h = h
by_stop ending stops.TooLong h = h
by_stop ending (stops.Input fault) h = h
by_stop ending stops.NoMemory h = tt

by_ending : (ending : Ending) (r : Result (Vec ℕ Global) Stop) → Ends ending r → EndsBy (λ e. ending ≡ e) r
by_ending ending (Ok text) h = h
by_ending ending (Err stop) h = by_stop ending stop h

-- of what isn't judged
pub told_ends : (what : Asked) (input : List ℕ) (r : Result (Vec ℕ Global) Stop) → is_of_certificates what ≡ false → Ends (answer_of (Input what) input) r → EndsTo (Input what) input r
told_ends (asked.Run workers) input r unjudged h = by_ending (answer_of (Input (asked.Run workers)) input) r h
told_ends asked.Check input r unjudged h = by_ending (answer_of (Input asked.Check) input) r h
told_ends (asked.Queues workers) input r unjudged h = by_ending (answer_of (Input (asked.Queues workers)) input) r h
told_ends asked.Groups input r unjudged h = by_ending (answer_of (Input asked.Groups) input) r h
told_ends asked.Certify input r unjudged h = absurd cc
told_ends asked.Verify input r unjudged h = absurd cc

-- ---- a recording whose rays are certified

certifying_stop : (rec : List Command) (input : List ℕ) (stop : Stop) → recording_in input ≡ Ok rec → StopsBy (IsCertifyingOf rec) stop → StopsBy (IsAnswerTo (Input asked.Certify) input) stop
unfolding answer_of
certifying_stop rec input stops.BadWords read h = h
certifying_stop rec input stops.ReadFault read h = h
certifying_stop rec input stops.TooLong read h = h
certifying_stop rec input (stops.Input fault) read h = record {
  is = ap (λ x. with_task (ran (Input asked.Certify)) (task_of_recording x)) read ∙ h.is;
  certify = subst (λ x. CertifyRays x (Err (stops.Input fault))) (sym read) tt;
}
certifying_stop rec input stops.NoMemory read h = tt

pub recording_certified : (rec : List Command) (input : List ℕ) (r : Result (Vec ℕ Global) Stop) → recording_in input ≡ Ok rec → IsCertifiedTo rec r → EndsTo (Input asked.Certify) input r
unfolding answer_of
recording_certified rec input (Ok text) read h = record {
  is = ap (λ x. with_task (ran (Input asked.Certify)) (task_of_recording x)) read ∙ h.is;
  certify = subst (λ x. CertifyRays x (Ok text.items)) (sym read) h.certify;
}
recording_certified rec input (Err stop) read h = certifying_stop rec input stop read h

-- one that wasn't read
unread_recording : (input : List ℕ) (fault : RecordingFault) (stop : Stop) → recording_in input ≡ Err fault → task_of_recording (Err fault) ≡ Err stop
    → IsAnswerTo (Input asked.Certify) input (Err stop)
unfolding answer_of
unread_recording input fault stop read is = record {
  is = ap (λ x. with_task (ran (Input asked.Certify)) (task_of_recording x)) read ∙ ap (with_task (ran (Input asked.Certify))) is;
  certify = subst (λ x. CertifyRays x (Err stop)) (sym read) tt;
}

pub uncertified_ends : (input : List ℕ) (fault : RecordingFault) → recordings.Answers (Err fault) (recording_in input) → EndsTo (Input asked.Certify) input (Err (stop_of_recording fault))
uncertified_ends input recorded_faults.NotJson read = unread_recording input recorded_faults.NotJson (stops.Input NotJson) read refl
uncertified_ends input (recorded_faults.BadShape command) read = unread_recording input (recorded_faults.BadShape command) (stops.Input (BadShape command)) read refl
uncertified_ends input recorded_faults.NoMemory read = tt

-- ---- an input with certificates

-- of commands that were read
pub read_ends : (input : List ℕ) (c : CertifiedCommands) (r : Result (Vec ℕ Global) Stop) → certified_in input ≡ Ok c → IsVerifiedTo c r → EndsTo (Input asked.Verify) input r
unfolding answer_of
read_ends input c r read h =
    subst (λ (x : Result CertifiedCommands BadInput). EndsBy (InPlaceOfText x (with_task (ran (Input asked.Verify)) (task_of_read certified_task x))) r) (sym read) h

-- of an input that wasn't
unread : (input : List ℕ) (fault : BadInput) (stop : Stop) → certified_in input ≡ Err fault → task_of_read certified_task (Err fault) ≡ Err stop
    → InPlaceOfText (certified_in input) (answer_of (Input asked.Verify) input) (Err stop)
unfolding answer_of
unread input fault stop read is =
    subst (λ (x : Result CertifiedCommands BadInput). InPlaceOfText x (with_task (ran (Input asked.Verify)) (task_of_read certified_task x)) (Err stop)) (sym read)
    (subst (λ (t : Result Task Stop). InPlaceOfText (Err fault) (with_task (ran (Input asked.Verify)) t) (Err stop)) (sym is) refl)

pub unread_ends : (input : List ℕ) (fault : BadInput) → Answers (Err fault) (certified_in input) → EndsTo (Input asked.Verify) input (Err (stop_of_input fault))
unread_ends input inputs.NotJson read = unread input inputs.NotJson (stops.Input NotJson) read refl
unread_ends input inputs.BadObject read = unread input inputs.BadObject (stops.Input BadObject) read refl
unread_ends input (inputs.BadShape command) read = unread input (inputs.BadShape command) (stops.Input (BadShape command)) read refl
unread_ends input (inputs.BadTable entry) read = unread input (inputs.BadTable entry) (stops.Input (BadTable entry)) read refl
unread_ends input (inputs.BadSubmits entry) read = unread input (inputs.BadSubmits entry) (stops.Input (BadSubmits entry)) read refl
unread_ends input inputs.BadCertificates read = unread input inputs.BadCertificates (stops.Input BadCertificates) read refl
unread_ends input inputs.NoMemory read = tt

-- ---- runs of commands none of which is refused by the rules on them alone

module _ (rec : List Command) (none : rule_refusal (barriers rec) rec ≡ None) where
  -- what is told of the run of all commands
  certify_told : (run : Run) → run_below (recorded rec) (length rec) ≡ run
      → ran (Input asked.Certify) (recorded_task rec) ≡ in_place_of_text (certificates_of (recorded rec)) (ending_of_run run)
  certify_told run is =
      ap (run_with (Input asked.Certify) (recorded rec)) none
      ∙ ap (λ r. in_place_of_text (certificates_of (recorded rec)) (ending_of_run r)) is

  pub certified_ends : (lines : Vec ℕ Global) → IsRunWith (recorded rec) (λ (v : Vec ℕ Global). AreMade (rays_below (recorded rec) (length rec)) v.items) lines
      → IsCertifiedTo rec (Ok lines)
  certified_ends lines h = record { is = certify_told (Text h.text) h.run ∙ ap Ok (sym h.is.lines); certify = h.is.certify }

  pub certify_stops : (fault : RunFault) → IsRun (run_below (recorded rec) (length rec)) (Err fault) → IsCertifiedTo rec (Err (stop_of_run fault))
  certify_stops (faults.Refused refusal) is = record { is = certify_told (action.Refused refusal) is; certify = tt }
  certify_stops faults.NoMemory is = tt

module _ (c : CertifiedCommands) (none : rule_refusal (barriers c.commands) c.commands ≡ None) where
  verify_told : (run : Run) → run_below (recorded c.commands) (length c.commands) ≡ run → ran (Input asked.Verify) (certified_task c) ≡ ending_of_run run
  verify_told run is = ap (run_with (Input asked.Verify) (recorded c.commands)) none ∙ ap ending_of_run is

  -- a verdict on lines, which are as many as rays or aren't
  verdict_by : (as_many : Bool) (verdict : Verdict) → (length c.certificates == ray_count c.commands (length c.commands)) ≡ as_many
      → IsRunWith (recorded c.commands) (IsVerdict (rays_below (recorded c.commands) (length c.commands)) c.certificates) verdict
      → (ending : Ending) → IsJudgedBy as_many c ending → InPlaceOfText (Ok c) (ran (Input asked.Verify) (certified_task c)) ending
  verdict_by as_many verdict test h ending is =
      subst (λ (run : Ending). InPlaceOfText (Ok c) run ending) (sym (verify_told (Text h.text) h.run))
      (subst (λ b. IsJudgedBy b c ending) (sym test) is)

  pub verdict_told : (verdict : Verdict) → (length c.certificates == ray_count c.commands (length c.commands)) ≡ true
      → IsRunWith (recorded c.commands) (IsVerdict (rays_below (recorded c.commands) (length c.commands)) c.certificates) verdict
      → (verdict ≡ Certified → NameAnswers (rays_below (recorded c.commands) (length c.commands)) c.certificates)
      → (r : Result (Vec ℕ Global) Stop) → IsCounted (verdict_line (length c.certificates) verdict) r → IsVerifiedTo c r
  verdict_told verdict test h names (Ok text) counted =
      verdict_by true verdict test h (Ok text.items) (record { verdict = verdict; is_it = h.is; names = names; told = ap Ok counted })
  verdict_told verdict test h names (Err stop) counted =
      subst (StopsBy (InPlaceOfText (Ok c) (ran (Input asked.Verify) (certified_task c)))) (sym counted) tt

  pub lines_bad : (verdict : Verdict) → (length c.certificates == ray_count c.commands (length c.commands)) ≡ false
      → IsRunWith (recorded c.commands) (IsVerdict (rays_below (recorded c.commands) (length c.commands)) c.certificates) verdict
      → IsVerifiedTo c (Err (stops.Input BadCertificates))
  lines_bad verdict test h = verdict_by false verdict test h (Err (stops.Input BadCertificates)) refl

  pub verify_stops : (fault : RunFault) → IsRun (run_below (recorded c.commands) (length c.commands)) (Err fault) → IsVerifiedTo c (Err (stop_of_run fault))
  verify_stops (faults.Refused refusal) is =
      subst (λ (run : Ending). InPlaceOfText (Ok c) run (refused refusal)) (sym (verify_told (action.Refused refusal) is)) refl
  verify_stops faults.NoMemory is = tt

-- of a command that is refused by these rules
in_place_refused : (c : CertifiedCommands) (run : Ending) (r : Result (Vec ℕ Global) Stop) → ((text : List ℕ) → run ≡ Ok text → ⊥) → Ends run r → EndsBy (InPlaceOfText (Ok c) run) r
in_place_refused c (Ok t) r never h = absurd (never t refl)
in_place_refused c (Err stop) (Ok text) never h = absurd cc
in_place_refused c (Err stop) (Err stops.BadWords) never h = h
in_place_refused c (Err stop) (Err stops.ReadFault) never h = h
in_place_refused c (Err stop) (Err stops.TooLong) never h = h
in_place_refused c (Err stop) (Err (stops.Input fault)) never h = sym h
in_place_refused c (Err stop) (Err stops.NoMemory) never h = tt

pub refused_ends : (c : CertifiedCommands) (refusal : Refusal) (r : Result (Vec ℕ Global) Stop) → rule_refusal (barriers c.commands) c.commands ≡ Some refusal
    → Ends (refused_before (recorded c.commands) refusal) r → IsVerifiedTo c r
refused_ends c refusal r some h =
    let run : ran (Input asked.Verify) (certified_task c) ≡ refused_before (recorded c.commands) refusal = ap (run_with (Input asked.Verify) (recorded c.commands)) some in
    subst (λ (e : Ending). EndsBy (InPlaceOfText (Ok c) e) r) (sym run)
    (in_place_refused c (refused_before (recorded c.commands) refusal) r (no_text (run_below (recorded c.commands) refusal.command) refusal) h)

certifying_refused : (rec : List Command) (run : Ending) (r : Result (Vec ℕ Global) Stop) → ran (Input asked.Certify) (recorded_task rec) ≡ run → ((text : List ℕ) → run ≡ Ok text → ⊥)
    → Ends run r → IsCertifiedTo rec r
certifying_refused rec run (Ok text) is never h = absurd (never text.items h)
certifying_refused rec run (Err stops.BadWords) is never h = h
certifying_refused rec run (Err stops.ReadFault) is never h = h
certifying_refused rec run (Err stops.TooLong) is never h = h
certifying_refused rec run (Err (stops.Input fault)) is never h = record { is = is ∙ h; certify = tt }
certifying_refused rec run (Err stops.NoMemory) is never h = tt

pub certify_refused : (rec : List Command) (refusal : Refusal) (r : Result (Vec ℕ Global) Stop) → rule_refusal (barriers rec) rec ≡ Some refusal
    → Ends (refused_before (recorded rec) refusal) r → IsCertifiedTo rec r
certify_refused rec refusal r some h =
    certifying_refused rec (refused_before (recorded rec) refusal) r (ap (run_with (Input asked.Certify) (recorded rec)) some)
    (no_text (run_below (recorded rec) refusal.command) refusal) h

-- ---- what is certified is verified

-- a job none of whose commands is refused came to a text
record ComesToText (rec : List Command) : Type 0 where
  none : rule_refusal (barriers rec) rec ≡ None
  text : List ℕ
  run : run_below (recorded rec) (length rec) ≡ Text text

a_text : (rec : List Command) (line : List ℕ) (run : Run) (text : List ℕ) → in_place_of_text line (ending_of_run run) ≡ Ok text → (t : List ℕ) × (run ≡ Text t)
a_text rec line (Text t) text e = (t, refl)
a_text rec line (action.Refused refusal) text e = absurd cc
a_text rec line Unknown text e = absurd cc

comes_to_text : (rec : List Command) (text : List ℕ) → run_with (Input asked.Certify) (recorded rec) (rule_refusal (barriers rec) rec) ≡ Ok text → ComesToText rec
comes_to_text rec text e = by_refusal (rule_refusal (barriers rec) rec) refl e
  where
    by_refusal : (refusal : Option Refusal) → rule_refusal (barriers rec) rec ≡ refusal → run_with (Input asked.Certify) (recorded rec) refusal ≡ Ok text → ComesToText rec
    by_refusal None is e =
        let run = a_text rec (certificates_of (recorded rec)) (run_below (recorded rec) (length rec)) text e in
        record { none = is; text = run.0; run = run.1 }
    by_refusal (Some refusal) is e = absurd (no_text (run_below (recorded rec) refusal.command) refusal text e)

of_input_read : (other : List ℕ) (c : CertifiedCommands) → certified_in other ≡ Ok c → answer_of (Input asked.Verify) other ≡ ran (Input asked.Verify) (certified_task c)
unfolding answer_of
of_input_read other c read = ap (λ x. with_task (ran (Input asked.Verify)) (task_of_read certified_task x)) read

-- its commands keep the static rules
kept_rules : (rec : List Command) → rule_refusal (barriers rec) rec ≡ None → KeepStaticRules rec (length rec)
kept_rules rec none = record { each = λ i c less is. unrefused (barriers rec) rec i c (subst (λ r. i < refused_from (length rec) r) (sym none) less) is }

pub verifiable : (rec : List Command) (text : List ℕ) → run_with (Input asked.Certify) (recorded rec) (rule_refusal (barriers rec) rec) ≡ Ok text
    → CertifyThemselves (rays_below (recorded rec) (length rec)) → IsVerifiable rec
verifiable rec text told certify other lines are read =
    let c : CertifiedCommands = record { commands = rec; certificates = lines } in
    let rays : List TracedRay = rays_below (recorded rec) (length rec) in
    let run = comes_to_text rec text told in
    let many : length (certificate_lines rays) ≡ ray_count rec (length rec) = as_many_lines (recorded rec) (length rec) run.text (omega arith) (kept_rules rec run.none) run.run in
    let made = themselves_certified rays certify (all_seen (recorded rec) (length rec) many) in
    let verdict : IsVerdict rays lines Certified = subst (λ ls. IsVerdict rays ls Certified) (sym are) made.0 in
    let names : NameAnswers rays lines = subst (NameAnswers rays) (sym are) made.1 in
    subst (λ (x : Result CertifiedCommands BadInput). InPlaceOfText x (answer_of (Input asked.Verify) other) (Ok (verdict_line (length lines) Certified))) (sym read)
    (subst (λ (e : Ending). InPlaceOfText (Ok c) e (Ok (verdict_line (length lines) Certified))) (sym (of_input_read other c read))
    (verdict_by c run.none true Certified (eq-eqb (length lines) (ray_count rec (length rec)) (ap length are ∙ many))
    (record { text = run.text; run = run.run; is = verdict }) (Ok (verdict_line (length lines) Certified))
    (record { verdict = Certified; is_it = verdict; names = λ e. names; told = refl })))

-- ---- which words

pub not_of_certificates : (what : Asked) → (what ≡ asked.Certify → ⊥) → (what ≡ asked.Verify → ⊥) → is_of_certificates what ≡ false
not_of_certificates (asked.Run workers) c v = refl
not_of_certificates asked.Check c v = refl
not_of_certificates (asked.Queues workers) c v = refl
not_of_certificates asked.Groups c v = refl
not_of_certificates asked.Certify c v = absurd (c refl)
not_of_certificates asked.Verify c v = absurd (v refl)
