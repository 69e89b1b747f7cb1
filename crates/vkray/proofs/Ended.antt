-- What the run of the commands below a refused one ends with is the answer.
use Rattle.std.proofs.Common.{◌≡◌, ◌≤◌, ℕ, Bool, true, false, List, length, Option, Some, None, Result, Vec, Global, refl, ap, subst, ◌∙◌, arith}
use Rattle.ray_cmd.specs.declared.command.Command.{Command}
use Rattle.ray_cmd.specs.declared.refusal.Refusal.{Refusal}
use Rattle.ray_rules.specs.Order.{barriers}
use Rattle.ray_rules.specs.Verdict.{rule_refusal}
use Rattle.ray_action.specs.Clients.{scripts}
use Rattle.ray_action.specs.Running.{Run}
use Rattle.ray_pipe.specs.Tables.{TraceTables, clients}
use Rattle.ray_inputs.specs.Inputs.{TabledCommands}
use Rattle.ray_ready.specs.Accepted.{KeepStaticRules, refused_from}
use Rattle.ray_permitted.specs.Along.{run_below}
use Rattle.ray_permitted.specs.Job.{Job, on_one_queue}
use Rattle.ray_permitted.specs.Laws.{UnrefusedBreakNoRule}
use Rattle.ray_exec.specs.declared.run_fault.RunFault.{RunFault}
use Rattle.ray_exec.specs.Runs.{IsRun}
use Rattle.vkray.specs.declared.asked.Asked.{Asked}
use Rattle.vkray.specs.declared.asked.Asked.TheVariants as asked
use Rattle.vkray.specs.declared.request.Request.TheVariants.{Input}
use Rattle.vkray.specs.declared.stop.Stop.{Stop}
use Rattle.vkray.specs.Answer.{ran, run_with}
use Rattle.vkray.specs.Endings.{Ends, ending_with}
use Rattle.vkray.specs.Tasks.{tabled_task}

-- whether what is asked tells the text of a run, and no certificates in its place
abbrev pub tells_text : Asked → Bool
tells_text (asked.Run workers) = true
tells_text asked.Check = true
tells_text (asked.Queues workers) = true
tells_text asked.Groups = true
tells_text asked.Certify = false
tells_text asked.Verify = true

ended_is : (what : Asked) → tells_text what ≡ true → (job : Job) (refusal : Option Refusal)
    → ending_with (run_below job (refused_from (length job.commands) refusal)) refusal ≡ run_with (Input what) job refusal
ended_is (asked.Run workers) tells job None = refl
ended_is asked.Check tells job None = refl
ended_is (asked.Queues workers) tells job None = refl
ended_is asked.Groups tells job None = refl
ended_is asked.Certify tells job None = absurd cc
ended_is asked.Verify tells job None = refl
ended_is what tells job (Some refusal) = refl

-- what a call ends with that has run the commands of a job below the refused one
pub ends : (what : Asked) → tells_text what ≡ true → (job : Job) (found refusal : Option Refusal) (n : ℕ) → found ≡ refusal → n ≡ refused_from (length job.commands) found
    → (given : Result (Vec ℕ Global) RunFault) → IsRun (run_below job n) given → (r : Result (Vec ℕ Global) Stop)
    → ((is : Run) → IsRun is given → Ends (ending_with is found) r) → Ends (run_with (Input what) job refusal) r
ends what tells job found refusal n same at given run r ended =
    subst (λ e. Ends e r) (ap (λ m. ending_with (run_below job m) found) at ∙ (ended_is what tells job found ∙ ap (run_with (Input what) job) same))
    (ended (run_below job n) run)

-- the same of a recording with tables
pub tabled_ends : (t : TabledCommands) (rec : List Command) (tables : TraceTables) (found : Option Refusal) (n : ℕ) → rec ≡ t.commands → tables ≡ t.tables
    → found ≡ rule_refusal (barriers rec) rec → n ≡ refused_from (length rec) found
    → (given : Result (Vec ℕ Global) RunFault) → IsRun (run_below (on_one_queue rec (clients tables)) n) given → (r : Result (Vec ℕ Global) Stop)
    → ((is : Run) → IsRun is given → Ends (ending_with is found) r) → Ends (ran (Input asked.Groups) (tabled_task t)) r
tabled_ends t rec tables found n commands decided refusal at given run r ended =
    subst (λ (u : TabledCommands). Ends (ran (Input asked.Groups) (tabled_task u)) r) (λ i. record { commands = commands i; tables = decided i })
    (ends asked.Groups refl (on_one_queue rec (clients tables)) found (rule_refusal (barriers rec) rec) n refusal at given run r ended)

-- the commands that it runs keep the static rules
pub keep_rules : (rec : List Command) (found : Option Refusal) (n : ℕ) → UnrefusedBreakNoRule rec → found ≡ rule_refusal (barriers rec) rec
    → n ≡ refused_from (length rec) found → KeepStaticRules rec n
keep_rules rec found n law refusal at =
    let upto : n ≤ refused_from (length rec) (rule_refusal (barriers rec) rec) =
    subst (λ (o : Option Refusal). n ≤ refused_from (length rec) o) refusal (omega (arith, at)) in
    let kept = law (barriers rec) (scripts rec) n upto in
    record { each = λ i command less is. (kept.accepted.each i command less is).rules }
