-- A whole recording that is not refused.
use Rattle.std.proofs.Common.{◌≡◌, ◌≤◌, List, [], ◌∷◌, Option, refl, sym, ◌∙◌, ap, subst, arith, length, take}
use Rattle.ray_cmd.specs.declared.command.Command.{Command}
use Rattle.ray_cmd.specs.declared.refusal.Refusal.{Refusal}
use Rattle.ray_cmd.specs.Sources.{AreSourced}
use Rattle.ray_rules.specs.Order.{barriers}
use Rattle.ray_rules.specs.Status.{at_first}
use Rattle.ray_rules.specs.Verdict.{rule_refusal}
use Rattle.ray_action.specs.Memory.{nothing_live}
use Rattle.ray_action.specs.Pieces.{actions_from}
use Rattle.ray_action.specs.Running.{run_from, run_of}
use Rattle.ray_ready.specs.Accepted.{refused_from}
use Rattle.ray_permitted.specs.Job.{Job, on_one_queue}
use Rattle.ray_permitted.specs.Laws.{RecordingComesToItsRun}
use Rattle.ray_permitted.proofs.Fetching.{runnable_orderly}
use Rattle.ray_permitted.proofs.Refused.{break_no_rule}
use Rattle.ray_permitted.proofs.Runs.{comes_to_the_run}
use Rattle.ray_permitted.proofs.Separating.{barriers_carry, orders_separate}

all_taken : (rec : List Command) → take (length rec) rec ≡ rec
all_taken [] = refl
all_taken (c ∷ rec) = ap (λ cs. c ∷ cs) (all_taken rec)

pub comes_to_its_run : (rec : List Command) → AreSourced rec → RecordingComesToItsRun rec
unfolding run_of
comes_to_its_run rec sourced clients es kept permitted =
    let job : Job = on_one_queue rec clients in
    let all : length rec ≤ refused_from (length rec) (rule_refusal (barriers rec) rec) =
    subst (λ (r : Option Refusal). length rec ≤ refused_from (length rec) r) (sym kept) (omega arith) in
    let runnable = orders_separate job (length rec) (barriers_carry rec) (break_no_rule rec sourced (barriers rec) clients (length rec) all) in
    comes_to_the_run job (length rec) es (runnable_orderly job (length rec) runnable) permitted
    ∙ ap (λ cs. run_from clients nothing_live (actions_from rec 0 at_first cs)) (all_taken rec)
