-- Commands that break no rule: a buffer is filled twice, with a barrier between that is limited to it, and shown. So what the
-- laws ask for can be met.
use Rattle.std.proofs.Common.{◌≡◌, ◌<◌, ℕ, zero, suc, List, [], ◌∷◌, Some, None, refl, subst, arith}
use Rattle.std.specs.Prelude.{slice_get}
use Rattle.ray_cmd.specs.declared.command.Command.{Command}
use Rattle.ray_cmd.specs.declared.command.Command.TheVariants as commands
use Rattle.ray_cmd.specs.declared.read_form.ReadForm.TheVariants.{Hex}
use Rattle.ray_rules.specs.Access.{accesses_of, stage_of}
use Rattle.ray_rules.specs.Buffers.{v2, v3, v30}
use Rattle.ray_rules.specs.Conflicts.{v16}
use Rattle.ray_rules.specs.FlagRules.{is_unsupported, v22, v23, v24}
use Rattle.ray_rules.specs.Hazards.{status_at, v25, v26, v27, v32}
use Rattle.ray_rules.specs.Names.{v1}
use Rattle.ray_rules.specs.Order.{barriers}
use Rattle.ray_rules.specs.Phases.{phase_needed, v29}
use Rattle.ray_rules.specs.Refusals.{AreKept, static_table}
use Rattle.ray_rules.specs.Shapes.{v7, v8, v9, v10}
use Rattle.ray_rules.specs.Sources.{v13, v14, v15, v17, v18, v20, v21}
use Rattle.ray_rules.specs.Spans.{v4, v5, v12, v31}
use Rattle.ray_rules.specs.Status.{after}
use Rattle.ray_rules.specs.Structures.{v6, v11, v19}
use Rattle.ray_rules.specs.Verdict.{hazard_table}
use Rattle.ray_rules.specs.Kinds.{kind_of}
use Rattle.ray_ready.specs.Accepted.{MayRun}
use Rattle.ray_permitted.specs.Job.{recorded}
use Rattle.ray_permitted.specs.Rules.{BreakNoRule}
use Rattle.ray_ready.proofs.Unrefused.{kept_rows}
use Rattle.ray_permitted.proofs.Truth.{same_some}

abbrev pub sample : List Command
sample =
    commands.Buffer 0 4 (record { 0 = 8 }) None
    ∷ commands.Begin
    ∷ commands.Fill 0 0 4 7
    ∷ commands.Barrier (record { 0 = 1 }) (record { 0 = 2 }) (record { 0 = 9 }) (record { 0 = 66 }) (Some (0 ∷ []))
    ∷ commands.Fill 0 0 4 9
    ∷ commands.Barrier (record { 0 = 1 }) (record { 0 = 2 }) (record { 0 = 8 }) (record { 0 = 64 }) None
    ∷ commands.End
    ∷ commands.Submit
    ∷ commands.Wait
    ∷ commands.Read 0 0 4 Hex ∷ []

run_0 : MayRun sample (status_at sample 0) (commands.Buffer 0 4 (record { 0 = 8 }) None)
unfolding v1 v2 v3 v4 v5 v6 v7 v8 v9 v10 v11 v12 v13 v14 v15 v16 v17 v18 v19 v20 v21 v22 v23 v24 v29 v30 v31 phase_needed after is_unsupported
run_0 = record { rules = kept_rows 0 (static_table sample (status_at sample 0) (commands.Buffer 0 4 (record { 0 = 8 }) None)) refl; sources = refl }

run_1 : MayRun sample (status_at sample 1) (commands.Begin)
unfolding v1 v2 v3 v4 v5 v6 v7 v8 v9 v10 v11 v12 v13 v14 v15 v16 v17 v18 v19 v20 v21 v22 v23 v24 v29 v30 v31 phase_needed after is_unsupported
run_1 = record { rules = kept_rows 1 (static_table sample (status_at sample 1) (commands.Begin)) refl; sources = refl }

run_2 : MayRun sample (status_at sample 2) (commands.Fill 0 0 4 7)
unfolding v1 v2 v3 v4 v5 v6 v7 v8 v9 v10 v11 v12 v13 v14 v15 v16 v17 v18 v19 v20 v21 v22 v23 v24 v29 v30 v31 phase_needed after is_unsupported
run_2 = record { rules = kept_rows 2 (static_table sample (status_at sample 2) (commands.Fill 0 0 4 7)) refl; sources = refl }

run_3 : MayRun sample (status_at sample 3) (commands.Barrier (record { 0 = 1 }) (record { 0 = 2 }) (record { 0 = 9 }) (record { 0 = 66 }) (Some (0 ∷ [])))
unfolding v1 v2 v3 v4 v5 v6 v7 v8 v9 v10 v11 v12 v13 v14 v15 v16 v17 v18 v19 v20 v21 v22 v23 v24 v29 v30 v31 phase_needed after is_unsupported
run_3 = record { rules = kept_rows 3 (static_table sample (status_at sample 3) (commands.Barrier (record { 0 = 1 }) (record { 0 = 2 }) (record { 0 = 9 }) (record { 0 = 66 }) (Some (0 ∷ [])))) refl; sources = refl }

run_4 : MayRun sample (status_at sample 4) (commands.Fill 0 0 4 9)
unfolding v1 v2 v3 v4 v5 v6 v7 v8 v9 v10 v11 v12 v13 v14 v15 v16 v17 v18 v19 v20 v21 v22 v23 v24 v29 v30 v31 phase_needed after is_unsupported
run_4 = record { rules = kept_rows 4 (static_table sample (status_at sample 4) (commands.Fill 0 0 4 9)) refl; sources = refl }

run_5 : MayRun sample (status_at sample 5) (commands.Barrier (record { 0 = 1 }) (record { 0 = 2 }) (record { 0 = 8 }) (record { 0 = 64 }) None)
unfolding v1 v2 v3 v4 v5 v6 v7 v8 v9 v10 v11 v12 v13 v14 v15 v16 v17 v18 v19 v20 v21 v22 v23 v24 v29 v30 v31 phase_needed after is_unsupported
run_5 = record { rules = kept_rows 5 (static_table sample (status_at sample 5) (commands.Barrier (record { 0 = 1 }) (record { 0 = 2 }) (record { 0 = 8 }) (record { 0 = 64 }) None)) refl; sources = refl }

run_6 : MayRun sample (status_at sample 6) (commands.End)
unfolding v1 v2 v3 v4 v5 v6 v7 v8 v9 v10 v11 v12 v13 v14 v15 v16 v17 v18 v19 v20 v21 v22 v23 v24 v29 v30 v31 phase_needed after is_unsupported
run_6 = record { rules = kept_rows 6 (static_table sample (status_at sample 6) (commands.End)) refl; sources = refl }

run_7 : MayRun sample (status_at sample 7) (commands.Submit)
unfolding v1 v2 v3 v4 v5 v6 v7 v8 v9 v10 v11 v12 v13 v14 v15 v16 v17 v18 v19 v20 v21 v22 v23 v24 v29 v30 v31 phase_needed after is_unsupported
run_7 = record { rules = kept_rows 7 (static_table sample (status_at sample 7) (commands.Submit)) refl; sources = refl }

run_8 : MayRun sample (status_at sample 8) (commands.Wait)
unfolding v1 v2 v3 v4 v5 v6 v7 v8 v9 v10 v11 v12 v13 v14 v15 v16 v17 v18 v19 v20 v21 v22 v23 v24 v29 v30 v31 phase_needed after is_unsupported
run_8 = record { rules = kept_rows 8 (static_table sample (status_at sample 8) (commands.Wait)) refl; sources = refl }

run_9 : MayRun sample (status_at sample 9) (commands.Read 0 0 4 Hex)
unfolding v1 v2 v3 v4 v5 v6 v7 v8 v9 v10 v11 v12 v13 v14 v15 v16 v17 v18 v19 v20 v21 v22 v23 v24 v29 v30 v31 phase_needed after is_unsupported
run_9 = record { rules = kept_rows 9 (static_table sample (status_at sample 9) (commands.Read 0 0 4 Hex)) refl; sources = refl }

may_run : (i : ℕ) (c : Command) → slice_get sample i ≡ Some c → MayRun sample (status_at sample i) c
may_run zero c is = subst (MayRun sample (status_at sample 0)) (same_some (commands.Buffer 0 4 (record { 0 = 8 }) None) c is) run_0
may_run (suc zero) c is = subst (MayRun sample (status_at sample 1)) (same_some (commands.Begin) c is) run_1
may_run (suc (suc zero)) c is = subst (MayRun sample (status_at sample 2)) (same_some (commands.Fill 0 0 4 7) c is) run_2
may_run (suc (suc (suc zero))) c is = subst (MayRun sample (status_at sample 3)) (same_some (commands.Barrier (record { 0 = 1 }) (record { 0 = 2 }) (record { 0 = 9 }) (record { 0 = 66 }) (Some (0 ∷ []))) c is) run_3
may_run (suc (suc (suc (suc zero)))) c is = subst (MayRun sample (status_at sample 4)) (same_some (commands.Fill 0 0 4 9) c is) run_4
may_run (suc (suc (suc (suc (suc zero))))) c is = subst (MayRun sample (status_at sample 5)) (same_some (commands.Barrier (record { 0 = 1 }) (record { 0 = 2 }) (record { 0 = 8 }) (record { 0 = 64 }) None) c is) run_5
may_run (suc (suc (suc (suc (suc (suc zero)))))) c is = subst (MayRun sample (status_at sample 6)) (same_some (commands.End) c is) run_6
may_run (suc (suc (suc (suc (suc (suc (suc zero))))))) c is = subst (MayRun sample (status_at sample 7)) (same_some (commands.Submit) c is) run_7
may_run (suc (suc (suc (suc (suc (suc (suc (suc zero)))))))) c is = subst (MayRun sample (status_at sample 8)) (same_some (commands.Wait) c is) run_8
may_run (suc (suc (suc (suc (suc (suc (suc (suc (suc zero))))))))) c is = subst (MayRun sample (status_at sample 9)) (same_some (commands.Read 0 0 4 Hex) c is) run_9
may_run (suc (suc (suc (suc (suc (suc (suc (suc (suc (suc n)))))))))) c is = absurd cc

no_hazard : (i : ℕ) → i < 10 → AreKept (hazard_table (barriers sample) sample i)
unfolding v25 v26 v27 v32 stage_of kind_of accesses_of after
no_hazard zero less = kept_rows 0 (hazard_table (barriers sample) sample 0) refl
no_hazard (suc zero) less = kept_rows 1 (hazard_table (barriers sample) sample 1) refl
no_hazard (suc (suc zero)) less = kept_rows 2 (hazard_table (barriers sample) sample 2) refl
no_hazard (suc (suc (suc zero))) less = kept_rows 3 (hazard_table (barriers sample) sample 3) refl
no_hazard (suc (suc (suc (suc zero)))) less = kept_rows 4 (hazard_table (barriers sample) sample 4) refl
no_hazard (suc (suc (suc (suc (suc zero))))) less = kept_rows 5 (hazard_table (barriers sample) sample 5) refl
no_hazard (suc (suc (suc (suc (suc (suc zero)))))) less = kept_rows 6 (hazard_table (barriers sample) sample 6) refl
no_hazard (suc (suc (suc (suc (suc (suc (suc zero))))))) less = kept_rows 7 (hazard_table (barriers sample) sample 7) refl
no_hazard (suc (suc (suc (suc (suc (suc (suc (suc zero)))))))) less = kept_rows 8 (hazard_table (barriers sample) sample 8) refl
no_hazard (suc (suc (suc (suc (suc (suc (suc (suc (suc zero))))))))) less = kept_rows 9 (hazard_table (barriers sample) sample 9) refl
no_hazard (suc (suc (suc (suc (suc (suc (suc (suc (suc (suc n)))))))))) less = absurd (omega (arith, less))

pub sample_breaks_none : BreakNoRule (recorded sample) 10
sample_breaks_none = record { accepted = record { each = λ i c less is. may_run i c is }; hazards = no_hazard }
