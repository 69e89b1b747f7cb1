-- A recording that may be run: a buffer is made, filled and shown. So what the laws ask for can be met.
use Rattle.std.proofs.Common.{◌≡◌, ℕ, zero, suc, List, [], ◌∷◌, Some, None, refl, subst}
use Rattle.std.specs.Prelude.{slice_get}
use Rattle.ray_cmd.specs.declared.command.Command.{Command}
use Rattle.ray_cmd.specs.declared.command.Command.TheVariants as commands
use Rattle.ray_cmd.specs.declared.read_form.ReadForm.TheVariants.{Hex}
use Rattle.ray_rules.specs.Buffers.{v2, v3, v30}
use Rattle.ray_rules.specs.Conflicts.{v16}
use Rattle.ray_rules.specs.FlagRules.{v22, v23, v24}
use Rattle.ray_rules.specs.Hazards.{status_at}
use Rattle.ray_rules.specs.Names.{v1}
use Rattle.ray_rules.specs.Phases.{phase_needed, v29}
use Rattle.ray_rules.specs.Shapes.{v7, v8, v9, v10}
use Rattle.ray_rules.specs.Sources.{v13, v14, v15, v17, v18, v20, v21}
use Rattle.ray_rules.specs.Spans.{v4, v5, v12, v31}
use Rattle.ray_rules.specs.Status.{after}
use Rattle.ray_rules.specs.Structures.{v6, v11, v19}
use Rattle.ray_ready.specs.Accepted.{IsAccepted, MayRun}

abbrev pub sample : List Command
sample =
    commands.Buffer 0 64 (record { 0 = 8 }) None ∷ commands.Begin ∷ commands.Fill 0 0 64 7 ∷ commands.End ∷ commands.Submit
    ∷ commands.Wait ∷ commands.Read 0 0 8 Hex ∷ []

some_same : (c d : Command) → Some c ≡ Some d → c ≡ d
some_same c d e = cc

kept_0 : MayRun sample (status_at sample 0) (commands.Buffer 0 64 (record { 0 = 8 }) None)
unfolding v1 v2 v3 v4 v5 v6 v7 v8 v9 v10 v11 v12 v13 v14 v15 v16 v17 v18 v19 v20 v21 v22 v23 v24 v29 v30 v31 phase_needed after
kept_0 = record { rules = (refl, (refl, (refl, (refl, (refl, (refl, (refl, (refl, (refl, (refl, (refl, (refl, (refl, (refl, (refl, (refl, (refl, (refl, (refl, (refl, (refl, (refl, (refl, (refl, (refl, (refl, (refl, (refl, tt)))))))))))))))))))))))))))); sources = refl }

kept_1 : MayRun sample (status_at sample 1) (commands.Begin)
unfolding v1 v2 v3 v4 v5 v6 v7 v8 v9 v10 v11 v12 v13 v14 v15 v16 v17 v18 v19 v20 v21 v22 v23 v24 v29 v30 v31 phase_needed after
kept_1 = record { rules = (refl, (refl, (refl, (refl, (refl, (refl, (refl, (refl, (refl, (refl, (refl, (refl, (refl, (refl, (refl, (refl, (refl, (refl, (refl, (refl, (refl, (refl, (refl, (refl, (refl, (refl, (refl, (refl, tt)))))))))))))))))))))))))))); sources = refl }

kept_2 : MayRun sample (status_at sample 2) (commands.Fill 0 0 64 7)
unfolding v1 v2 v3 v4 v5 v6 v7 v8 v9 v10 v11 v12 v13 v14 v15 v16 v17 v18 v19 v20 v21 v22 v23 v24 v29 v30 v31 phase_needed after
kept_2 = record { rules = (refl, (refl, (refl, (refl, (refl, (refl, (refl, (refl, (refl, (refl, (refl, (refl, (refl, (refl, (refl, (refl, (refl, (refl, (refl, (refl, (refl, (refl, (refl, (refl, (refl, (refl, (refl, (refl, tt)))))))))))))))))))))))))))); sources = refl }

kept_3 : MayRun sample (status_at sample 3) (commands.End)
unfolding v1 v2 v3 v4 v5 v6 v7 v8 v9 v10 v11 v12 v13 v14 v15 v16 v17 v18 v19 v20 v21 v22 v23 v24 v29 v30 v31 phase_needed after
kept_3 = record { rules = (refl, (refl, (refl, (refl, (refl, (refl, (refl, (refl, (refl, (refl, (refl, (refl, (refl, (refl, (refl, (refl, (refl, (refl, (refl, (refl, (refl, (refl, (refl, (refl, (refl, (refl, (refl, (refl, tt)))))))))))))))))))))))))))); sources = refl }

kept_4 : MayRun sample (status_at sample 4) (commands.Submit)
unfolding v1 v2 v3 v4 v5 v6 v7 v8 v9 v10 v11 v12 v13 v14 v15 v16 v17 v18 v19 v20 v21 v22 v23 v24 v29 v30 v31 phase_needed after
kept_4 = record { rules = (refl, (refl, (refl, (refl, (refl, (refl, (refl, (refl, (refl, (refl, (refl, (refl, (refl, (refl, (refl, (refl, (refl, (refl, (refl, (refl, (refl, (refl, (refl, (refl, (refl, (refl, (refl, (refl, tt)))))))))))))))))))))))))))); sources = refl }

kept_5 : MayRun sample (status_at sample 5) (commands.Wait)
unfolding v1 v2 v3 v4 v5 v6 v7 v8 v9 v10 v11 v12 v13 v14 v15 v16 v17 v18 v19 v20 v21 v22 v23 v24 v29 v30 v31 phase_needed after
kept_5 = record { rules = (refl, (refl, (refl, (refl, (refl, (refl, (refl, (refl, (refl, (refl, (refl, (refl, (refl, (refl, (refl, (refl, (refl, (refl, (refl, (refl, (refl, (refl, (refl, (refl, (refl, (refl, (refl, (refl, tt)))))))))))))))))))))))))))); sources = refl }

kept_6 : MayRun sample (status_at sample 6) (commands.Read 0 0 8 Hex)
unfolding v1 v2 v3 v4 v5 v6 v7 v8 v9 v10 v11 v12 v13 v14 v15 v16 v17 v18 v19 v20 v21 v22 v23 v24 v29 v30 v31 phase_needed after
kept_6 = record { rules = (refl, (refl, (refl, (refl, (refl, (refl, (refl, (refl, (refl, (refl, (refl, (refl, (refl, (refl, (refl, (refl, (refl, (refl, (refl, (refl, (refl, (refl, (refl, (refl, (refl, (refl, (refl, (refl, tt)))))))))))))))))))))))))))); sources = refl }

kept_at : (i : ℕ) (c : Command) → slice_get sample i ≡ Some c → MayRun sample (status_at sample i) c
kept_at zero c is = subst (MayRun sample (status_at sample 0)) (some_same (commands.Buffer 0 64 (record { 0 = 8 }) None) c is) kept_0
kept_at (suc zero) c is = subst (MayRun sample (status_at sample 1)) (some_same (commands.Begin) c is) kept_1
kept_at (suc (suc zero)) c is = subst (MayRun sample (status_at sample 2)) (some_same (commands.Fill 0 0 64 7) c is) kept_2
kept_at (suc (suc (suc zero))) c is = subst (MayRun sample (status_at sample 3)) (some_same (commands.End) c is) kept_3
kept_at (suc (suc (suc (suc zero)))) c is = subst (MayRun sample (status_at sample 4)) (some_same (commands.Submit) c is) kept_4
kept_at (suc (suc (suc (suc (suc zero))))) c is = subst (MayRun sample (status_at sample 5)) (some_same (commands.Wait) c is) kept_5
kept_at (suc (suc (suc (suc (suc (suc zero)))))) c is = subst (MayRun sample (status_at sample 6)) (some_same (commands.Read 0 0 8 Hex) c is) kept_6
kept_at (suc (suc (suc (suc (suc (suc (suc n))))))) c is = absurd cc

pub sample_accepted : IsAccepted sample 7
sample_accepted = record { each = λ i c less is. kept_at i c is }
