use Rattle.std.proofs.Common.{◌∙◌, ap, not}
use Rattle.ray_causes.proofs.Going.{goes_on}
use Rattle.ray_grounds.proofs.AtEnd.{not_idle, unfinished}
use Rattle.ray_rules.specs.Hazards.{status_at}
use Rattle.ray_rules.specs.Phases.{is_same_phase}
use Rattle.ray_rules.specs.Status.{Status}
use Rattle.ray_rules.specs.declared.phase.Phase.TheVariants.{Idle}
use Rattle.ray_grounds.proofs.ends.at_end.Goals as goal

pub status_before-requires-clause-go_on : goal.status_before-requires-clause-go_on
status_before-requires-clause-go_on c = goes_on _ _ c.requires.refused

pub returns-clause-is : goal.returns-clause-is
returns-clause-is c =
    unfinished c.args.rec.now c.args.refusal _ _ c.other_than_idle.result c.in_ok-status.ensures c.requires.ends c.phase.ensures c.other_than_idle.ensures.is
    c.other_than_idle.ensures.other

pub returns-clause-told : goal.returns-clause-told
returns-clause-told c =
    c.other_than_idle.ensures.told
    ∙ (ap (λ phase. not (is_same_phase Idle phase))
    (c.phase.ensures ∙ ap (λ (z : Status). z.phase) (c.in_ok-status.ensures ∙ ap (status_at c.args.rec.now) c.requires.ends))
    ∙ not_idle _ _ c.requires.refused c.requires.ends)
