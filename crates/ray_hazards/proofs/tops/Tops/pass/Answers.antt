use Rattle.ray_rules.specs.Status.{after}
use Rattle.ray_hazards.proofs.Tracing.{tops-kept}
use Rattle.ray_hazards.proofs.tops.Tops.pass.Goals as goal

pub returns-then-may_change_structures : goal.returns-then-may_change_structures
returns-then-may_change_structures c = λ rec starts z n are. c.none.ensures rec starts (after n c.args.command.now z)

pub returns-else-may_change_structures : goal.returns-else-may_change_structures
returns-else-may_change_structures c = λ rec starts z n are.
    tops-kept rec starts z (after n c.args.command.now z) c.args.self.now
    (c.may_change_structures.ensures c.if-may_change_structures.false n z) are
