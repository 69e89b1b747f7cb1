use Rattle.ray_rules.specs.Status.{after}
use Rattle.ray_valid.proofs.Staying.{fresh-kept}
use Rattle.ray_valid.proofs.fresh.Fresh.stay.Goals as goal

pub returns-else-may_change_structures : goal.returns-else-may_change_structures
returns-else-may_change_structures c = λ rec z n are.
    fresh-kept rec z (after n c.args.command.now z) c.args.self.now.tops.keys
    (c.may_change_structures.ensures c.if-may_change_structures.false n z) are
