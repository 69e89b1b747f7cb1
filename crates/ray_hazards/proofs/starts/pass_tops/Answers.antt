use Rattle.std.proofs.Common.{sym, subst, ℕ, List}
use Rattle.ray_hazards.specs.Checks.{AreStartedTops}
use Rattle.ray_rules.specs.Status.{after}
use Rattle.ray_hazards.proofs.Tracing.{started-kept, started-none}
use Rattle.ray_hazards.proofs.starts.pass_tops.Goals as goal

pub returns-then-may_change_structures : goal.returns-then-may_change_structures
returns-then-may_change_structures c = λ rec z starts n tops.
    subst (λ (ks : List ℕ). AreStartedTops rec (after n c.args.command.now z) starts ks) (sym c.new.ensures.empty)
    (started-none rec (after n c.args.command.now z) starts)

pub returns-else-may_change_structures : goal.returns-else-may_change_structures
returns-else-may_change_structures c = λ rec z starts n tops.
    started-kept rec z (after n c.args.command.now z) starts c.args.known.now.keys
    (c.may_change_structures.ensures c.if-may_change_structures.false n z) tops
