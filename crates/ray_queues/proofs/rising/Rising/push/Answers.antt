use Rattle.ray_queues.proofs.Reaching.{still-rising}
use Rattle.std.proofs.Common.{subst, sym, List, false, ◌≡◌}
use Rattle.std.specs.Prelude.{is_some}
use Rattle.std.specs.List.{find}
use Rattle.ray_queues.specs.declared.rising.Mark.{Mark}
use Rattle.ray_queues.specs.Marks.{reaches}
use Rattle.ray_queues.proofs.rising.Rising.push.Goals as goal

pub invariant_of-self-2 : goal.invariant_of-self-2
invariant_of-self-2 c =
    let mark = c.args.mark in
    still-rising c.self.inside.list.items c.push.new.self.items mark c.self.invariant
    (subst (λ (ms : List Mark). is_some (find (reaches mark.value) ms) ≡ false) (sym c.self.view_is) c.requires)
    c.in_ok-push.ensures.items
