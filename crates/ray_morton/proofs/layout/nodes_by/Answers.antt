use Rattle.std.proofs.Common.{◌∙◌, ◌≤◌, length, sym, subst}
use Rattle.ray_morton.specs.Cuts.{AreSame}
use Rattle.ray_morton.specs.Entries.{Rises}
use Rattle.ray_morton.specs.Planted.{IsTreeOf}
use Rattle.ray_morton.proofs.Numbers.{keys_same}
use Rattle.ray_morton.proofs.layout.nodes_by.Goals as goal

pub nodes_over-requires-clause-few : goal.nodes_over-requires-clause-few
nodes_over-requires-clause-few c =
    subst (λ l. length l ≤ 1048576) (sym (c.deref.ensures.value ∙ c.in_ok-keys.ensures)) c.requires.few

pub nodes_over-requires-clause-rising : goal.nodes_over-requires-clause-rising
nodes_over-requires-clause-rising c = subst Rises (sym (c.deref.ensures.value ∙ c.in_ok-keys.ensures)) c.requires.rising

pub nodes_over-requires-clause-same : goal.nodes_over-requires-clause-same
nodes_over-requires-clause-same c =
    subst (AreSame 60) (sym (c.deref.ensures.value ∙ c.in_ok-keys.ensures)) (keys_same c.args.entries.now)

pub returns : goal.returns
returns c =
    subst (λ l. IsTreeOf l c.in_ok-nodes.nodes.items) (c.deref.ensures.value ∙ c.in_ok-keys.ensures) c.in_ok-nodes.ensures
