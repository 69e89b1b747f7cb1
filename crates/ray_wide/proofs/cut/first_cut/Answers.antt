use Rattle.std.proofs.Common.{◌∙◌, ◌++◌, ◌∷◌, [], ap, sym}
use Rattle.ray_wide.specs.Cuts.{nodes_in}
use Rattle.ray_wide.proofs.Subtrees.{is_open}
use Rattle.ray_wide.proofs.Cutting.{cut_first}
use Rattle.ray_wide.proofs.cut.first_cut.Goals as goal

pub returns-in-Inner : goal.returns-in-Inner
returns-in-Inner c =
    let cut = c.push-in-Inner.new.self.items in
    cut_first c.args.tree.now.nodes c.args.top c.in-Inner.left c.in-Inner.right cut
    (is_open c.args.tree.now c.shape.ensures c.args.top c.in-Inner.left c.in-Inner.right c.requires.small (sym c.in-Inner.ensures.value))
    (ap nodes_in (c.push-in-Inner.ensures.items ∙ ap (λ bs. bs ++ (c.branch_of-in-Inner.result ∷ [])) (c.push.ensures.items ∙ ap (λ bs. bs ++ (c.branch_of.result ∷ [])) c.new-cut.ensures))
    ∙ (λ i. c.branch_of.ensures i ∷ c.branch_of-in-Inner.ensures i ∷ []))
