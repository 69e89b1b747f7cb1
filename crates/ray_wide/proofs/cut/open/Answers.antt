use Rattle.std.proofs.Common.{rules, ◌≡◌, ◌<◌, length, get_or, sym, subst, arith}
use Rattle.std.proofs.lemmas.List.{length-map}
use Rattle.std.proofs.lemmas.List.Elements.{All-get_or}
use Rattle.ray_wide.specs.declared.cut.Branch.{Branch}
use Rattle.ray_wide.specs.Cuts.{IsCut, IsNode, nodes_in}
use Rattle.ray_wide.proofs.Subtrees.{IsOpen, is_open}
use Rattle.ray_wide.proofs.Cutting.{cut_more}
use Rattle.ray_wide.proofs.cut.open.Goals as goal

pub returns-in-Inner : goal.returns-in-Inner
returns-in-Inner c =
    let nodes = c.args.tree.now.nodes in
    let cut = c.args.cut.now.items in
    let l = c.in-Inner.left in
    let r = c.in-Inner.right in
    let n = c.node_at.result in
    let is_n : n ≡ get_or (nodes_in cut) c.widest-k.result 0 = search rules in
    let small : c.widest-k.result < length cut = search rules in
    let room : length cut < 8 = search rules in
    let inside : n < length nodes =
    subst (IsNode nodes) (sym is_n) (All-get_or (IsNode nodes) (nodes_in cut) c.widest-k.result 0 (omega (arith, length-map cut (λ (b : Branch). b.node))) c.requires.cut.each) in
    subst (λ bs. IsCut nodes c.args._top (nodes_in bs)) (sym c.split.ensures)
    (cut_more nodes c.args._top cut c.widest-k.result l r c.branch_of.result c.branch_of-in-Inner.result small room
    (subst (λ m. IsOpen nodes m l r) is_n (is_open c.args.tree.now c.shape.ensures n l r inside (sym c.in-Inner.ensures.value)))
    c.branch_of.ensures c.branch_of-in-Inner.ensures c.requires.cut)
