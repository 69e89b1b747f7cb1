use Rattle.std.proofs.Common.{◌≡◌, ◌∙◌, ◌++◌, length, ap, sym, subst, arith}
use Rattle.std.proofs.lemmas.List.{length-map}
use Rattle.ray_wide.specs.declared.cut.Branch.{Branch}
use Rattle.ray_wide.specs.Wides.{top_at}
use Rattle.ray_wide.specs.Cuts.{IsCut, nodes_in, inners_of, refs_of, eight_of}
use Rattle.ray_wide.proofs.Growing.{grown, less_left, room}
use Rattle.ray_wide.proofs.grow.grow_one.Goals as goal

pub place-requires-clause-room : goal.place-requires-clause-room
place-requires-clause-room c =
    let nodes = c.args.tree.now.nodes in
    let cut = nodes_in c.cut_of-cut.result.items in
    let is_cut : IsCut nodes (top_at c.args.tops.now.items (length c.args.nodes.now.items)) cut =
    subst (λ n. IsCut nodes n cut) c.next_top.ensures c.cut_of-cut.ensures in
    let same : length c.as_slice.result.now ≡ length cut = ap length c.as_slice.ensures.value ∙ sym (length-map c.cut_of-cut.result.items (λ (b : Branch). b.node)) in
    omega (arith, same, room nodes c.args.nodes.now.items c.args.tops.now.items cut c.requires.growing c.requires.some is_cut)

pub returns-clause-growing : goal.returns-clause-growing
returns-clause-growing c =
    let nodes = c.args.tree.now.nodes in
    let cut = nodes_in c.cut_of-cut.result.items in
    let tops = c.args.tops.now.items in
    let is_cut : IsCut nodes (top_at tops (length c.args.nodes.now.items)) cut =
    subst (λ n. IsCut nodes n cut) c.next_top.ensures c.cut_of-cut.ensures in
    let same : nodes_in c.as_slice.result.now ≡ cut = ap nodes_in c.as_slice.ensures.value in
    grown nodes c.args.nodes.now.items c.push.new.self.items tops c.place.new.tops.items cut c.with_children.result
    c.requires.growing c.requires.some is_cut
    (c.with_children.ensures ∙ c.in_ok-children.ensures.children ∙ ap (λ ns. eight_of (refs_of nodes (length tops) ns)) same)
    (c.in_ok-children.ensures.tops ∙ ap (λ ns. tops ++ inners_of nodes ns) same)
    c.in_ok-push.ensures.items

pub returns-clause-less : goal.returns-clause-less
returns-clause-less c =
    let nodes = c.args.tree.now.nodes in
    let cut = nodes_in c.cut_of-cut.result.items in
    let tops = c.args.tops.now.items in
    let is_cut : IsCut nodes (top_at tops (length c.args.nodes.now.items)) cut =
    subst (λ n. IsCut nodes n cut) c.next_top.ensures c.cut_of-cut.ensures in
    let same : nodes_in c.as_slice.result.now ≡ cut = ap nodes_in c.as_slice.ensures.value in
    less_left nodes c.args.nodes.now.items c.push.new.self.items tops c.place.new.tops.items cut c.with_children.result
    c.requires.some is_cut
    (c.in_ok-children.ensures.tops ∙ ap (λ ns. tops ++ inners_of nodes ns) same)
    c.in_ok-push.ensures.items
