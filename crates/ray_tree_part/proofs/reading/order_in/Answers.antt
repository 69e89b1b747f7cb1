use Rattle.std.proofs.Common.{◌++◌, ◌∷◌, [], sym, ◌∙◌, arith}
use Rattle.std.proofs.lemmas.List.FromFn.{map-range_with_len_more}
use Rattle.ray_tree_part.specs.TreeParts.{item_of}
use Rattle.ray_tree_part.proofs.reading.order_in.Goals as goal

pub loop-k-preserved : goal.loop-k-preserved
loop-k-preserved c =
    let own = item_of c.args.part.now in
    let n = c.loop-k.k in
    c.in_ok-push.ensures.items
    ∙ (λ i. c.loop-k.invariant i ++ c.item_of.ensures i ∷ [])
    ∙ sym (map-range_with_len_more own 0 n n (omega arith))
