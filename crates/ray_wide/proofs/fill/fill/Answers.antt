use Rattle.std.proofs.Common.{◌∙◌, get_or, set, ap, arith}
use Rattle.std.proofs.lemmas.List.{get_or_default}
use Rattle.std.proofs.lemmas.List.Edits.{map_over_more}
use Rattle.ray_wide.specs.Lanes.{filled}
use Rattle.ray_wide.proofs.fill.fill.Goals as goal

pub loop-w-preserved : goal.loop-w-preserved
loop-w-preserved c =
    let ys = c.loop-w.nodes in
    let w = c.loop-w.w in
    let d = c.index-nodes-w.result in
    let node = get_or ys w d in
    ap (λ x. set ys w x) c.refilled.ensures
    ∙ map_over_more (filled c.args.tree.now c.args.tops.now) c.args.nodes.now ys w node (omega arith) c.loop-w.invariant
    (get_or_default ys w d node (omega arith))
