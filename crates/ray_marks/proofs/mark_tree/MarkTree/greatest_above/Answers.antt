use Rattle.std.proofs.Common.{length, sym, ◌∙◌, ap, subst, arith}
use Rattle.ray_marks.specs.Rising.{IsGreatest}
use Rattle.ray_marks.specs.Tree.{IsGreatestOf}
use Rattle.ray_marks.proofs.Lists.{length-marks_of, over-greatest}
use Rattle.ray_marks.proofs.mark_tree.MarkTree.greatest_above.Goals as goal

pub returns : goal.returns
returns c =
    let cells =
    ap length (sym c.self.view_is) ∙ length-marks_of c.self.inside.height c.self.inside.cells c.self.inside.nodes.items
    in
    subst (λ marks. IsGreatest marks c.args.limit c.args.start c.args.end c.greatest_above.result) c.self.view_is
    (over-greatest c.self.inside.height c.self.inside.cells c.self.inside.nodes.items c.args.limit c.args.start
    c.args.end c.greatest_above.result c.self.invariant (let r = c.requires in omega arith)
    (subst (λ ns. IsGreatestOf c.self.inside.height ns c.args.limit c.args.start c.args.end c.greatest_above.result)
    c.as_slice.ensures.value c.greatest_above.ensures))
