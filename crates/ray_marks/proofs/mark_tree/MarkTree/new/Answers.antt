use Rattle.std.proofs.Common.{length, replicate, sym, ◌∙◌, ap, subst}
use Rattle.ray_marks.specs.Rising.{mark_of}
use Rattle.ray_marks.specs.Tree.{IsOver, marks_of, no_mark}
use Rattle.ray_marks.proofs.Lists.{length-marks_of, over-none, mark_of-none_at}
use Rattle.ray_marks.proofs.mark_tree.MarkTree.new.Goals as goal

pub over-requires : goal.over-requires
over-requires c =
    subst (IsOver c.shape_over-height.result.0 c.args.cells)
    (sym (c.in_ok-nodes.ensures ∙ ap (λ k. replicate k no_mark) c.shape_over-height.ensures.nodes))
    (over-none c.shape_over-height.result.0 c.args.cells c.shape_over-height.ensures.over)

pub returns-clause-cells : goal.returns-clause-cells
returns-clause-cells c =
    ap length c.over.ensures ∙ length-marks_of c.shape_over-height.result.0 c.args.cells c.in_ok-nodes.nodes.items

pub returns-clause-marks : goal.returns-clause-marks
returns-clause-marks c k =
    ap (λ marks. mark_of marks k) c.over.ensures
    ∙ (ap (λ ns. mark_of (marks_of c.shape_over-height.result.0 c.args.cells ns) k)
    (c.in_ok-nodes.ensures ∙ ap (λ k. replicate k no_mark) c.shape_over-height.ensures.nodes)
    ∙ mark_of-none_at c.shape_over-height.result.0 c.args.cells k)
