use Rattle.std.proofs.Common.{◌≡◌, ◌≤◌, ◌++◌, List, length, take, drop, sym, ◌∙◌, ap, subst, arith}
use Rattle.ray_marks.specs.declared.node.Node.{Node}
use Rattle.ray_marks.specs.Rising.{mark_of, is_marked}
use Rattle.ray_marks.specs.Tree.{IsMarked, IsOver, marks_of, root}
use Rattle.ray_marks.proofs.Lists.{length-marks_of, over-rising, over-marked, whole-slice, IsMarkedOver}
use Rattle.ray_marks.proofs.mark_tree.MarkTree.mark.Goals as goal

pub mark-requires-clause-rising : goal.mark-requires-clause-rising
mark-requires-clause-rising c =
    subst (λ (ns : List Node). (root ns).part ≤ c.args.value) (sym c.as_mut_slice.ensures.value)
    (over-rising c.self.inside.height c.self.inside.cells c.self.inside.nodes.items c.args.value c.self.invariant
    (λ k. let e = ap (λ marks. mark_of marks k) c.self.view_is in let r = c.requires.rising k in omega arith))

-- all that marking leaves
marked :
    (c : goal.After-self-1)
    → IsMarkedOver c.self.inside.height c.self.inside.cells c.self.inside.nodes.items c.args.start c.args.end c.args.value
    c.mark.new.nodes
marked c =
    let cells =
    ap length (sym c.self.view_is)
    ∙ length-marks_of c.self.inside.height c.self.inside.cells c.self.inside.nodes.items
    in
    over-marked c.self.inside.height c.self.inside.cells c.self.inside.nodes.items c.mark.new.nodes c.args.start
    c.args.end c.args.value c.self.invariant (let r = c.requires.inside in omega arith) c.mark.ensures.tree
    (subst
    (λ ns. IsMarked c.self.inside.height ns c.args.start c.args.end c.args.value c.mark.new.nodes)
    c.as_mut_slice.ensures.value c.mark.ensures.marked)

-- the nodes are those of the slice
whole :
    (c : goal.After-self-1)
    → take c.self.inside.nodes.len (c.mark.new.nodes ++ drop (length c.mark.new.nodes) c.self.inside.nodes.items)
    ≡ c.mark.new.nodes
whole c =
    whole-slice c.self.inside.nodes.len c.mark.new.nodes c.self.inside.nodes.items
    (let l = c.as_mut_slice.ensures.len in let a = c.mark.auto.nodes in omega arith)

pub invariant_of-self : goal.invariant_of-self
invariant_of-self c = subst (IsOver c.self.inside.height c.self.inside.cells) (sym (whole c)) (marked c).over

pub returns-clause-marks : goal.returns-clause-marks
returns-clause-marks c k =
    ap (λ ns. mark_of (marks_of c.self.inside.height c.self.inside.cells ns) k) (whole c)
    ∙ ((marked c).marks k ∙ ap (λ marks. is_marked c.args.start c.args.end c.args.value (mark_of marks k) k) c.self.view_is)
