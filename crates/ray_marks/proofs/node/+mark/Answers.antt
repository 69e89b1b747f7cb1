use Rattle.std.proofs.Common.{◌≡◌, ◌+◌, ◌-◌, ◌/◌, List, ◌++◌, length, slice_set, get_or, refl, ◌∙◌, ap, subst, sym, arith}
use Rattle.ray_marks.specs.declared.node.Node.{Node}
use Rattle.ray_marks.specs.Tree.{cells_of, size_of, IsMarked}
use Rattle.ray_marks.proofs.Trees.{split, size-cells, top-set, IsSplit}
use Rattle.ray_marks.proofs.Marking.{all_at, marked-none, marked-all, marked-put}
use Rattle.ray_marks.proofs.node.+mark.Goals as goal

pub returns-then-end-start-clause-marked : goal.returns-then-end-start-clause-marked
returns-then-end-start-clause-marked t c =
    marked-none c.args.height c.args.nodes.now c.args.start c.args.end c.args.value
    (let s = size-cells c.args.height in let e = c.requires.tree.sized in omega arith)

pub returns-then-cells-end : goal.returns-then-cells-end
returns-then-cells-end t c =
    let s = size-cells c.args.height in
    let e = c.requires.tree.sized in
    let new : List Node = slice_set c.args.nodes.now 0 (all_at c.args.value) in
    let (tree, marked) =
    marked-all c.args.height c.args.nodes.now new c.args.end c.args.value c.requires.tree c.requires.rising
    (omega arith) refl
    in
    record {
      marked =
          subst (λ s. IsMarked c.args.height c.args.nodes.now s c.args.end c.args.value new) (sym c.if-start-eq0.true)
          marked;
      tree = tree;
    }

pub mark-requires : goal.mark-requires
mark-requires t c =
    let s : IsSplit c.args.height c.args.nodes.now c.split_at_mut-first.result.0.now c.split_at_mut-first.result.1.now =
    split c.args.height c.args.start c.args.end c.args.nodes.now c.split_at_mut-top.result.1.now _ _ c.requires.tree
    c.if-end-start.false c.if-cells-start.false c.else-start-eq0.either c.split_at_mut-top.ensures.back
    c.split_at_mut-first.ensures.front c.split_at_mut-first.ensures.back
    in
    let e = s.parted.are.part in
    let u = s.up in
    let v = c.requires.rising in
    (omega arith, (s.parted.are.first, omega arith))

pub mark-requires-2 : goal.mark-requires-2
mark-requires-2 t c =
    let s : IsSplit c.args.height c.args.nodes.now c.split_at_mut-first.result.0.now c.split_at_mut-first.result.1.now =
    split c.args.height c.args.start c.args.end c.args.nodes.now c.split_at_mut-top.result.1.now _ _ c.requires.tree
    c.if-end-start.false c.if-cells-start.false c.else-start-eq0.either c.split_at_mut-top.ensures.back
    c.split_at_mut-first.ensures.front c.split_at_mut-first.ensures.back
    in
    let e = s.parted.are.part in
    let u = s.up in
    let v = c.requires.rising in
    (omega arith, (s.parted.are.second, omega arith))

pub returns : goal.returns
returns t c =
    let s : IsSplit c.args.height c.args.nodes.now c.split_at_mut-first.result.0.now c.split_at_mut-first.result.1.now =
    split c.args.height c.args.start c.args.end c.args.nodes.now c.split_at_mut-top.result.1.now _ _ c.requires.tree
    c.if-end-start.false c.if-cells-start.false c.else-start-eq0.either c.split_at_mut-top.ensures.back
    c.split_at_mut-first.ensures.front c.split_at_mut-first.ensures.back
    in
    let e = c.requires.tree.sized in
    let k = size-cells c.args.height in
    let kk = size-cells (c.args.height - 1) in
    let sk = ap size_of s.up in
    let ck = ap cells_of s.up in
    let half : (length c.args.nodes.now / 2 + 1) / 2 ≡ cells_of (c.args.height - 1) = omega arith in
    let from : c.saturating_sub.result ≡ c.args.start - cells_of (c.args.height - 1) =
    c.saturating_sub.ensures ∙ ap (λ n. c.args.start - n) half
    in
    let to : c.saturating_sub-2.result ≡ c.args.end - cells_of (c.args.height - 1) =
    c.saturating_sub-2.ensures ∙ ap (λ n. c.args.end - n) half
    in
    let second :
    IsMarked (c.args.height - 1) c.split_at_mut-first.result.1.now (c.args.start - cells_of (c.args.height - 1))
    (c.args.end - cells_of (c.args.height - 1)) c.args.value c.mark-2.new.nodes =
    subst
    (λ x.
    IsMarked (c.args.height - 1) c.split_at_mut-first.result.1.now (c.args.start - cells_of (c.args.height - 1)) x
    c.args.value c.mark-2.new.nodes) to
    (subst
    (λ x.
    IsMarked (c.args.height - 1) c.split_at_mut-first.result.1.now x c.saturating_sub-2.result c.args.value
    c.mark-2.new.nodes) from c.mark-2.ensures.marked)
    in
    let new : List Node =
    slice_set c.split_at_mut-top.result.0.now 0
    (record {
      whole = (get_or c.split_at_mut-top.result.0.now 0 (record { whole = 0; part = 0 })).whole;
      part = c.args.value;
    })
    ++ (c.mark.new.nodes ++ c.mark-2.new.nodes)
    in
    let (tree, marked) =
    marked-put c.args.height (c.args.height - 1) c.args.nodes.now c.split_at_mut-first.result.0.now
    c.split_at_mut-first.result.1.now c.mark.new.nodes c.mark-2.new.nodes new
    (slice_set c.split_at_mut-top.result.0.now 0
    (record {
      whole = (get_or c.split_at_mut-top.result.0.now 0 (record { whole = 0; part = 0 })).whole;
      part = c.args.value;
    }))
    c.args.start c.args.end c.args.value s.up s.parted c.mark.ensures.tree c.mark-2.ensures.tree
    (record { first = c.mark.ensures.marked; second = second }) c.requires.rising c.if-end-start.false
    (omega arith)
    (top-set c.args.nodes.now c.split_at_mut-top.result.0.now c.args.value (omega arith)
    c.split_at_mut-top.ensures.front) refl
    in
    record { marked = marked; tree = tree }
