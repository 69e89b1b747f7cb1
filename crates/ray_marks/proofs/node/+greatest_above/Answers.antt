use Rattle.std.proofs.Common.{◌≡◌, ◌+◌, ◌-◌, ◌/◌, length, get_or, max, ◌∙◌, ap, subst, sym, arith}
use Rattle.ray_marks.specs.Tree.{above, cells_of, size_of, IsGreatestOf}
use Rattle.ray_marks.proofs.Trees.{split, size-cells, root-is, IsSplit}
use Rattle.ray_marks.proofs.Asking.{greatest-none, greatest-low, greatest-all, greatest-split}
use Rattle.ray_marks.proofs.node.+greatest_above.Goals as goal

pub returns-then-end-start : goal.returns-then-end-start
returns-then-end-start t c =
    greatest-none c.args.height c.args.nodes.now c.args.limit c.args.start c.args.end
    (let s = size-cells c.args.height in let e = c.requires.sized in omega arith)

pub returns-then-cells-end : goal.returns-then-cells-end
returns-then-cells-end t c =
    let s = size-cells c.args.height in
    let e = c.requires.sized in
    subst
    (λ s.
    IsGreatestOf c.args.height c.args.nodes.now c.args.limit s c.args.end
    (get_or c.args.nodes.now 0 (record { whole = 0; part = 0 })).part) (sym c.if-start-eq0.true)
    (subst (λ g. IsGreatestOf c.args.height c.args.nodes.now c.args.limit 0 c.args.end g) (ap (λ n. n.part) (root-is c.args.nodes.now))
    (greatest-all c.args.height c.args.nodes.now c.args.limit c.args.end c.requires (omega arith) (let r = ap (λ n. n.part) (root-is c.args.nodes.now) in omega arith)))

pub greatest_above-low-requires : goal.greatest_above-low-requires
greatest_above-low-requires t c =
    let s : IsSplit c.args.height c.args.nodes.now c.split_at-2.result.0.now c.split_at-2.result.1.now =
    split c.args.height c.args.start c.args.end c.args.nodes.now c.split_at.result.1.now _ _ c.requires
    c.if-end-start.false c.if-cells-start.false c.else-start-eq0.either c.split_at.ensures.back
    c.split_at-2.ensures.front c.split_at-2.ensures.back
    in
    let u = s.up in
    (omega arith, s.parted.are.first)

pub greatest_above-high-requires : goal.greatest_above-high-requires
greatest_above-high-requires t c =
    let s : IsSplit c.args.height c.args.nodes.now c.split_at-2.result.0.now c.split_at-2.result.1.now =
    split c.args.height c.args.start c.args.end c.args.nodes.now c.split_at.result.1.now _ _ c.requires
    c.if-end-start.false c.if-cells-start.false c.else-start-eq0.either c.split_at.ensures.back
    c.split_at-2.ensures.front c.split_at-2.ensures.back
    in
    let u = s.up in
    (omega arith, s.parted.are.second)

pub returns : goal.returns
returns t c =
    let s : IsSplit c.args.height c.args.nodes.now c.split_at-2.result.0.now c.split_at-2.result.1.now =
    split c.args.height c.args.start c.args.end c.args.nodes.now c.split_at.result.1.now _ _ c.requires
    c.if-end-start.false c.if-cells-start.false c.else-start-eq0.either c.split_at.ensures.back
    c.split_at-2.ensures.front c.split_at-2.ensures.back
    in
    let k = size-cells c.args.height in
    let kk = size-cells (c.args.height - 1) in
    let sk = ap size_of s.up in
    let half : (length c.args.nodes.now / 2 + 1) / 2 ≡ cells_of (c.args.height - 1) =
    let e = c.requires.sized in omega arith
    in
    greatest-split c.args.height c.args.nodes.now c.split_at-2.result.0.now c.split_at-2.result.1.now
    c.args.limit c.args.start c.args.end c.saturating_sub.result c.saturating_sub-2.result c.greatest_above-low.result
    c.greatest_above-high.result c.greater-2.result s
    (c.saturating_sub.ensures ∙ ap (λ n. c.args.start - n) half)
    (c.saturating_sub-2.ensures ∙ ap (λ n. c.args.end - n) half) c.greatest_above-low.ensures c.greatest_above-high.ensures
    c.if-end-start.false (let e = c.requires.sized in omega arith)
    (c.greater-2.ensures
    ∙ (λ i. max ((c.above.ensures ∙ ap (λ n. above c.args.limit n.whole) (sym (root-is c.args.nodes.now))) i) (c.greater.ensures i)))

pub returns-then-nodes-limit : goal.returns-then-nodes-limit
returns-then-nodes-limit t c =
    greatest-low c.args.height c.args.nodes.now c.args.limit c.args.start c.args.end c.requires
    (let r = ap (λ n. n.part) (root-is c.args.nodes.now) in omega arith)
