use Rattle.std.proofs.Common.{ℕ, Option, List, [], ◌≡◌, ◌-◌, ◌<◌, ◌∙◌, ◌+◌, ap, length, subst, sym, take, arith}
use Rattle.std.specs.List.{flat_map}
use Rattle.std.specs.Prelude.{false, slice_index_or}
use Rattle.std.proofs.lemmas.List.Elements.{All-nil}
use Rattle.std.proofs.lemmas.Bool.Decides.{nat_tests}
use Rattle.ray_lanes.specs.declared.lanes.Lanes8.{Lanes8}
use Rattle.ray_lanes.specs.Overlap.{HasBit}
use Rattle.ray_wide.specs.declared.node.WideRef.{WideRef}
use Rattle.ray_wide.specs.declared.node.WideRef.TheVariants as wides
use Rattle.ray_wide.specs.Subtrees.{wide_leaf}
use Rattle.ray_wide.specs.Wides.{child_at, children_in}
use Rattle.ray_nearest.specs.Adding.{AddsNode}
use Rattle.ray_query.specs.Limits.{is_open}
use Rattle.ray_walk.specs.Aims.{AddsThrough, AreLeftOut, AreTrees, HasLane, LeavesOut, entry_through}
use Rattle.ray_geom.specs.declared.ratio.Ratio.{Ratio}
use Rattle.ray_walk.specs.declared.trees.Trees.{Trees}
use Rattle.ray_walk.specs.WideScene.{child}
use Rattle.ray_walk.proofs.LeftOut.{any-default, lane-at}
use Rattle.ray_walk.proofs.Pushing.{Adds-flat, Adds-skip, left-out}
use Rattle.ray_walk.proofs.children.push_children.Goals as goal

-- a child whose bit isn't set is left out
out : (trees : Trees) (w : ℕ) (limit : Option Ratio) (met : ℕ) (cs : List WideRef) → AreTrees trees.tree.now trees.wide.now → w < length trees.wide.now.nodes
    → LeavesOut limit trees w met → cs ≡ children_in trees.wide.now.nodes w
    → (j : ℕ) → j < 8 → (HasBit met j → ⊥) → AreLeftOut limit trees (child trees.level (slice_index_or cs j (wides.Leaf (wide_leaf 0 0 0))))
out trees w limit met cs over node outs cs_is j few clear =
    let nodes = trees.wide.now.nodes in
    let eight = (over.over.collapsed.each w node).eight in
    let at = any-default (children_in nodes w) j wides.Empty (wides.Leaf (wide_leaf 0 0 0)) (omega (arith, eight, few))
    ∙ ap (λ (xs : List WideRef). slice_index_or xs j (wides.Leaf (wide_leaf 0 0 0))) (sym cs_is) in
    subst (λ (b : WideRef). AreLeftOut limit trees (child trees.level b)) at (outs j few clear)

pub push_below-requires-clause-lane : goal.push_below-requires-clause-lane
push_below-requires-clause-lane c =
    let t = c.args.trees.now in
    let nodes = t.wide.now.nodes in
    let w = c.args.w in
    let k = c.loop-k.k in
    let few : k < 8 = (let h = c.loop-k-test.true in grind (arith, nat_tests)) in
    let eight = (c.requires.trees.over.collapsed.each w c.requires.node).eight in
    let full : length c.children-children.result.now ≡ 8 = ap (λ (cs : List WideRef). length cs) c.children-children.ensures ∙ eight in
    let at = any-default (children_in nodes w) k wides.Empty (wides.Leaf (wide_leaf 0 0 0)) (omega (arith, eight, few))
    ∙ ap (λ (cs : List WideRef). slice_index_or cs k (wides.Leaf (wide_leaf 0 0 0))) (sym c.children-children.ensures)
    ∙ any-default c.children-children.result.now k (wides.Leaf (wide_leaf 0 0 0)) _ (omega (arith, full, few))
    ∙ sym c.get-below.ensures in
    subst (λ (b : WideRef). HasLane t.tree.now t.wide.now c.lanes-lanes.result.now k b) at
    (subst (λ (l : Lanes8). HasLane t.tree.now t.wide.now l k (child_at (children_in nodes w) k)) (sym c.lanes-lanes.ensures)
    (lane-at t.tree.now t.wide.now c.requires.trees w k c.requires.node few))

pub loop-k-init : goal.loop-k-init
loop-k-init c =
    let t = c.args.trees.now in
    let w = c.args.w in
    let children = c.children-children.result.now in
    let first : ℕ = c.next_bit-k.result in
    let most = c.next_bit-k.ensures.most in
    let full : length children ≡ 8 = ap (λ (cs : List WideRef). length cs) c.children-children.ensures ∙ (c.requires.trees.over.collapsed.each w c.requires.node).eight in
    record {
      most = most;
      so_far = subst (λ n. AddsThrough c.args.limit t (flat_map (child t.level) (take n children)) c.args.turns.now c.args.turns.now) (omega arith)
          (Adds-skip t c.args.limit children (wides.Leaf (wide_leaf 0 0 0)) c.args.turns.now c.args.turns.now 0 first (omega (arith, full, most))
          (λ j after below. out t w c.args.limit c.args.met children c.requires.trees c.requires.node c.requires.out c.children-children.ensures
          j (omega (arith, below, most)) (c.next_bit-k.ensures.clear j after (omega (arith, below))))
          (left-out t c.args.limit c.args.turns.now c.args.turns.now [] (All-nil (λ m. is_open c.args.limit (entry_through t m) ≡ false)) c.args.turns.now));
      recent = c.requires.recent;
    }

pub loop-k-preserved : goal.loop-k-preserved
loop-k-preserved c =
    let t = c.args.trees.now in
    let w = c.args.w in
    let k = c.loop-k.k in
    let children = c.children-children.result.now in
    let next = c.next_bit-k-in-loop-k.result in
    let most = c.next_bit-k-in-loop-k.ensures.most in
    let later = c.next_bit-k-in-loop-k.ensures.from in
    let before = c.args.turns.now in
    let now = c.push_below.new.turns in
    let few : k < 8 = (let h = c.loop-k-test.true in grind (arith, nat_tests)) in
    let full : length children ≡ 8 = ap (λ (cs : List WideRef). length cs) c.children-children.ensures ∙ (c.requires.trees.over.collapsed.each w c.requires.node).eight in
    let below : c.get-below.result ≡ slice_index_or children k (wides.Leaf (wide_leaf 0 0 0)) =
    c.get-below.ensures ∙ any-default children k _ (wides.Leaf (wide_leaf 0 0 0)) (omega (arith, full, few)) in
    let pushed = Adds-flat (AddsNode c.args.limit (entry_through t)) (child t.level) children k (wides.Leaf (wide_leaf 0 0 0)) before c.loop-k.turns now
    (omega (arith, full, few)) c.loop-k.invariant.so_far
    (subst (λ (b : WideRef). AddsThrough c.args.limit t (child t.level b) c.loop-k.turns now) below c.in_ok-push_below.ensures.added) in
    let gap : k + 1 + (next - (k + 1)) ≡ next = omega (arith, later) in
    record {
      most = most;
      so_far = subst (λ n. AddsThrough c.args.limit t (flat_map (child t.level) (take n children)) before now) gap
          (Adds-skip t c.args.limit children (wides.Leaf (wide_leaf 0 0 0)) before now (k + 1) (next - (k + 1)) (omega (arith, full, most, later))
          (λ j after below. out t w c.args.limit c.args.met children c.requires.trees c.requires.node c.requires.out c.children-children.ensures
          j (omega (arith, below, gap, most)) (c.next_bit-k-in-loop-k.ensures.clear j after (omega (arith, below, gap)))) pushed);
      recent = c.push_below.ensures.recent;
    }
