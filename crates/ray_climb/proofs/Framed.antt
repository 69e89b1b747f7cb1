-- The frame of a tree and its new items has the facts on which the climb rule rests.
use Rattle.std.proofs.Common.{◌≡◌, ◌≢◌, ◌∙◌, ℕ, zero, suc, ◌-◌, ◌<◌, ◌≤◌, Bool, true, false, List, length, refl, sym, ap, subst, arith, true≢false}
use Rattle.ray_tree.specs.declared.node.Node.{Node}
use Rattle.ray_tree.specs.declared.node.Node.TheVariants.{Leaf, Inner}
use Rattle.ray_tree.specs.Shapes.{node_at, shape_in, grow, levels}
use Rattle.ray_tree.specs.Trees.{IsShape, shape_at}
use Rattle.ray_tree.proofs.NodeLaws.{at_inner}
use Rattle.ray_tree.proofs.Under.{shape_suc, shape_zero}
use Rattle.ray_climb.specs.Halves.{low_half, high_half, lesser_half, greater_half}
use Rattle.ray_climb.specs.Refits.{RefitValue, is_inner, kid, parent_of, is_right, box_over, frame_of}
use Rattle.ray_tree.specs.NodeBoxes.{HasActivity, AreBoxes}
use Rattle.ray_climb.specs.Ready.{IsTable}
use Rattle.ray_climb.proofs.Trees.{IsFrame}
use Rattle.ray_climb.proofs.Packing.{lesser_packed, greater_packed}
use Rattle.ray_climb.proofs.OneParent.{below, above}
use Rattle.ray_climb.proofs.Leaves.{node_small, node_leaf, leaf_only, leaf_named}
use Rattle.ray_tree.proofs.LeastOver.{is_box, over_union}

-- no way down has more levels than are looked at
levels_grown : (nodes : List Node) (k n : ℕ) (node : Node) → ((m : ℕ) → levels (shape_in k nodes m) ≤ k) → levels (grow (shape_in k nodes) n node) ≤ suc k
levels_grown nodes k n (Leaf first count) deeper = omega arith
levels_grown nodes k n (Inner l r) deeper = let a = deeper l in let b = deeper r in omega arith

pub levels_most : (nodes : List Node) (k n : ℕ) → levels (shape_in k nodes n) ≤ k
levels_most nodes zero n = subst (λ s. levels s ≤ 0) (sym (shape_zero nodes n)) (omega arith)
levels_most nodes (suc k) n = subst (λ s. levels s ≤ suc k) (sym (shape_suc k nodes n)) (levels_grown nodes k n (node_at nodes n) (λ m. levels_most nodes k m))

module _ (r : RefitValue) (shape : IsShape r.tree) where
  higher_case : (p : ℕ) (s : Bool) (node : Node) → node_at r.tree.nodes p ≡ node → p < length r.tree.nodes → is_inner node ≡ true
      → levels (shape_at r.tree (kid node s)) < levels (shape_at r.tree p)
  higher_case p s (Leaf first count) is small inner = absurd (true≢false (sym inner))
  higher_case p true (Inner a b) is small inner = let e = ap levels (at_inner r.tree shape p a b small is).shape in omega arith
  higher_case p false (Inner a b) is small inner = let e = ap levels (at_inner r.tree shape p a b small is).shape in omega arith

  pub higher : (p : ℕ) (s : Bool) → p < length r.tree.nodes → is_inner (node_at r.tree.nodes p) ≡ true
      → levels (shape_at r.tree (kid (node_at r.tree.nodes p) s)) < levels (shape_at r.tree p)
  higher p s small inner = higher_case p s (node_at r.tree.nodes p) refl small inner

  -- a way up comes to an end
  pub climbs_up : (n p : ℕ) → n < length r.tree.nodes → n ≢ 0 → p ≡ parent_of r.tree.nodes n
      → length r.tree.nodes - levels (shape_at r.tree p) < length r.tree.nodes - levels (shape_at r.tree n)
  climbs_up n p small ne is =
      let b = below r.tree shape n small ne in
      let up = higher (parent_of r.tree.nodes n) (is_right r.tree.nodes n) b.small b.inner in
      let here = ap (λ x. levels (shape_at r.tree x)) b.child in
      let there = ap (λ x. levels (shape_at r.tree x)) is in
      let most = levels_most r.tree.nodes (length r.tree.nodes) p in
      omega arith

  module _ (activity : HasActivity r.tree r.items) (are : AreBoxes r.items) where
    low_case : (p : ℕ) (node : Node) → node_at r.tree.nodes p ≡ node → p < length r.tree.nodes → is_inner node ≡ true
        → low_half (box_over r p) ≡ lesser_half (low_half (box_over r (kid node false))) (low_half (box_over r (kid node true)))
    low_case p (Leaf first count) is small inner = absurd (true≢false (sym inner))
    low_case p (Inner a b) is small inner =
        ap low_half (over_union r.tree r.items shape activity p a b small is)
        ∙ lesser_packed (box_over r a).lo (box_over r b).lo (is_box r.tree r.items are a).lo_short (is_box r.tree r.items are b).lo_short

    high_case : (p : ℕ) (node : Node) → node_at r.tree.nodes p ≡ node → p < length r.tree.nodes → is_inner node ≡ true
        → high_half (box_over r p) ≡ greater_half (high_half (box_over r (kid node false))) (high_half (box_over r (kid node true)))
    high_case p (Leaf first count) is small inner = absurd (true≢false (sym inner))
    high_case p (Inner a b) is small inner =
        ap high_half (over_union r.tree r.items shape activity p a b small is)
        ∙ greater_packed (box_over r a).hi (box_over r b).hi (is_box r.tree r.items are a).hi_short (is_box r.tree r.items are b).hi_short

    pub is_frame : IsFrame (frame_of r)
    is_frame = record {
      leaf_small = node_small r.tree shape;
      leaf_is = node_leaf r.tree shape;
      leaf_only = leaf_only r.tree shape;
      leaf_named = leaf_named r.tree shape;
      parent_small = λ i lt ne. (below r.tree shape i lt ne).small;
      parent_inner = λ i lt ne. (below r.tree shape i lt ne).inner;
      child_is = λ i lt ne. (below r.tree shape i lt ne).child;
      kids = λ p s lt inner. let k = above r.tree shape p s lt inner in record { small = k.small; below = k.below; parent = k.parent; side = k.side };
      height = λ n. levels (shape_at r.tree n);
      higher = higher;
      low_joins = λ p lt inner. low_case p (node_at r.tree.nodes p) refl lt inner;
      high_joins = λ p lt inner. high_case p (node_at r.tree.nodes p) refl lt inner;
    }

-- the same of what a table is over
pub framed : (words : ℕ) (key : RefitValue) → IsTable words key → IsFrame (frame_of key)
framed words key table = is_frame key table.ready.shape table.ready.activity table.ready.boxes
