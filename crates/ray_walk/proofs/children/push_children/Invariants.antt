use Rattle.std.proofs.Common.{◌-◌, ◌≤◌, take}
use Rattle.std.specs.Prelude.{IfSome}
use Rattle.std.specs.List.{flat_map}
use Rattle.ray_wide.specs.Subtrees.{IsWideLeaf}
use Rattle.ray_walk.specs.Aims.{AddsThrough}
use Rattle.ray_walk.specs.WideScene.{child}
use Rattle.ray_walk.proofs.children.push_children.Given as goal

-- the children so far
abbrev pub invariant-loop-k : goal.invariant-loop-k
invariant-loop-k l = record {
  most : l.k ≤ 8;
  so_far : AddsThrough l.fn.limit l.fn.trees (flat_map (child l.fn.trees.level) (take l.k l.children)) l.fn.turns l.turns;
  recent : IfSome l.recent (IsWideLeaf l.fn.trees.tree.now.nodes);
}

abbrev pub decreases-loop-k : goal.decreases-loop-k
decreases-loop-k l = 8 - l.k
