use Rattle.std.proofs.Common.{◌-◌, length}
use Rattle.std.specs.Prelude.{IfSome}
use Rattle.ray_wide.specs.Wides.{children_in, lanes_in}
use Rattle.ray_walk.specs.Aims.{IsAlone, IsDown}
use Rattle.ray_walk.specs.Bounding.{IsEight}
use Rattle.ray_walk.proofs.descent.descend_told.Given as goal

-- the way so far
abbrev pub invariant-loop-seen : goal.invariant-loop-seen
invariant-loop-seen l = record {
  down : IsDown l.fn._limit l.fn.trees l.fn.w l.at l.seen.met;
  alone : IfSome l.seen.alone (IsAlone (children_in l.fn.trees.wide.now.nodes l.at) l.seen.met);
  eight : IfSome l.eight (IsEight l.fn.trees.ray.now (lanes_in l.fn.trees.wide.now.nodes l.at));
}

abbrev pub decreases-loop-seen : goal.decreases-loop-seen
decreases-loop-seen l = length l.fn.trees.wide.now.nodes - l.at
