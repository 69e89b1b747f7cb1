-- What a walk knows of the structures that it looks at: each bottom structure is within the limits, with a tree over its primitives. (Own.)
use Rattle.ray_geom.specs.Scene.{IsRay}
use Rattle.ray_tree.specs.Trees.{TreeOver}
use Rattle.ray_wide.specs.Wides.{WideOver}
use Rattle.ray_bottom.specs.Slots.{AreSound}
use Rattle.ray_top.specs.Contents.{IsTop}
use Rattle.ray_top.specs.Trees.{without_tree as top_without_tree, items_of as top_items}
use Rattle.ray_candidates.specs.Standing.{AreStanding, structures_in}
use Rattle.ray_walk.specs.Traced.{Traced}

-- what is known of all that a walk looks at
pub record IsWalkable (s : Traced) : Type 0 where
  pub ray : IsRay s.ray
  pub top : IsTop (top_without_tree s.top)
  pub over : TreeOver s.top.tree (top_items (top_without_tree s.top))
  pub wide : WideOver s.top.wide s.top.tree
  pub standing : AreStanding (top_without_tree s.top) (structures_in s.bottoms)
  pub bottoms : AreSound s.bottoms
