-- How the box tree of a structure is built, and how it is updated. (Own; which builder is taken says
-- VK_BUILD_ACCELERATION_STRUCTURE_PREFER_FAST_BUILD_BIT_KHR.)
use Rattle.std.specs.Prelude.{◌≡◌, ◌≤◌, true, false, Option, Some, None, List}
use Rattle.ray_geom.specs.Boxes.{BoxValue}
use Rattle.ray_flags.specs.declared.build_flags.BuildFlags.{BuildFlags}
use Rattle.ray_flags.specs.Flags.{build_has, PreferFastBuild}
use Rattle.ray_tree.specs.Shapes.{levels, AreHalves}
use Rattle.ray_tree.specs.Trees.{TreeValue, TreeOver, shape_at}
use Rattle.ray_morton.specs.KeyOrder.{IsInKeyOrder}
use Rattle.ray_tree.specs.Trees.{items_below}
use Rattle.ray_morton.specs.Cuts.{AreCut}
use Rattle.ray_wide.specs.Wides.{WideValue, WideOver}
use Rattle.ray_tree.specs.NodeBoxes.{HasActivity}
use Rattle.ray_climb.specs.Refits.{IsRefit}

-- the trees of a structure: a binary tree over its items, and a wide tree over the leaves of that
pub record HierarchyValue : Type 0 where
  pub tree : TreeValue
  pub wide : WideValue

-- those of these
abbrev pub hierarchy_value : TreeValue → WideValue → HierarchyValue
hierarchy_value tree wide = record { tree = tree; wide = wide }

-- a tree by keys: its items, from the leftmost leaf on, are in rising order of their keys, and are cut by them
pub record IsByKeys (items : List (Option BoxValue)) (tree : TreeValue) : Type 0 where
  pub rising : IsInKeyOrder items (items_below tree.order (shape_at tree 0))
  pub cut : AreCut items tree.order (shape_at tree 0)

-- the tree of a build with these flags: one over the items, by keys where the flags prefer fast builds and else by halves
pub record IsBuilt (flags : BuildFlags) (items : List (Option BoxValue)) (tree : TreeValue) : Type 0 where
  pub over : TreeOver tree items
  pub low : levels (shape_at tree 0) ≤ 96
  pub fast : build_has flags PreferFastBuild ≡ true → IsByKeys items tree
  pub slow : build_has flags PreferFastBuild ≡ false → AreHalves (shape_at tree 0)

-- the tree of an update: where the items have the activity of the old tree's, the old tree refit to them; else the tree
-- of a build with these flags
pub record IsUpdated (flags : BuildFlags) (old : TreeValue) (items : List (Option BoxValue)) (tree : TreeValue) : Type 0 where
  pub over : TreeOver tree items
  pub refit : HasActivity old items → IsRefit old items tree
  pub anew : ¬ HasActivity old items → IsBuilt flags items tree

-- the tree of a build with these flags, or, where there is an old tree, that of an update of it
abbrev pub IsTreeOf : Option TreeValue → BuildFlags → List (Option BoxValue) → TreeValue → Type 0
IsTreeOf None flags items tree = IsBuilt flags items tree
IsTreeOf (Some old) flags items tree = IsUpdated flags old items tree
