-- A top structure as contracts see it, and the boxes over which its tree stands. (Own.)
use Rattle.std.specs.Prelude.{ℕ, ◌≡◌, Result, Ok, Err, Option, Some, None, option_and_then, List, [], map, take, drop}
use Rattle.ray_geom.specs.Boxes.{BoxValue, corners_of}
use Rattle.ray_geom.specs.Transform.{MatrixValue}
use Rattle.ray_prune.specs.Pruning.{box_of_images}
use Rattle.ray_bytes.specs.declared.data_fault.DataFault.{DataFault}
use Rattle.ray_primitives.specs.declared.build_fault.BuildFault.{BuildFault}
use Rattle.ray_primitives.specs.declared.build_fault.BuildFault.TheVariants.{Data, NoMemory}
use Rattle.ray_tree.specs.declared.node.Node.{Node}
use Rattle.ray_tree.specs.declared.node.Node.TheVariants.{Leaf, Inner}
use Rattle.ray_tree.specs.Shapes.{node_at}
use Rattle.ray_tree.specs.Trees.{TreeValue, TreeOver}
use Rattle.ray_wide.specs.Wides.{WideValue, WideOver}
use Rattle.ray_hierarchy.specs.Hierarchies.{HierarchyValue, IsBuilt}
use Rattle.ray_top.specs.declared.used.Used.{Used}
use Rattle.ray_top.specs.Instances.{InstanceValue}
use Rattle.ray_top.specs.InstanceReading.{bounds_in}
use Rattle.ray_top.specs.Contents.{ContentsValue, TopValue}
use Rattle.ray_top.specs.Keeping.{IsCounted}

-- a structure: its contents, the structures that were in use, and its box trees, a binary and a wide one
pub record TopWithTree : Type 0 where
  pub contents : ContentsValue
  pub used : List Used
  pub tree : TreeValue
  pub wide : WideValue

-- without the tree
abbrev pub without_tree : TopWithTree → TopValue
without_tree top = record { contents = top.contents; used = top.used }

-- with trees
abbrev pub with_tree : TopValue → HierarchyValue → TopWithTree
with_tree top trees = record { contents = top.contents; used = top.used; tree = trees.tree; wide = trees.wide }

-- the result is the top structure that is read, with some tree, or the rule that is broken; want of memory is free
abbrev pub GivesTop : Result TopValue DataFault → Result TopWithTree BuildFault → Type 0
GivesTop read (Ok top) = read ≡ Ok (without_tree top)
GivesTop read (Err (Data fault)) = read ≡ Err fault
GivesTop read (Err NoMemory) = Unit {0}

-- ---- the items of its tree

-- the box in the world of bounds that an instance places there: the least one of the images of their eight corners
unfoldable pub world_box : MatrixValue → BoxValue → Option BoxValue
world_box m bounds = box_of_images m (corners_of bounds)

-- the box of an instance; one that is inactive has none, and neither has one of a structure without bounds
abbrev pub item_of : List Used → Option InstanceValue → Option BoxValue
item_of used None = None
item_of used (Some i) = option_and_then (world_box i.matrix) (option_and_then (λ bounds. bounds) (bounds_in used i.id))

-- and of all instances
abbrev pub items_of : TopValue → List (Option BoxValue)
items_of top = map (item_of top.used) top.contents.instances

-- the tree is that of a build with the flags
abbrev pub IsTreeBuilt : TopWithTree → Type 0
IsTreeBuilt top = IsBuilt top.contents.flags (items_of (without_tree top)) top.tree

-- ---- what stands at its leaves

-- the numbers of the instances of a leaf
abbrev pub instances_by : List ℕ → Node → List ℕ
instances_by order (Leaf first count) = take count (drop first order)
instances_by order (Inner left right) = []

abbrev pub instances_below : TopWithTree → ℕ → List ℕ
instances_below top n = instances_by top.tree.order (node_at top.tree.nodes n)

-- ---- words of private types alone

-- a top structure that is counted, with a tree over its items, and a wide one over its leaves
pub record IsCountedOver (top : TopWithTree) (active : ℕ) : Type 0 where
  pub counted : IsCounted (without_tree top) active
  pub over : TreeOver top.tree (items_of (without_tree top))
  pub wide : WideOver top.wide top.tree
