-- What a walk looks at where a ray is traced: the nodes of the top structure's tree, and below its leaves those of the trees of
-- the bottom structures, each as its instance places it. It is a scene of ray_nearest, told by its parts. The program goes over the wide
-- nodes of the same trees (`WideScene`). (Own; Vulkan leaves open how candidates are looked for.)
use Rattle.std.specs.Prelude.{ℕ, ◌≡◌, ◌<◌, ◌+◌, ◌^◌, if◌then◌else◌, Option, Some, None, option_map, option_and_then, List, [], ◌∷◌, length}
use Rattle.std.specs.List.{flat_map}
use Rattle.ray_geom.specs.declared.ratio.Ratio.{Ratio}
use Rattle.ray_geom.specs.Scene.{RayValue}
use Rattle.ray_geom.specs.Transform.{identity_value}
use Rattle.ray_geom.specs.ObjectRay.{object_of}
use Rattle.ray_flags.specs.declared.ray_flags.RayFlags.{RayFlags}
use Rattle.ray_tree.specs.declared.node.Node.{Node}
use Rattle.ray_tree.specs.declared.node.Node.TheVariants as nodes
use Rattle.ray_tree.specs.Shapes.{node_at}
use Rattle.ray_tree.specs.Trees.{TreeValue, shape_at, box_at, no_box}
use Rattle.ray_tree.specs.Waits.{weight}
use Rattle.ray_leaves.specs.declared.prim_place.PrimPlace.{PrimPlace}
use Rattle.ray_bottom.specs.Slots.{Slots, structure_at}
use Rattle.ray_top.specs.Instances.{InstanceValue}
use Rattle.ray_top.specs.Trees.{TopWithTree}
use Rattle.ray_query.specs.declared.found.Found.{Found}
use Rattle.ray_nearest.specs.declared.node.WalkNode.{WalkNode}
use Rattle.ray_nearest.specs.declared.node.WalkNode.TheVariants.{TopInner, TopLeaf, Inner, Leaf}
use Rattle.ray_nearest.specs.Parts.{SceneParts, scene_of}
use Rattle.ray_nearest.specs.Scene.{SceneValue}
use Rattle.ray_candidates.specs.Candidates.{active_instance, is_seen}
use Rattle.ray_candidates.specs.Placements.{Placement, entry_in, found_by_item, found_by_place, items_at}

-- what a ray is traced through: the top structure and the bottom structures with their trees, the ray, its flags and its cull
-- mask
pub record Traced : Type 0 where
  pub top : TopWithTree
  pub bottoms : Slots
  pub ray : RayValue
  pub flags : RayFlags
  pub mask : ℕ

-- that of these
abbrev pub traced_by : TopWithTree → Slots → RayValue → RayFlags → ℕ → Traced
traced_by top bottoms ray flags mask = record { top = top; bottoms = bottoms; ray = ray; flags = flags; mask = mask }

-- the placement of an instance, where its mask is seen and its structure stands there
abbrev pub placement_of : Slots → ℕ → InstanceValue → Option Placement
placement_of bottoms mask i =
    if is_seen mask i then option_map (λ b. record { instance = i; bottom = b }) (structure_at i.id bottoms) else None

-- that of the instance of a number, where it is active
abbrev pub placement_at : Traced → ℕ → Option Placement
placement_at s number = option_and_then (placement_of s.bottoms s.mask) (active_instance s.top.contents number)

-- ---- boxes

-- from where the ray is in the box of a node of the top structure, in the world
abbrev pub top_entry : Traced → ℕ → Option Ratio
top_entry s n = entry_in (object_of s.ray identity_value) (box_at s.top.tree no_box n)

-- and of a node of the structure of an instance, in the object's space
abbrev pub entry_of_placement : RayValue → Placement → ℕ → Option Ratio
entry_of_placement ray p n = entry_in (object_of ray p.instance.matrix) (box_at p.bottom.tree no_box n)

abbrev pub bottom_entry : Traced → ℕ → ℕ → Option Ratio
bottom_entry s i n = option_and_then (λ p. entry_of_placement s.ray p n) (placement_at s i)

-- ---- nodes below

-- a node of the top structure, and one of the structure of an instance
abbrev pub top_ref_by : ℕ → Node → WalkNode
top_ref_by n (nodes.Leaf first count) = TopLeaf n
top_ref_by n (nodes.Inner left right) = TopInner n

abbrev pub top_ref : TreeValue → ℕ → WalkNode
top_ref tree n = top_ref_by n (node_at tree.nodes n)

abbrev pub ref_by : ℕ → ℕ → Node → WalkNode
ref_by i n (nodes.Leaf first count) = Leaf i n
ref_by i n (nodes.Inner left right) = Inner i n

abbrev pub ref : ℕ → TreeValue → ℕ → WalkNode
ref i tree n = ref_by i n (node_at tree.nodes n)

-- the root of a tree, if it has one
abbrev pub root_in : {X : Type 0} → List Node → X → List X
root_in [] x = []
root_in (node ∷ rest) x = x ∷ []

-- the root of the structure of an instance
abbrev pub root_of_placement : ℕ → Placement → List WalkNode
root_of_placement i p = root_in p.bottom.tree.nodes (ref i p.bottom.tree 0)

abbrev pub roots_by : ℕ → Option Placement → List WalkNode
roots_by i None = []
roots_by i (Some p) = root_of_placement i p

abbrev pub roots_of : Traced → ℕ → List WalkNode
roots_of s i = roots_by i (placement_at s i)

-- the two nodes below an inner node of the top structure
abbrev pub top_children : TreeValue → Node → List WalkNode
top_children tree (nodes.Leaf first count) = []
top_children tree (nodes.Inner left right) = top_ref tree left ∷ top_ref tree right ∷ []

-- and of the structure of an instance
abbrev pub children : ℕ → TreeValue → Node → List WalkNode
children i tree (nodes.Leaf first count) = []
children i tree (nodes.Inner left right) = ref i tree left ∷ ref i tree right ∷ []

abbrev pub children_of : ℕ → ℕ → Option Placement → List WalkNode
children_of i n None = []
children_of i n (Some p) = children i p.bottom.tree (node_at p.bottom.tree.nodes n)

-- the nodes right below a node
abbrev pub below : Traced → WalkNode → List WalkNode
below s (TopInner n) = top_children s.top.tree (node_at s.top.tree.nodes n)
below s (TopLeaf n) = flat_map (roots_of s) (items_at s.top.tree n)
below s (Inner i n) = children_of i n (placement_at s i)
below s (Leaf i n) = []

-- ---- what is found

-- what is found of the primitive at a place
abbrev pub found_at_place : Traced → ℕ → Placement → PrimPlace → List Found
found_at_place s = found_by_place s.ray s.flags

-- what is found of an item of the structure of an instance
abbrev pub found_of_item : Traced → ℕ → Placement → ℕ → List Found
found_of_item s = found_by_item s.ray s.flags

-- and of all items of a leaf
abbrev pub found_in_leaf : Traced → ℕ → ℕ → Option Placement → List Found
found_in_leaf s i n None = []
found_in_leaf s i n (Some p) = flat_map (found_of_item s i p) (items_at p.bottom.tree n)

-- how many primitives a leaf has
abbrev pub tests_in_leaf : ℕ → Option Placement → ℕ
tests_in_leaf n None = 0
tests_in_leaf n (Some p) = length (items_at p.bottom.tree n)

abbrev pub finds : Traced → WalkNode → List Found
finds s (TopInner n) = []
finds s (TopLeaf n) = []
finds s (Inner i n) = []
finds s (Leaf i n) = found_in_leaf s i n (placement_at s i)

abbrev pub tests : Traced → WalkNode → ℕ
tests s (TopInner n) = 0
tests s (TopLeaf n) = 0
tests s (Inner i n) = 0
tests s (Leaf i n) = tests_in_leaf n (placement_at s i)

-- ---- the scene

abbrev pub entry : Traced → WalkNode → Option Ratio
entry s (TopInner n) = top_entry s n
entry s (TopLeaf n) = top_entry s n
entry s (Inner i n) = bottom_entry s i n
entry s (Leaf i n) = bottom_entry s i n

-- a number that falls from a node to those below: the nodes of the tree from there down, and for the top structure more than any
-- bottom structure has
abbrev pub rank_of_placement : ℕ → Option Placement → ℕ
rank_of_placement n None = 0
rank_of_placement n (Some p) = weight (shape_at p.bottom.tree n)

abbrev pub rank : Traced → WalkNode → ℕ
rank s (TopInner n) = 2 ^ 22 + weight (shape_at s.top.tree n)
rank s (TopLeaf n) = 2 ^ 22 + weight (shape_at s.top.tree n)
rank s (Inner i n) = rank_of_placement n (placement_at s i)
rank s (Leaf i n) = rank_of_placement n (placement_at s i)

abbrev pub parts_of : Traced → SceneParts
parts_of s = record {
  roots = root_in s.top.tree.nodes (top_ref s.top.tree 0);
  entry = entry s;
  below = below s;
  finds = finds s;
  tests = tests s;
  rank = rank s;
}

unfoldable pub traced_scene : Traced → SceneValue
traced_scene s = scene_of (parts_of s)

-- the nodes that it has
pub record IsTopNode (s : Traced) (n : ℕ) : Type 0 where
  pub there : n < length s.top.tree.nodes

pub record IsBottomNode (s : Traced) (i n : ℕ) : Type 0 where
  pub placement : Placement
  pub is_it : placement_at s i ≡ Some placement
  pub there : n < length placement.bottom.tree.nodes

abbrev pub IsNode : Traced → WalkNode → Type 0
IsNode s (TopInner n) = IsTopNode s n
IsNode s (TopLeaf n) = IsTopNode s n
IsNode s (Inner i n) = IsBottomNode s i n
IsNode s (Leaf i n) = IsBottomNode s i n
