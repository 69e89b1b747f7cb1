-- The primitives at the leaves of a structure's tree. (Own.)
use Rattle.std.specs.Prelude.{ℕ, Option, None, List, [], map, take, drop}
use Rattle.ray_geom.specs.Scene.{RayValue, IsTri, tri_value}
use Rattle.ray_geom.specs.Boxes.{IsBox, box_value}
use Rattle.ray_geom.specs.Transform.{MatrixValue}
use Rattle.ray_tree.specs.Shapes.{node_at}
use Rattle.ray_tree.specs.declared.node.Node.{Node}
use Rattle.ray_tree.specs.declared.node.Node.TheVariants.{Leaf, Inner}
use Rattle.ray_leaves.specs.declared.leaf_item.LeafItem.{LeafItem}
use Rattle.ray_leaves.specs.declared.leaf_item.ItemPoints.{ItemPoints}
use Rattle.ray_leaves.specs.declared.leaf_item.ItemPoints.TheVariants.{Triangle, Aabb, Nothing}
use Rattle.ray_leaves.specs.LeafItems.{item_at}
use Rattle.ray_bottom.specs.Trees.{BottomWithTree, places_in_order}
use Rattle.ray_bottom.specs.Meeting.{MeetValue, hit_in_world, span_in_object, KeepsTri}

-- the items of a leaf, of all in the order of the tree
abbrev pub items_by : List LeafItem → Node → List LeafItem
items_by items (Leaf first count) = take count (drop first items)
items_by items (Inner left right) = []

abbrev pub items_below : BottomWithTree → ℕ → List LeafItem
items_below bottom n = items_by (map (item_at bottom.geometries) (places_in_order bottom)) (node_at bottom.tree.nodes n)

-- ---- words of private calls alone

-- what a ray meets of points
abbrev pub points_meet : RayValue → MatrixValue → ItemPoints → Option MeetValue
points_meet ray m (Triangle a b c) = hit_in_world ray m (tri_value a b c)
points_meet ray m (Aabb lo hi) = span_in_object ray m (box_value lo hi)
points_meet ray m Nothing = None

-- points are within the limits, and so are the images of vertices
abbrev pub AreKept : MatrixValue → ItemPoints → Type 0
AreKept m (Triangle a b c) = IsTri (tri_value a b c) × KeepsTri m (tri_value a b c)
AreKept m (Aabb lo hi) = IsBox (box_value lo hi)
AreKept m Nothing = Unit {0}
