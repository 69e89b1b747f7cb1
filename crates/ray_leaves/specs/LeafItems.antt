-- The primitives at the leaves of a tree, with copies of their points. (Own.)
use Rattle.std.specs.Prelude.{ℕ, ◌≡◌, ◌==◌, if◌then◌else◌, Option, Some, None, option_map, List, slice_get}
use Rattle.ray_primitives.specs.Primitives.{TriangleValue}
use Rattle.ray_geom.specs.Scene.{TriValue}
use Rattle.ray_geom.specs.Boxes.{BoxValue}
use Rattle.ray_geometries.specs.declared.geometry.Geometry.{Geometry}
use Rattle.ray_geometries.specs.declared.shapes.Shapes.{Shapes}
use Rattle.ray_geometries.specs.declared.shapes.Shapes.TheVariants.{Triangles, Boxes}
use Rattle.ray_leaves.specs.declared.prim_place.PrimPlace.{PrimPlace}
use Rattle.ray_leaves.specs.declared.leaf_item.LeafItem.{LeafItem}
use Rattle.ray_leaves.specs.declared.leaf_item.ItemPoints.{ItemPoints}
use Rattle.ray_leaves.specs.declared.leaf_item.ItemPoints.TheVariants.{Triangle, Aabb, Nothing}

-- the points of a triangle, and of a box; an inactive one has none
abbrev pub points_of_tri : Option TriValue → ItemPoints
points_of_tri None = Nothing
points_of_tri (Some tri) = Triangle tri.v0 tri.v1 tri.v2

abbrev pub points_of_box : Option BoxValue → ItemPoints
points_of_box None = Nothing
points_of_box (Some box) = Aabb box.lo box.hi

-- points where there may be none
abbrev pub any_points : Option ItemPoints → ItemPoints
any_points None = Nothing
any_points (Some points) = points

-- the points of the primitive of this number, and at a place
abbrev pub points_in : Shapes → ℕ → ItemPoints
points_in (Triangles format index_size triangles) i = any_points (option_map (λ t. points_of_tri t.tri) (slice_get triangles i))
points_in (Boxes boxes) i = any_points (option_map points_of_box (slice_get boxes i))

abbrev pub points_at : List Geometry → PrimPlace → ItemPoints
points_at geometries place = any_points (option_map (λ (g : Geometry). points_in g.shapes place.primitive) (slice_get geometries place.geometry))

-- the item of a place
abbrev pub item_at : List Geometry → PrimPlace → LeafItem
item_at geometries place = record { place = place; points = points_at geometries place }

-- the points of the triangle, and of the box, at a place, where there is one geometry, which has these
abbrev pub points_of_triangles : List TriangleValue → PrimPlace → ItemPoints
points_of_triangles triangles place =
    if place.geometry == 0 then any_points (option_map (λ t. points_of_tri t.tri) (slice_get triangles place.primitive)) else Nothing

abbrev pub points_of_boxes : List (Option BoxValue) → PrimPlace → ItemPoints
points_of_boxes boxes place =
    if place.geometry == 0 then any_points (option_map points_of_box (slice_get boxes place.primitive)) else Nothing

-- and the item there
abbrev pub item_of_triangles : List TriangleValue → PrimPlace → LeafItem
item_of_triangles triangles place = record { place = place; points = points_of_triangles triangles place }

abbrev pub item_of_boxes : List (Option BoxValue) → PrimPlace → LeafItem
item_of_boxes boxes place = record { place = place; points = points_of_boxes boxes place }

-- an item with the points of the primitive at its place
pub record IsItemOf (geometries : List Geometry) (item : LeafItem) : Type 0 where
  pub points_are : item.points ≡ points_at geometries item.place

-- its place
abbrev pub place_of_item : LeafItem → PrimPlace
place_of_item item = item.place
