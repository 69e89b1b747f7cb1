-- An instance with the structure that it places in the world, and what a ray finds of the primitives there, one by one. The laws of trees
-- over primitives speak of it, so that whoever walks a tree, or checks a walk, goes by the same words. (Own.)
use Rattle.std.specs.Prelude.{ℕ, ◌≡◌, Option, Some, None, option_and_then, option_map, List, [], take, drop, slice_get}
use Rattle.ray_geom.specs.declared.ratio.Ratio.{Ratio}
use Rattle.ray_geom.specs.Boxes.{BoxValue}
use Rattle.ray_geom.specs.ObjectRay.{ObjectRayValue}
use Rattle.ray_geom.specs.Scene.{RayValue}
use Rattle.ray_geom.specs.Transform.{IsMatrix}
use Rattle.ray_prune.specs.declared.reach.Reach.{Reach}
use Rattle.ray_prune.specs.BoxReach.{reach_of}
use Rattle.ray_contents.specs.Bounds.{KeepsBounds}
use Rattle.ray_primitives.specs.Primitives.{box_of_triangle}
use Rattle.ray_flags.specs.declared.ray_flags.RayFlags.{RayFlags}
use Rattle.ray_tree.specs.declared.node.Node.{Node}
use Rattle.ray_tree.specs.declared.node.Node.TheVariants as nodes
use Rattle.ray_tree.specs.Shapes.{node_at}
use Rattle.ray_tree.specs.Trees.{TreeValue, item_box}
use Rattle.ray_geometries.specs.declared.geometry.Geometry.{Geometry}
use Rattle.ray_geometries.specs.declared.shapes.Shapes.{Shapes}
use Rattle.ray_geometries.specs.declared.shapes.Shapes.TheVariants.{Triangles, Boxes}
use Rattle.ray_geometries.specs.Contents.{bounds_of}
use Rattle.ray_leaves.specs.declared.prim_place.PrimPlace.{PrimPlace}
use Rattle.ray_bottom.specs.Meeting.{MeetValue}
use Rattle.ray_bottom.specs.Slots.{IsSound}
use Rattle.ray_bottom.specs.Trees.{BottomWithTree, items_of, place_at}
use Rattle.ray_top.specs.Instances.{InstanceValue}
use Rattle.ray_query.specs.declared.found.Found.{Found}
use Rattle.ray_candidates.specs.Candidates.{admitted, found_at, placed}

-- an instance with the bottom structure that it places in the world
pub record Placement : Type 0 where
  pub instance : InstanceValue
  pub bottom : BottomWithTree

-- its transform is within the limits, and keeps the bounds of the structure
pub record IsWellPlaced (p : Placement) : Type 0 where
  pub matrix : IsMatrix p.instance.matrix
  pub kept : KeepsBounds p.instance.matrix (bounds_of p.bottom.geometries)
  pub sound : IsSound p.bottom

-- ---- boxes of primitives

-- the box of the primitive of a number, and of that at a place; none where none stands there, and where it is inactive
abbrev pub shape_box : ℕ → Shapes → Option BoxValue
shape_box i (Triangles format index_size triangles) = option_and_then box_of_triangle (slice_get triangles i)
shape_box i (Boxes boxes) = option_and_then (λ box. box) (slice_get boxes i)

abbrev pub prim_box : List Geometry → PrimPlace → Option BoxValue
prim_box geometries place = option_and_then (λ (g : Geometry). shape_box place.primitive g.shapes) (slice_get geometries place.geometry)

-- the box of an active item is that of the primitive at its place
pub record AreAligned (geometries : List Geometry) : Type 0 where
  pub each : (item : ℕ) (box : BoxValue) → item_box (items_of geometries) item ≡ Some box → prim_box geometries (place_at geometries item) ≡ Some box

-- from where a ray is in a box, where it meets it
abbrev pub entry_in : ObjectRayValue → BoxValue → Option Ratio
entry_in object box = option_map (λ (r : Reach). r.entry) (reach_of object box)

-- ---- what is found

-- what is found of the primitive at a place, of a geometry that is there
abbrev pub found_by : RayValue → RayFlags → ℕ → Placement → PrimPlace → Option Geometry → List Found
found_by ray flags i p place None = []
found_by ray flags i p place (Some geometry) =
    found_at ray flags p.bottom.geometries (placed flags i p.instance place.geometry geometry) place.primitive

abbrev pub found_by_place : RayValue → RayFlags → ℕ → Placement → PrimPlace → List Found
found_by_place ray flags i p place = found_by ray flags i p place (slice_get p.bottom.geometries place.geometry)

-- what is found of an item of the structure
abbrev pub found_by_item : RayValue → RayFlags → ℕ → Placement → ℕ → List Found
found_by_item ray flags i p item = found_by_place ray flags i p (place_at p.bottom.geometries item)

-- what is found at a place where this is met there
abbrev pub met_in : RayFlags → ℕ → Placement → PrimPlace → Option MeetValue → Option Geometry → List Found
met_in flags i p place meet None = []
met_in flags i p place meet (Some geometry) = admitted flags (placed flags i p.instance place.geometry geometry) place.primitive meet

abbrev pub met_at_place : RayFlags → ℕ → Placement → PrimPlace → Option MeetValue → List Found
met_at_place flags i p place meet = met_in flags i p place meet (slice_get p.bottom.geometries place.geometry)

-- ---- items of a node

-- the items of a leaf, by their numbers
abbrev pub items_by : List ℕ → Node → List ℕ
items_by order (nodes.Leaf first count) = take count (drop first order)
items_by order (nodes.Inner left right) = []

abbrev pub items_at : TreeValue → ℕ → List ℕ
items_at tree n = items_by tree.order (node_at tree.nodes n)
