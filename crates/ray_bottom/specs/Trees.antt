-- A bottom structure as contracts see it, the boxes over which its tree stands, and what a leaf holds. (Own.)
use Rattle.std.specs.Prelude.{ℕ, if◌then◌else◌, nat_lt, ◌+◌, ◌++◌, Option, List, [], ◌∷◌, map, take, drop, slice_index_or}
use Rattle.std.specs.List.{flat_map, range_with_len}
use Rattle.ray_geom.specs.Boxes.{BoxValue}
use Rattle.ray_flags.specs.declared.build_flags.BuildFlags.{BuildFlags}
use Rattle.ray_tree.specs.declared.node.Node.{Node}
use Rattle.ray_tree.specs.declared.node.Node.TheVariants.{Leaf, Inner}
use Rattle.ray_tree.specs.Shapes.{node_at}
use Rattle.ray_tree.specs.Trees.{TreeValue}
use Rattle.ray_wide.specs.Wides.{WideValue}
use Rattle.ray_hierarchy.specs.Hierarchies.{HierarchyValue}
use Rattle.ray_primitives.specs.Primitives.{box_of_triangle}
use Rattle.ray_geometries.specs.declared.geometry.Geometry.{Geometry}
use Rattle.ray_geometries.specs.declared.shapes.Shapes.{Shapes}
use Rattle.ray_geometries.specs.declared.shapes.Shapes.TheVariants.{Triangles, Boxes}
use Rattle.ray_leaves.specs.declared.prim_place.PrimPlace.{PrimPlace}
use Rattle.ray_leaves.specs.Places.{place_of}
use Rattle.ray_geometries.specs.Contents.{ContentsValue, count_of}

-- a structure: the flags of its build and its geometries, which are its contents, and its box trees, a binary and a wide one
pub record BottomWithTree : Type 0 where
  pub flags : BuildFlags
  pub geometries : List Geometry
  pub tree : TreeValue
  pub wide : WideValue

-- its contents alone
abbrev pub without_tree : BottomWithTree → ContentsValue
without_tree bottom = record { flags = bottom.flags; geometries = bottom.geometries }

-- the structure of these
abbrev pub bottom_value : ContentsValue → HierarchyValue → BottomWithTree
bottom_value contents trees =
    record { flags = contents.flags; geometries = contents.geometries; tree = trees.tree; wide = trees.wide }

-- ---- the items of its tree

-- the box of each primitive of a geometry, in order; an inactive one has none
abbrev pub items_of_shapes : Shapes → List (Option BoxValue)
items_of_shapes (Triangles format index_size triangles) = map box_of_triangle triangles
items_of_shapes (Boxes boxes) = boxes

-- and of all geometries, one after the other
abbrev pub items_of : List Geometry → List (Option BoxValue)
items_of geometries = flat_map (λ g. items_of_shapes g.shapes) geometries

-- the place of each primitive of these geometries, of which the first has number `from`, in the same order
abbrev pub places_from : ℕ → List Geometry → List PrimPlace
places_from from [] = []
places_from from (g ∷ gs) = map (place_of from) (range_with_len 0 (count_of g)) ++ places_from (from + 1) gs

-- the place of an item
abbrev pub place_at : List Geometry → ℕ → PrimPlace
place_at geometries p = slice_index_or (places_from 0 geometries) p (place_of 0 0)

-- the same where there is one geometry with so many primitives
abbrev pub place_in_one : ℕ → ℕ → PrimPlace
place_in_one count p = place_of 0 (if nat_lt p count then p else 0)

-- ---- what stands at its leaves

-- the places of the primitives in the order of the tree
abbrev pub places_in_order : BottomWithTree → List PrimPlace
places_in_order bottom = map (place_at bottom.geometries) bottom.tree.order

-- and those of a leaf
abbrev pub places_by : List PrimPlace → Node → List PrimPlace
places_by places (Leaf first count) = take count (drop first places)
places_by places (Inner left right) = []

abbrev pub places_below : BottomWithTree → ℕ → List PrimPlace
places_below bottom n = places_by (places_in_order bottom) (node_at bottom.tree.nodes n)
