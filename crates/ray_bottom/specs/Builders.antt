-- A builder as contracts see it, and what each of its calls adds.
use Rattle.std.specs.Prelude.{ℕ, ◌≡◌, Bool, Option, Some, None, option_and_then, option_map, List, length, slice_get, Result, Ok, Err}
use Rattle.ray_geom.specs.Boxes.{BoxValue}
use Rattle.ray_bytes.specs.declared.format.Format.{Format}
use Rattle.ray_bytes.specs.declared.data_fault.DataFault.{DataFault}
use Rattle.ray_bytes.specs.Records.{index_size}
use Rattle.ray_bytes.specs.Views.{Vertices, Indices, Boxes}
use Rattle.ray_primitives.specs.declared.triangle_info.TriangleInfo.{TriangleInfo}
use Rattle.ray_primitives.specs.declared.box_info.BoxInfo.{BoxInfo}
use Rattle.ray_primitives.specs.declared.build_fault.BuildFault.{BuildFault}
use Rattle.ray_primitives.specs.declared.build_fault.BuildFault.TheVariants.{Data, NoMemory}
use Rattle.ray_primitives.specs.Primitives.{TriangleValue}
use Rattle.ray_primitives.specs.TriangleReading.{triangles_read}
use Rattle.ray_primitives.specs.BoxReading.{boxes_read}
use Rattle.ray_geometries.specs.declared.geometry.Geometry.{Geometry}
use Rattle.ray_geometries.specs.declared.shapes.Shapes.{Shapes}
use Rattle.ray_geometries.specs.declared.shapes.Shapes.TheVariants as shapes
use Rattle.ray_geometries.specs.Contents.{ContentsValue, with_geometry}
use Rattle.ray_bottom.specs.Trees.{BottomWithTree, without_tree}

-- a builder: the contents so far, and those of the structure that is updated, if one is
pub record BuilderValue : Type 0 where
  pub contents : ContentsValue
  pub replaced : Option ContentsValue

-- the same with the box tree of the structure that is updated; and that of these
pub record BuilderWithTree : Type 0 where
  pub contents : ContentsValue
  pub replaced : Option BottomWithTree

abbrev pub builder_value : ContentsValue → Option BottomWithTree → BuilderWithTree
builder_value contents replaced = record { contents = contents; replaced = replaced }

abbrev pub bare : BuilderWithTree → BuilderValue
bare b = record { contents = b.contents; replaced = option_map without_tree b.replaced }

-- a builder of a new structure
abbrev pub IsNew : BuilderWithTree → Type 0
IsNew b = (bare b).replaced ≡ None

-- ---- the old geometry

-- the old geometry of the number that comes next
abbrev pub old_geometry : BuilderValue → Option Geometry
old_geometry b = option_and_then (λ old. slice_get old.geometries (length b.contents.geometries)) b.replaced

-- its triangles, and its boxes
abbrev pub triangles_in : Shapes → Option (List TriangleValue)
triangles_in (shapes.Triangles format index_size triangles) = Some triangles
triangles_in (shapes.Boxes boxes) = None

abbrev pub boxes_in : Shapes → Option (List (Option BoxValue))
boxes_in (shapes.Triangles format index_size triangles) = None
boxes_in (shapes.Boxes boxes) = Some boxes

abbrev pub old_triangles : BuilderValue → Option (List TriangleValue)
old_triangles b = option_and_then (λ g. triangles_in g.shapes) (old_geometry b)

abbrev pub old_boxes : BuilderValue → Option (List (Option BoxValue))
old_boxes b = option_and_then (λ g. boxes_in g.shapes) (old_geometry b)

-- ---- what is added

-- a geometry of triangles, and one of boxes
abbrev pub triangle_geometry : Bool → Format → ℕ → List TriangleValue → Geometry
triangle_geometry opaque format size triangles = record { opaque = opaque; shapes = shapes.Triangles format size triangles }

abbrev pub box_geometry : Bool → List (Option BoxValue) → Geometry
box_geometry opaque boxes = record { opaque = opaque; shapes = shapes.Boxes boxes }

-- a builder with one geometry more
abbrev pub builder_with : BuilderValue → Geometry → BuilderValue
builder_with b g = record { contents = with_geometry b.contents g; replaced = b.replaced }

-- the same where the geometry was read, or the first rule that it breaks
abbrev pub triangles_added : BuilderValue → TriangleInfo → Result (List TriangleValue) DataFault → Result BuilderValue DataFault
triangles_added b info (Ok triangles) = Ok (builder_with b (triangle_geometry info.opaque info.format info.index_size triangles))
triangles_added b info (Err fault) = Err fault

abbrev pub boxes_added : BuilderValue → BoxInfo → Result (List (Option BoxValue)) DataFault → Result BuilderValue DataFault
boxes_added b info (Ok boxes) = Ok (builder_with b (box_geometry info.opaque boxes))
boxes_added b info (Err fault) = Err fault

-- the builder with the triangles that the views hold, or the first rule that is broken; the same for boxes
unfoldable pub with_triangles : BuilderValue → TriangleInfo → Vertices → Option Indices → Option (List ℕ) → Result BuilderValue DataFault
with_triangles b info vertices indices transform =
    triangles_added b info (triangles_read info vertices indices transform (old_triangles b) (length b.contents.geometries))

unfoldable pub with_boxes : BuilderValue → BoxInfo → Boxes → Result BuilderValue DataFault
with_boxes b info boxes = boxes_added b info (boxes_read info boxes (old_boxes b) (length b.contents.geometries))

-- what a call that adds does: the builder is the one with the geometry, or is as before and the result is the first rule that
-- is broken; want of memory is free
abbrev pub IsAdded : BuilderValue → Result BuilderValue DataFault → BuilderValue → Result (Unit {0}) BuildFault → Type 0
IsAdded before added after (Ok done) = added ≡ Ok after
IsAdded before added after (Err (Data fault)) = (added ≡ Err fault) × (after ≡ before)
IsAdded before added after (Err NoMemory) = after ≡ before

-- the same of a geometry that was stored, with these primitives
abbrev pub IsRestored : {E : Type 0} → BuilderValue → Bool → Option Shapes → BuilderValue → Result (Unit {0}) E → Type 0
IsRestored before opaque stored after (Ok done) = option_map (λ s. builder_with before (record { opaque = opaque; shapes = s })) stored ≡ Some after
IsRestored before opaque stored after (Err fault) = after ≡ before

-- how many bytes the indices of a view have: 0 where there is none
abbrev pub size_of_indices : Option Indices → ℕ
size_of_indices None = 0
size_of_indices (Some indices) = index_size indices.wide
