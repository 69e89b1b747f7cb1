-- What the build of a bottom structure gives, by the memory as it is. (Own.)
use Rattle.std.specs.Prelude.{ℕ, ◌≡◌, ◌≤◌, ◌+◌, ◌^◌, List, map, All, IsSome, IfSome, length, Option, Some, Result, Ok, Err, true, unwrap_or}
use Rattle.std.specs.List.{list_all}
use Rattle.ray_bytes.specs.declared.data_fault.DataFault.{DataFault}
use Rattle.ray_flags.specs.declared.kind.Kind.TheVariants.{Triangle, Aabb}
use Rattle.ray_primitives.specs.declared.build_fault.BuildFault.{BuildFault}
use Rattle.ray_primitives.specs.declared.build_fault.BuildFault.TheVariants.{Data, NoMemory}
use Rattle.ray_geometries.specs.declared.geometry.Geometry as bottoms
use Rattle.ray_bottom.specs.Builders.{BuilderValue, BuilderWithTree, bare}
use Rattle.ray_geometries.specs.Contents.{HasRoom, kind_of, total_of}
use Rattle.ray_cmd.specs.declared.geometry.Geometry.{Geometry}
use Rattle.ray_cmd.specs.declared.geometry.Geometry.TheVariants as geometries
use Rattle.ray_rules.specs.declared.byte_range.ByteRange.{ByteRange}
use Rattle.ray_rules.specs.Ranges.{primitives}
use Rattle.ray_rules.specs.Shapes.{is_triangles, is_boxes}
use Rattle.ray_action.specs.Memory.{Memory, BufferAt, bytes_at}
use Rattle.ray_action.specs.Action.{content_buffer}
use Rattle.ray_action.specs.Building.{add_inputs, add_all}
use Rattle.ray_action.specs.Seeing.{SeenBytes, SeenGeometry, see_range}
use Rattle.ray_device.specs.Ranges.{ranges_with}

-- ---- what is read

-- how many bytes the buffer of a geometry's content has: none where it isn't live
abbrev pub size_now : Memory → Geometry → ℕ
size_now memory g = unwrap_or (memory (BufferAt (content_buffer g))) 0

-- the bytes of the ranges of a geometry, cut by that size
abbrev pub inputs_now : Memory → Geometry → List (Option SeenBytes)
inputs_now memory g = map (see_range memory) (ranges_with (size_now memory g) g)

-- what is seen of it
abbrev pub seen_now : Memory → Geometry → SeenGeometry
seen_now memory g = record { size = memory (BufferAt (content_buffer g)); inputs = inputs_now memory g }

-- a builder with one geometry more, and with several, or the first rule that is broken
abbrev pub add_now : Memory → BuilderValue → Geometry → Result BuilderValue DataFault
add_now memory b g = add_inputs b g (inputs_now memory g)

abbrev pub add_all_now : Memory → List Geometry → BuilderValue → Result BuilderValue DataFault
add_all_now memory gs b = add_all gs (map (seen_now memory) gs) b

-- ---- what it needs

-- all that is read of a geometry is there
pub record IsThereNow (memory : Memory) (g : Geometry) : Type 0 where
  pub inputs : All (λ (input : Option SeenBytes). IfSome input IsSome) (inputs_now memory g)

-- the bytes of a transform are there
pub record IsTransformThere (memory : Memory) (r : ByteRange) : Type 0 where
  pub bytes : List ℕ
  pub is_it : bytes_at memory r ≡ Some bytes
  pub whole : length bytes ≡ 48

-- a builder has room for a geometry, which is of the kind of those that it has
abbrev pub HasRoomFor : Geometry → List bottoms.Geometry → Type 0
HasRoomFor (geometries.Triangles opaque format vertex stride max_vertex index transform count primitive_offset first_vertex transform_offset) added =
    HasRoom Triangle count added
HasRoomFor (geometries.Boxes opaque content stride count primitive_offset) added = HasRoom Aabb count added
HasRoomFor (geometries.Instances content count primitive_offset) added = Unit {0}

-- the geometries that are added and those that are left are all of triangles, or all of boxes
pub data AreOneKind (left : List Geometry) (added : List bottoms.Geometry) : Type 0 where
  OfTriangles : list_all is_triangles left ≡ true → All (λ (g : bottoms.Geometry). kind_of g ≡ Triangle) added → AreOneKind left added
  OfBoxes : list_all is_boxes left ≡ true → All (λ (g : bottoms.Geometry). kind_of g ≡ Aabb) added → AreOneKind left added

-- the geometries that are left can be added: with them there are not too many, all of one kind, and all that
-- is read of them is there
pub record CanAdd (memory : Memory) (left : List Geometry) (added : List bottoms.Geometry) : Type 0 where
  pub few : length added + length left ≤ 256
  pub few_primitives : total_of added + primitives left ≤ 2 ^ 20
  pub one_kind : AreOneKind left added
  pub there : All (IsThereNow memory) left

-- ---- what comes of it

-- a builder with geometries, or the first rule that is broken; want of memory is free
abbrev pub IsBuilder : Result BuilderValue DataFault → Result BuilderWithTree BuildFault → Type 0
IsBuilder added (Ok builder) = added ≡ Ok (bare builder)
IsBuilder added (Err (Data fault)) = added ≡ Err fault
IsBuilder added (Err NoMemory) = Unit {0}
