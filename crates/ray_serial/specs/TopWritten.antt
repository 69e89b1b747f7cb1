-- The form that a top structure is written as. (Own: the form; vkCmdCopyAccelerationStructureToMemoryKHR, whose handles are
-- the device addresses of the bottom structures that instances refer to.)
--
-- By hand, of an instance with the identity, mask 255 and the structure 0 alone: the one handle is 256, and the 64 bytes are
-- those of the instance in a buffer, with 1 in place of the reference 256.
use Rattle.std.specs.Prelude.{ℕ, ℤ, pos, ◌+◌, ◌*◌, ◌^◌, ◌<◌, ◌==◌, ◌&&◌, Bool, slice_index_or, if◌then◌else◌, Option, List, [], ◌∷◌, ◌++◌, length, fold, replicate, All, Some, None, map}
use Rattle.std.specs.Int.{w32, cast_unsigned}
use Rattle.std.specs.Int.RustNames.{FitsSigned}
use Rattle.std.specs.List.{flat_map, position_or_len}
use Rattle.std.specs.Ordering.{nat_cmp}
use Rattle.std.specs.BTreeSet.{insert_key}
use Rattle.byteorder.specs.Endian.{little_bytes}
use Rattle.ray_geom.specs.Transform.{MatrixValue, rows_of}
use Rattle.ray_bytes.specs.declared.instance_record.InstanceRecord.{InstanceRecord}
use Rattle.ray_bytes.specs.References.{reference_of}
use Rattle.ray_bytes.specs.StructureSizes.{structure_size}
use Rattle.ray_geometries.specs.Storing.{bytes_of_words}
use Rattle.ray_top.specs.declared.instance.Instance.{Instance}
use Rattle.ray_top.specs.Instances.{InstanceValue, told_instance}
use Rattle.ray_top.specs.Contents as tops
use Rattle.ray_serial.specs.Written.{form_bytes}

-- ---- the handles

-- the references so far, with that of an instance more at its place in the order, where it is active
abbrev pub with_handle : List ℕ → Instance → List ℕ
with_handle handles told = if told.active then insert_key nat_cmp handles (reference_of told.id) else handles

-- the distinct references of the active instances, in rising order
unfoldable pub handles_of : List (Option InstanceValue) → List ℕ
handles_of instances = fold (λ handles i. with_handle handles (told_instance i)) [] instances

-- the number of a reference among the handles, from 1 on
unfoldable pub handle_number : List ℕ → ℕ → ℕ
handle_number handles reference = position_or_len (λ handle. handle == reference) handles + 1

-- ---- the instances

-- a row of a transform as words (VkTransformMatrixKHR)
abbrev pub row_words : List ℤ → List ℕ
row_words row =
    let entry : ℕ → ℤ = λ k. slice_index_or row k (pos 0) in
    cast_unsigned w32 (entry 0) ∷ cast_unsigned w32 (entry 1) ∷ cast_unsigned w32 (entry 2) ∷ cast_unsigned w32 (entry 3) ∷ []

-- the fourteen words before the reference: the transform, the custom index with the mask above it, and the binding-table
-- offset with the flags above it
abbrev pub instance_words : Instance → List ℕ
instance_words told =
    flat_map row_words (rows_of told.matrix) ++ (told.custom + 16777216 * told.mask) ∷ (told.sbt + 16777216 * told.flags.0) ∷ []

-- the 64 bytes of an instance as it is told, with the number of a handle in place of the reference; zeros where it is inactive
unfoldable pub placed_bytes : ℕ → Instance → List ℕ
placed_bytes number told = flat_map (little_bytes 4) (instance_words told) ++ little_bytes 8 number

unfoldable pub instance_bytes : List ℕ → Instance → List ℕ
instance_bytes handles told =
    if told.active then placed_bytes (handle_number handles (reference_of told.id)) told else replicate 64 0

-- the record of an instance, which refers to its structure; none where it is inactive
abbrev pub matrix_entries : MatrixValue → List ℤ
matrix_entries m =
    m.a.x ∷ m.a.y ∷ m.a.z ∷ m.t.x ∷ m.b.x ∷ m.b.y ∷ m.b.z ∷ m.t.y ∷ m.c.x ∷ m.c.y ∷ m.c.z ∷ m.t.z ∷ []

abbrev pub record_of : Instance → InstanceRecord
record_of told = record {
  rows = matrix_entries told.matrix;
  custom = told.custom;
  mask = told.mask;
  sbt = told.sbt;
  flags = told.flags.0;
  reference = reference_of told.id;
}

abbrev pub told_record : Instance → Option InstanceRecord
told_record told = if told.active then Some (record_of told) else None

-- those of all instances
abbrev pub records_of : List (Option InstanceValue) → List (Option InstanceRecord)
records_of instances = map (λ i. told_record (told_instance i)) instances

-- ---- the whole

-- all instances
unfoldable pub all_instance_bytes : List ℕ → List (Option InstanceValue) → List ℕ
all_instance_bytes handles instances = flat_map (λ i. instance_bytes handles (told_instance i)) instances

-- the payload: its head, which says 1 for a top structure with one geometry, and the head of that, which says 2 for instances
unfoldable pub top_head : ℕ → ℕ → List ℕ
top_head flags count = bytes_of_words (1 ∷ flags ∷ 1 ∷ 0 ∷ []) ++ bytes_of_words (2 ∷ 0 ∷ 0 ∷ 0 ∷ count ∷ 0 ∷ 0 ∷ 0 ∷ [])

abbrev pub top_payload : List ℕ → tops.ContentsValue → List ℕ
top_payload handles c = top_head c.flags.0 (length c.instances) ++ all_instance_bytes handles c.instances

-- the form
unfoldable pub top_form : tops.ContentsValue → List ℕ
top_form c =
    form_bytes (structure_size 1 (length c.instances)) (handles_of c.instances) (top_payload (handles_of c.instances) c)

-- ---- words of private calls alone

-- whether an instance is active and refers to the structure of an id
abbrev pub refers_to : ℕ → Option InstanceValue → Bool
refers_to id i = (told_instance i).active && ((told_instance i).id == id)

-- the numbers of a row fit 32 bits
pub record FitsRow (row : List ℤ) : Type 0 where
  pub each : (k : ℕ) → FitsSigned w32 (slice_index_or row k (pos 0))

-- the numbers of an instance fit their bits
pub record FitsBits (told : Instance) : Type 0 where
  pub custom : told.custom < 2 ^ 24
  pub sbt : told.sbt < 2 ^ 24
  pub flags : told.flags.0 < 16

-- the mask and the id of an instance fit their bits
pub record FitsTold (told : Instance) : Type 0 where
  pub mask : told.mask < 2 ^ 8
  pub id : told.id < 2 ^ 32

-- those of each instance
pub record AreNarrow (instances : List (Option InstanceValue)) : Type 0 where
  pub each : All (λ i. FitsTold (told_instance i)) instances

-- handles rise
pub record IsRising (handles : List ℕ) : Type 0 where
  pub each : (i j : ℕ) → i < j → j < length handles → slice_index_or handles i 0 < slice_index_or handles j 0
