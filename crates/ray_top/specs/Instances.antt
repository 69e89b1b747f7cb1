-- The instances of top structures, and how a record of the buffer says one. (VkAccelerationStructureInstanceKHR, with whole
-- numbers in its transform and a reference in place of a device address.)
use Rattle.std.specs.Prelude.{ℕ, ℤ, ◌%◌, ◌&&◌, Bool, true, false, Option, Some, None, option_and_then, List, slice_get}
use Rattle.ray_geom.specs.Transform.{MatrixValue, matrix_of, table_of, identity_value}
use Rattle.ray_bytes.specs.declared.instance_record.InstanceRecord.{InstanceRecord}
use Rattle.ray_flags.specs.declared.instance_flags.InstanceFlags.{InstanceFlags}
use Rattle.ray_flags.specs.Flags.{instance_has, ForceOpaque, ForceNoOpaque}
use Rattle.ray_top.specs.declared.instance.Instance.{Instance}

-- an active instance: its transform from the space of its structure into the world, its custom index, its mask, its
-- binding-table offset, its four flags, and the id of its bottom structure. An inactive one is none of this
pub record InstanceValue : Type 0 where
  pub matrix : MatrixValue
  pub custom : ℕ
  pub mask : ℕ
  pub sbt : ℕ
  pub flags : InstanceFlags
  pub id : ℕ

-- an active instance that is told, as a value
abbrev pub instance_value : Instance → InstanceValue
instance_value i = record { matrix = i.matrix; custom = i.custom; mask = i.mask; sbt = i.sbt; flags = i.flags; id = i.id }

-- the transform of the twelve numbers of a record, row by row
unfoldable pub matrix_from : List ℤ → MatrixValue
matrix_from rows = matrix_of (table_of rows)

-- the four flags of a record: bits above 8 are dropped
abbrev pub flags_in : InstanceRecord → InstanceFlags
flags_in from = record { 0 = from.flags % 16 }

-- the instance of a record whose reference is that of this id
abbrev pub instance_from : InstanceRecord → ℕ → InstanceValue
instance_from from id = record {
  matrix = matrix_from from.rows;
  custom = from.custom;
  mask = from.mask;
  sbt = from.sbt;
  flags = flags_in from;
  id = id;
}

-- whether flags force opaque, and force no opaque
abbrev pub forces_both : InstanceFlags → Bool
forces_both flags = instance_has flags ForceOpaque && instance_has flags ForceNoOpaque

-- what the program tells of an instance: an inactive one has the identity and zeros
abbrev pub told_instance : Option InstanceValue → Instance
told_instance (Some i) = record {
  active = true;
  matrix = i.matrix;
  custom = i.custom;
  mask = i.mask;
  sbt = i.sbt;
  flags = i.flags;
  id = i.id;
}
told_instance None = record {
  active = false;
  matrix = identity_value;
  custom = 0;
  mask = 0;
  sbt = 0;
  flags = record { 0 = 0 };
  id = 0;
}

-- the instance of a number, where it is active
abbrev pub active_at : List (Option InstanceValue) → ℕ → Option InstanceValue
active_at instances i = option_and_then (λ o. o) (slice_get instances i)
