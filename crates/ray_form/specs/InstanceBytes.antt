-- The instances of a top structure's form: 64 bytes each, as in a buffer of instances, but with the number of a handle in
-- place of the reference: 1 for the first handle. (VkAccelerationStructureInstanceKHR; own: the layout.)
use Rattle.std.specs.Prelude.{ℕ, ◌/◌, ◌==◌, ◌&&◌, not, nat_le, nat_lt, Bool, if◌then◌else◌, is_some, List, length}
use Rattle.std.specs.List.{list_all}
use Rattle.std.specs.Simd.{first_chunks}
use Rattle.ray_bytes.specs.declared.instance_record.InstanceRecord.{InstanceRecord}
use Rattle.ray_bytes.specs.Records.{instance_of}
use Rattle.ray_contents.specs.Limits.{matrix_within}
use Rattle.ray_top.specs.Instances.{matrix_from, flags_in, forces_both}

-- whether an instance is active
abbrev pub is_active : InstanceRecord → Bool
is_active from = not (from.reference == 0)

-- whether an active instance is one: its number is that of a handle, its transform is within the limits, it has the four
-- flags alone, and it doesn't force both opaque and no opaque
unfoldable pub is_placed : ℕ → InstanceRecord → Bool
is_placed handles from =
    nat_le from.reference handles && is_some (matrix_within (matrix_from from.rows)) && nat_lt from.flags 16
    && not (forces_both (flags_in from))

-- whether 64 bytes are an instance, where there are this many handles; an inactive one is zeros
unfoldable pub is_instance : ℕ → List ℕ → Bool
is_instance handles bytes =
    if is_active (instance_of bytes) then is_placed handles (instance_of bytes) else list_all (λ byte. byte == 0) bytes

-- the 64 bytes of each instance
abbrev pub instance_parts : List ℕ → List (List ℕ)
instance_parts elements = first_chunks 64 (length elements / 64) elements

-- whether all of them are instances
unfoldable pub are_instances : ℕ → List ℕ → Bool
are_instances handles elements = list_all (is_instance handles) (instance_parts elements)
