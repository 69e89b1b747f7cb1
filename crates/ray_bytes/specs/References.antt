-- Which structure an instance refers to. (Own: the numbers; they stand for the device addresses in
-- VkAccelerationStructureInstanceKHR.)
use Rattle.std.specs.Prelude.{ℕ, ◌+◌, ◌-◌, ◌*◌, ◌/◌, ◌%◌, ◌^◌, ◌==◌, ◌&&◌, Bool, nat_le, if◌then◌else◌}
use Rattle.ray_bytes.specs.declared.reference.Reference.{Reference}
use Rattle.ray_bytes.specs.declared.reference.Reference.TheVariants.{Inactive, Structure, Unknown}

-- the reference of the structure of an id: 256 times one more than the id
abbrev pub reference_of : ℕ → ℕ
reference_of id = 256 * (id + 1)

-- whether a number above 0 is the reference of an id of 32 bits
abbrev pub names_structure : ℕ → Bool
names_structure reference = (reference % 256 == 0) && nat_le (reference / 256) (2 ^ 32)

-- what a number refers to: 0 makes its instance inactive, and any other number refers to the
-- structure of an id of 32 bits or to none
abbrev pub structure_of : ℕ → Reference
structure_of reference =
    if reference == 0 then Inactive
    else if names_structure reference then Structure (reference / 256 - 1)
    else Unknown
