-- How many bytes an acceleration structure and its builds take. (Own: the numbers; what they are for
-- are the members of VkAccelerationStructureBuildSizesInfoKHR, and the compacted size that
-- VK_QUERY_TYPE_ACCELERATION_STRUCTURE_COMPACTED_SIZE_KHR asks for.)
use Rattle.std.specs.Prelude.{◌≡◌, ℕ, ◌+◌, ◌*◌, ◌/◌, ◌%◌, ◌<◌, ◌≤◌}

-- the least multiple of 256 that is at least n
abbrev pub rounded_up : ℕ → ℕ
rounded_up n = (n + 255) / 256 * 256

-- m is the least multiple of 256 that is at least n
pub record IsRoundedUp (n m : ℕ) : Type 0 where
  pub multiple : m % 256 ≡ 0
  pub enough : n ≤ m
  pub least : m < n + 256

-- the size of a structure of this many geometries and primitives
abbrev pub structure_size : ℕ → ℕ → ℕ
structure_size geometries primitives = rounded_up (128 + 32 * geometries + 128 * primitives)

-- the scratch memory of a build of this many primitives
abbrev pub build_scratch_size : ℕ → ℕ
build_scratch_size primitives = rounded_up (256 + 64 * primitives)

-- the scratch memory of an update of this many primitives
abbrev pub update_scratch_size : ℕ → ℕ
update_scratch_size primitives = rounded_up (256 + 32 * primitives)

-- the size of the compacted structure, of which this many primitives are active
abbrev pub compacted_size : ℕ → ℕ → ℕ → ℕ
compacted_size geometries primitives active =
    rounded_up (128 + 32 * geometries + 32 * primitives + 64 * active)
