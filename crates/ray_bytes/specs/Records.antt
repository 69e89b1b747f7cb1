-- What the bytes of a record say, little-endian. (A transform is VkTransformMatrixKHR, a box
-- VkAabbPositionsKHR and an instance VkAccelerationStructureInstanceKHR, with whole numbers in place
-- of floats; a ray is our own.)
use Rattle.std.specs.Prelude.{ℕ, ◌/◌, ◌%◌, ◌^◌, ℤ, pos, Bool, if◌then◌else◌, List, [], ◌∷◌}
use Rattle.ray_bytes.specs.declared.format.Format.{Format}
use Rattle.ray_bytes.specs.declared.format.Format.TheVariants.{S32x3, S32x2, S16x3}
use Rattle.ray_bytes.specs.declared.instance_record.InstanceRecord.{InstanceRecord}
use Rattle.ray_bytes.specs.declared.ray_record.RayRecord.{RayRecord}
use Rattle.ray_bytes.specs.Fields.{half_at, short_at, word_at, signed_at, long_at}

-- a vertex: x, y and z, where z is 0 if the format has none
abbrev pub vertex_of : Format → List ℕ → List ℤ
vertex_of S32x3 bytes = signed_at bytes 0 ∷ signed_at bytes 4 ∷ signed_at bytes 8 ∷ []
vertex_of S32x2 bytes = signed_at bytes 0 ∷ signed_at bytes 4 ∷ pos 0 ∷ []
vertex_of S16x3 bytes = short_at bytes 0 ∷ short_at bytes 2 ∷ short_at bytes 4 ∷ []

-- how many bytes an index has: 4 where it is wide, else 2
abbrev pub index_size : Bool → ℕ
index_size wide = if wide then 4 else 2

-- an index
abbrev pub index_of : Bool → List ℕ → ℕ
index_of wide bytes = if wide then word_at bytes 0 else half_at bytes 0

-- a box: its least x, y and z, then its greatest
abbrev pub box_of : List ℕ → List ℤ
box_of bytes =
    signed_at bytes 0 ∷ signed_at bytes 4 ∷ signed_at bytes 8
    ∷ signed_at bytes 12 ∷ signed_at bytes 16 ∷ signed_at bytes 20 ∷ []

-- a transform: three rows of four entries
abbrev pub transform_of : List ℕ → List ℤ
transform_of bytes =
    signed_at bytes 0 ∷ signed_at bytes 4 ∷ signed_at bytes 8 ∷ signed_at bytes 12
    ∷ signed_at bytes 16 ∷ signed_at bytes 20 ∷ signed_at bytes 24 ∷ signed_at bytes 28
    ∷ signed_at bytes 32 ∷ signed_at bytes 36 ∷ signed_at bytes 40 ∷ signed_at bytes 44 ∷ []

-- the low 24 bits of a word, and its high 8
abbrev pub low_bits : ℕ → ℕ
low_bits word = word % 2 ^ 24

abbrev pub high_bits : ℕ → ℕ
high_bits word = word / 2 ^ 24

-- an instance: its transform, then a word with custom index and mask, a word with binding-table
-- offset and flags, and the reference of its structure
abbrev pub instance_of : List ℕ → InstanceRecord
instance_of bytes = record {
  rows = transform_of bytes;
  custom = low_bits (word_at bytes 48);
  mask = high_bits (word_at bytes 48);
  sbt = low_bits (word_at bytes 52);
  flags = high_bits (word_at bytes 52);
  reference = long_at bytes 56;
}

-- a ray: its origin, its direction, and the ends of its interval in 1/65536
abbrev pub ray_of : List ℕ → RayRecord
ray_of bytes = record {
  origin = signed_at bytes 0 ∷ signed_at bytes 4 ∷ signed_at bytes 8 ∷ [];
  dir = signed_at bytes 12 ∷ signed_at bytes 16 ∷ signed_at bytes 20 ∷ [];
  tmin = long_at bytes 24;
  tmax = long_at bytes 32;
}
