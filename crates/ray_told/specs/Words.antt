-- Flags and accesses, as a recording writes them. (Own.)
use Rattle.std.specs.Prelude.{ℕ, List, codes}
use Rattle.ray_kinds.specs.declared.words.AccessWord.{AccessWord}
use Rattle.ray_kinds.specs.declared.words.AccessWord.TheVariants as accesses
use Rattle.ray_kinds.specs.declared.words.RayWord.{RayWord}
use Rattle.ray_kinds.specs.declared.words.RayWord.TheVariants as rays

-- a flag of a ray
abbrev pub ray_word : RayWord → List ℕ
ray_word rays.Opaque = codes "opaque"
ray_word rays.NoOpaque = codes "no_opaque"
ray_word rays.CullOpaque = codes "cull_opaque"
ray_word rays.CullNoOpaque = codes "cull_no_opaque"
ray_word rays.SkipTriangles = codes "skip_triangles"
ray_word rays.CullBackFacing = codes "cull_back_facing"
ray_word rays.CullFrontFacing = codes "cull_front_facing"
ray_word rays.SkipAabbs = codes "skip_aabbs"

-- an access of a barrier
abbrev pub access_word : AccessWord → List ℕ
access_word accesses.TransferRead = codes "transfer_read"
access_word accesses.TransferWrite = codes "transfer_write"
access_word accesses.ShaderRead = codes "shader_read"
access_word accesses.ShaderWrite = codes "shader_write"
access_word accesses.StructureRead = codes "structure_read"
access_word accesses.StructureWrite = codes "structure_write"
access_word accesses.HostRead = codes "host_read"
access_word accesses.HostWrite = codes "host_write"
access_word accesses.MemoryRead = codes "memory_read"
access_word accesses.MemoryWrite = codes "memory_write"
