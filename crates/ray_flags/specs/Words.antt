-- The words of each set: the word of each flag, with the flag's bits. Each table is stated here
-- alone, and `Flags::flags`, `from_word` and the constants of each type are proved to be this table.
use Rattle.std.specs.Prelude.{[], ◌&&◌, ◌∷◌, ◌==◌, Bool, List, ℕ, codes, length, not, true}
use Rattle.std.specs.List.{list_all}
use Rattle.std.specs.Str.{bytes_eq}
use Rattle.bitflags.specs.Sets.{Row}
use Rattle.ray_flags.specs.Flags.{usage_bits, Input, Storage, TransferSrc, TransferDst, Scratch, Structure, build_bits, AllowUpdate, AllowCompaction, PreferFastTrace, PreferFastBuild, LowMemory, ray_bits, Opaque, NoOpaque, TerminateOnFirstHit, SkipClosestHitShader, CullBackFacing, CullFrontFacing, CullOpaque, CullNoOpaque, SkipTriangles, SkipAabbs, instance_bits, TriangleFacingCullDisable, TriangleFlipFacing, ForceOpaque, ForceNoOpaque, stage_bits, Transfer, Build, StructureCopy, Compute, Host, AllStages, access_bits, TransferRead, TransferWrite, ShaderRead, ShaderWrite, StructureRead, StructureWrite, HostRead, HostWrite, MemoryRead, MemoryWrite}

-- whether no row has this word (own)
abbrev pub is_new : List ℕ → List Row → Bool
is_new word rows = list_all (λ row. not (bytes_eq word row.0)) rows

-- whether each row has a word of its own: it isn't empty, and no later row has it (own)
abbrev pub has_own_words : List Row → Bool
has_own_words [] = true
has_own_words (row ∷ rest) = not (length row.0 == 0) && (is_new row.0 rest && has_own_words rest)

-- what a buffer may be used for (own: the words)
abbrev pub usage_words : List Row
usage_words =
    (codes "input", usage_bits Input)
    ∷ (codes "storage", usage_bits Storage)
    ∷ (codes "transfer_src", usage_bits TransferSrc)
    ∷ (codes "transfer_dst", usage_bits TransferDst)
    ∷ (codes "scratch", usage_bits Scratch)
    ∷ (codes "structure", usage_bits Structure)
    ∷ []

-- how a structure is built (own: the words)
abbrev pub build_words : List Row
build_words =
    (codes "allow_update", build_bits AllowUpdate)
    ∷ (codes "allow_compaction", build_bits AllowCompaction)
    ∷ (codes "prefer_fast_trace", build_bits PreferFastTrace)
    ∷ (codes "prefer_fast_build", build_bits PreferFastBuild)
    ∷ (codes "low_memory", build_bits LowMemory)
    ∷ []

-- what a ray skips and culls (own: the words)
abbrev pub ray_words : List Row
ray_words =
    (codes "opaque", ray_bits Opaque)
    ∷ (codes "no_opaque", ray_bits NoOpaque)
    ∷ (codes "terminate_on_first_hit", ray_bits TerminateOnFirstHit)
    ∷ (codes "skip_closest_hit_shader", ray_bits SkipClosestHitShader)
    ∷ (codes "cull_back_facing", ray_bits CullBackFacing)
    ∷ (codes "cull_front_facing", ray_bits CullFrontFacing)
    ∷ (codes "cull_opaque", ray_bits CullOpaque)
    ∷ (codes "cull_no_opaque", ray_bits CullNoOpaque)
    ∷ (codes "skip_triangles", ray_bits SkipTriangles)
    ∷ (codes "skip_aabbs", ray_bits SkipAabbs)
    ∷ []

-- the facing and the opacity of an instance (own: the words; no recording names them)
abbrev pub instance_words : List Row
instance_words =
    (codes "triangle_facing_cull_disable", instance_bits TriangleFacingCullDisable)
    ∷ (codes "triangle_flip_facing", instance_bits TriangleFlipFacing)
    ∷ (codes "force_opaque", instance_bits ForceOpaque)
    ∷ (codes "force_no_opaque", instance_bits ForceNoOpaque)
    ∷ []

-- the stages of a barrier (own: the words)
abbrev pub stage_words : List Row
stage_words =
    (codes "transfer", stage_bits Transfer)
    ∷ (codes "build", stage_bits Build)
    ∷ (codes "structure_copy", stage_bits StructureCopy)
    ∷ (codes "compute", stage_bits Compute)
    ∷ (codes "host", stage_bits Host)
    ∷ (codes "all", stage_bits AllStages)
    ∷ []

-- the accesses of a barrier (own: the words)
abbrev pub access_words : List Row
access_words =
    (codes "transfer_read", access_bits TransferRead)
    ∷ (codes "transfer_write", access_bits TransferWrite)
    ∷ (codes "shader_read", access_bits ShaderRead)
    ∷ (codes "shader_write", access_bits ShaderWrite)
    ∷ (codes "structure_read", access_bits StructureRead)
    ∷ (codes "structure_write", access_bits StructureWrite)
    ∷ (codes "host_read", access_bits HostRead)
    ∷ (codes "host_write", access_bits HostWrite)
    ∷ (codes "memory_read", access_bits MemoryRead)
    ∷ (codes "memory_write", access_bits MemoryWrite)
    ∷ []
