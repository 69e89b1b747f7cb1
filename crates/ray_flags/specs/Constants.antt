-- The constants of each type with the words that they stand for. Cited by one clause of `from_word`,
-- which says that they are the table of `Words`.
use Rattle.std.specs.Prelude.{[], ◌∷◌, List, codes}
use Rattle.bitflags.specs.Sets.{Row}
use Rattle.ray_flags.specs.declared.usage.TheConstants.Usage as usage
use Rattle.ray_flags.specs.declared.build_flags.TheConstants.BuildFlags as build
use Rattle.ray_flags.specs.declared.ray_flags.TheConstants.RayFlags as ray
use Rattle.ray_flags.specs.declared.stages.TheConstants.Stages as stage
use Rattle.ray_flags.specs.declared.access.TheConstants.Access as access

-- the constants of `Usage`
abbrev pub usage_constants : List Row
usage_constants =
    (codes "input", usage.INPUT.0)
    ∷ (codes "storage", usage.STORAGE.0)
    ∷ (codes "transfer_src", usage.TRANSFER_SRC.0)
    ∷ (codes "transfer_dst", usage.TRANSFER_DST.0)
    ∷ (codes "scratch", usage.SCRATCH.0)
    ∷ (codes "structure", usage.STRUCTURE.0)
    ∷ []

-- the constants of `BuildFlags`
abbrev pub build_constants : List Row
build_constants =
    (codes "allow_update", build.ALLOW_UPDATE.0)
    ∷ (codes "allow_compaction", build.ALLOW_COMPACTION.0)
    ∷ (codes "prefer_fast_trace", build.PREFER_FAST_TRACE.0)
    ∷ (codes "prefer_fast_build", build.PREFER_FAST_BUILD.0)
    ∷ (codes "low_memory", build.LOW_MEMORY.0)
    ∷ []

-- the constants of `RayFlags`
abbrev pub ray_constants : List Row
ray_constants =
    (codes "opaque", ray.OPAQUE.0)
    ∷ (codes "no_opaque", ray.NO_OPAQUE.0)
    ∷ (codes "terminate_on_first_hit", ray.TERMINATE_ON_FIRST_HIT.0)
    ∷ (codes "skip_closest_hit_shader", ray.SKIP_CLOSEST_HIT_SHADER.0)
    ∷ (codes "cull_back_facing", ray.CULL_BACK_FACING.0)
    ∷ (codes "cull_front_facing", ray.CULL_FRONT_FACING.0)
    ∷ (codes "cull_opaque", ray.CULL_OPAQUE.0)
    ∷ (codes "cull_no_opaque", ray.CULL_NO_OPAQUE.0)
    ∷ (codes "skip_triangles", ray.SKIP_TRIANGLES.0)
    ∷ (codes "skip_aabbs", ray.SKIP_AABBS.0)
    ∷ []

-- the constants of `Stages`
abbrev pub stage_constants : List Row
stage_constants =
    (codes "transfer", stage.TRANSFER.0)
    ∷ (codes "build", stage.BUILD.0)
    ∷ (codes "structure_copy", stage.STRUCTURE_COPY.0)
    ∷ (codes "compute", stage.COMPUTE.0)
    ∷ (codes "host", stage.HOST.0)
    ∷ (codes "all", stage.ALL.0)
    ∷ []

-- the constants of `Access`
abbrev pub access_constants : List Row
access_constants =
    (codes "transfer_read", access.TRANSFER_READ.0)
    ∷ (codes "transfer_write", access.TRANSFER_WRITE.0)
    ∷ (codes "shader_read", access.SHADER_READ.0)
    ∷ (codes "shader_write", access.SHADER_WRITE.0)
    ∷ (codes "structure_read", access.STRUCTURE_READ.0)
    ∷ (codes "structure_write", access.STRUCTURE_WRITE.0)
    ∷ (codes "host_read", access.HOST_READ.0)
    ∷ (codes "host_write", access.HOST_WRITE.0)
    ∷ (codes "memory_read", access.MEMORY_READ.0)
    ∷ (codes "memory_write", access.MEMORY_WRITE.0)
    ∷ []
