-- The flags of a trace that exclude one another, and the accesses of a barrier that no stage of their
-- side supports, as V22 and V24 ask them. (SPIR-V: Ray Flags; Vulkan: the table of supported access
-- types.)
use Rattle.std.specs.Prelude.{[], ◌∷◌, Option, Some, None, Bool, true, false, ◌&&◌, ◌==◌}
use Rattle.std.specs.Option.{option_map_or}
use Rattle.ray_cmd.specs.declared.command.Command.{Command}
use Rattle.ray_cmd.specs.declared.command.Command.TheVariants as commands
use Rattle.ray_flags.specs.Flags.{RayFlag, access_has, ray_has}
use Rattle.ray_flags.specs.Flags as flags
use Rattle.ray_flags.specs.declared.access.Access.{Access}
use Rattle.ray_flags.specs.declared.stages.Stages.{Stages}
use Rattle.ray_flags.specs.Flags.{Build, Compute, Host, StructureCopy, Transfer}
use Rattle.ray_causes.specs.declared.member.Member.{Member}
use Rattle.ray_causes.specs.declared.member.Member.TheVariants as members
use Rattle.ray_causes.specs.declared.member.Name.{Name}
use Rattle.ray_causes.specs.declared.member.Name.TheVariants as names
use Rattle.ray_kinds.specs.declared.misfit.Side.{Side}
use Rattle.ray_kinds.specs.declared.words.AccessWord.{AccessWord}
use Rattle.ray_kinds.specs.declared.words.AccessWord.TheVariants as accesses
use Rattle.ray_kinds.specs.declared.words.RayWord.{RayWord}
use Rattle.ray_kinds.specs.declared.words.RayWord.TheVariants as rays
use Rattle.ray_rules.specs.FlagRules.{lacks_stage}

-- ---- flags of rays

-- a word as a flag
abbrev pub ray_flag : RayWord → RayFlag
ray_flag rays.Opaque = flags.Opaque
ray_flag rays.NoOpaque = flags.NoOpaque
ray_flag rays.CullOpaque = flags.CullOpaque
ray_flag rays.CullNoOpaque = flags.CullNoOpaque
ray_flag rays.SkipTriangles = flags.SkipTriangles
ray_flag rays.CullBackFacing = flags.CullBackFacing
ray_flag rays.CullFrontFacing = flags.CullFrontFacing
ray_flag rays.SkipAabbs = flags.SkipAabbs

-- whether a trace has a flag
abbrev pub traced_has : Command → RayWord → Bool
traced_has (commands.Trace top rays count hits flags mask script) word = ray_has flags (ray_flag word)
traced_has _ word = false

-- whether a flag excludes `opaque`, `no_opaque`, `cull_opaque`, `skip_triangles` or
-- `cull_back_facing`, and comes behind it
abbrev pub excludes_opaque : RayWord → Bool
excludes_opaque rays.NoOpaque = true
excludes_opaque rays.CullOpaque = true
excludes_opaque rays.CullNoOpaque = true
excludes_opaque _ = false

abbrev pub excludes_no_opaque : RayWord → Bool
excludes_no_opaque rays.CullOpaque = true
excludes_no_opaque rays.CullNoOpaque = true
excludes_no_opaque _ = false

abbrev pub excludes_cull_opaque : RayWord → Bool
excludes_cull_opaque rays.CullNoOpaque = true
excludes_cull_opaque _ = false

abbrev pub excludes_skip_triangles : RayWord → Bool
excludes_skip_triangles rays.CullBackFacing = true
excludes_skip_triangles rays.CullFrontFacing = true
excludes_skip_triangles rays.SkipAabbs = true
excludes_skip_triangles _ = false

abbrev pub excludes_cull_back_facing : RayWord → Bool
excludes_cull_back_facing rays.CullFrontFacing = true
excludes_cull_back_facing _ = false

-- whether two flags exclude one another, and stand in this order
abbrev pub exclude : RayWord → RayWord → Bool
exclude rays.Opaque other = excludes_opaque other
exclude rays.NoOpaque other = excludes_no_opaque other
exclude rays.CullOpaque other = excludes_cull_opaque other
exclude rays.SkipTriangles other = excludes_skip_triangles other
exclude rays.CullBackFacing other = excludes_cull_back_facing other
exclude _ other = false

-- whether a trace has two flags that exclude one another
abbrev pub are_exclusive : Command → RayWord → RayWord → Bool
are_exclusive c one other = exclude one other && (traced_has c one && traced_has c other)

-- ---- accesses of barriers

-- stages and accesses
abbrev pub side : Stages → Access → Side
side stages access = record { stages = stages; access = access }

-- one side of a barrier at a name
abbrev pub at_access : Name → Side → Side → Option Side
at_access names.SrcAccess src dst = Some src
at_access names.DstAccess src dst = Some dst
at_access _ src dst = None

abbrev pub own_side : Command → Name → Option Side
own_side (commands.Barrier src_stages src_access dst_stages dst_access buffers) name =
    at_access name (side src_stages src_access) (side dst_stages dst_access)
own_side _ name = None

-- the side of a member
abbrev pub side_at : Command → Member → Option Side
side_at c (members.Own name) = own_side c name
side_at c _ = None

-- whether a side names an access, and no stage that supports it
abbrev pub lacks_support : Side → AccessWord → Bool
lacks_support side accesses.TransferRead =
    lacks_stage side.access flags.TransferRead side.stages (Transfer ∷ Build ∷ StructureCopy ∷ [])
lacks_support side accesses.TransferWrite =
    lacks_stage side.access flags.TransferWrite side.stages (Transfer ∷ Build ∷ StructureCopy ∷ [])
lacks_support side accesses.ShaderRead = lacks_stage side.access flags.ShaderRead side.stages (Build ∷ Compute ∷ [])
lacks_support side accesses.ShaderWrite = lacks_stage side.access flags.ShaderWrite side.stages (Compute ∷ [])
lacks_support side accesses.StructureRead =
    lacks_stage side.access flags.StructureRead side.stages (Build ∷ StructureCopy ∷ Compute ∷ [])
lacks_support side accesses.StructureWrite =
    lacks_stage side.access flags.StructureWrite side.stages (Build ∷ StructureCopy ∷ [])
lacks_support side accesses.HostRead = lacks_stage side.access flags.HostRead side.stages (Host ∷ [])
lacks_support side accesses.HostWrite = lacks_stage side.access flags.HostWrite side.stages (Host ∷ [])
lacks_support side accesses.MemoryRead = access_has side.access flags.MemoryRead && side.stages.0 == 0
lacks_support side accesses.MemoryWrite = access_has side.access flags.MemoryWrite && side.stages.0 == 0

-- the same of the side of a member
abbrev pub lacks_at : Command → Member → AccessWord → Bool
lacks_at c member word = option_map_or (λ (s : Side). lacks_support s word) (side_at c member) false
