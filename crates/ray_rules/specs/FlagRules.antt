-- Rules on ray flags, scripts and barriers. (SPIR-V: Ray Flags; Vulkan: the valid usage of
-- VkMemoryBarrier and its table of supported access types; own: scripts.)
use Rattle.std.specs.Prelude.{List, [], ◌∷◌, Option, None, Bool, ◌&&◌, ◌||◌, ◌==◌, not, nat_lt, option_map}
use Rattle.std.specs.List.{list_any, count_by}
use Rattle.ray_cmd.specs.declared.command.Command.{Command}
use Rattle.ray_cmd.specs.declared.command.Command.TheVariants as commands
use Rattle.ray_cmd.specs.declared.place.Place.{Place}
use Rattle.ray_cmd.specs.declared.place.Place.TheVariants.{Part}
use Rattle.ray_flags.specs.Flags.{ray_has, CullBackFacing, CullFrontFacing, CullNoOpaque, CullOpaque, NoOpaque, Opaque, SkipAabbs, SkipTriangles}
use Rattle.ray_flags.specs.Flags.{Stage, stages_have, Build, Compute, Host, StructureCopy, Transfer}
use Rattle.ray_flags.specs.Flags.{AccessFlag, access_has, HostRead, HostWrite, MemoryRead, MemoryWrite, ShaderRead, ShaderWrite, StructureRead, StructureWrite, TransferRead, TransferWrite}
use Rattle.ray_flags.specs.declared.access.Access.{Access}
use Rattle.ray_flags.specs.declared.ray_flags.RayFlags.{RayFlags}
use Rattle.ray_flags.specs.declared.stages.Stages.{Stages}
use Rattle.ray_rules.specs.Places.{whole}
use Rattle.ray_script.specs.Scripts.{refused_at}

-- whether more than one of these hold
abbrev pub are_several : List Bool → Bool
are_several facts = nat_lt 1 (count_by (λ fact. fact) facts)

-- whether ray flags contradict each other
abbrev pub is_contradiction : RayFlags → Bool
is_contradiction flags =
    are_several (ray_has flags Opaque ∷ ray_has flags NoOpaque ∷ ray_has flags CullOpaque ∷ ray_has flags CullNoOpaque ∷ [])
    || (are_several (ray_has flags SkipTriangles ∷ ray_has flags CullBackFacing ∷ ray_has flags CullFrontFacing ∷ [])
    || are_several (ray_has flags SkipTriangles ∷ ray_has flags SkipAabbs ∷ []))

-- V22: more than one of `opaque`, `no_opaque`, `cull_opaque`, `cull_no_opaque`; more than one of
-- `skip_triangles`, `cull_back_facing`, `cull_front_facing`; both skips
unfoldable pub v22 : Command → Option Place
v22 (commands.Trace top rays count hits flags mask script) = whole (is_contradiction flags)
v22 _ = None

-- V23: a rule's `den` is 0 or above 65,536 or its `num` above 2^40; more than 4,096 rules
unfoldable pub v23 : Command → Option Place
v23 (commands.Trace top rays count hits flags mask script) = option_map Part (refused_at script)
v23 _ = None

-- whether accesses have one that only these stages support, and none of them is there
abbrev pub lacks_stage : Access → AccessFlag → Stages → List Stage → Bool
lacks_stage access flag stages support = access_has access flag && not (list_any (stages_have stages) support)

-- whether accesses have one that no stage supports. Every stage supports `memory_read` and
-- `memory_write`
unfoldable pub is_unsupported : Stages → Access → Bool
is_unsupported stages access =
    (lacks_stage access TransferRead stages (Transfer ∷ Build ∷ StructureCopy ∷ [])
    || lacks_stage access TransferWrite stages (Transfer ∷ Build ∷ StructureCopy ∷ []))
    || ((lacks_stage access ShaderRead stages (Build ∷ Compute ∷ [])
    || lacks_stage access ShaderWrite stages (Compute ∷ []))
    || ((lacks_stage access StructureRead stages (Build ∷ StructureCopy ∷ Compute ∷ [])
    || lacks_stage access StructureWrite stages (Build ∷ StructureCopy ∷ []))
    || ((lacks_stage access HostRead stages (Host ∷ [])
    || lacks_stage access HostWrite stages (Host ∷ []))
    || ((access_has access MemoryRead || access_has access MemoryWrite) && stages.0 == 0))))

-- V24: an access that no named stage of its side supports
unfoldable pub v24 : Command → Option Place
v24 (commands.Barrier src_stages src_access dst_stages dst_access buffers) =
    whole (is_unsupported src_stages src_access || is_unsupported dst_stages dst_access)
v24 _ = None
