-- The flags of each set with their bits, and whether a set has one. A flag of another set, or of
-- none, can't be asked for.
use Rattle.std.specs.Prelude.{◌==◌, Bool, ℕ}
use Rattle.std.specs.Int.RustNames.{bit_and}
use Rattle.ray_flags.specs.declared.usage.Usage.{Usage}
use Rattle.ray_flags.specs.declared.build_flags.BuildFlags.{BuildFlags}
use Rattle.ray_flags.specs.declared.ray_flags.RayFlags.{RayFlags}
use Rattle.ray_flags.specs.declared.instance_flags.InstanceFlags.{InstanceFlags}
use Rattle.ray_flags.specs.declared.stages.Stages.{Stages}
use Rattle.ray_flags.specs.declared.access.Access.{Access}

-- whether a set of bits has all of these (own)
abbrev pub has_bits : ℕ → ℕ → Bool
has_bits set bits = bit_and set bits == bits

-- what a buffer may be used for (VkBufferUsageFlagBits; the bits are own, and so is `scratch`)
pub data UsageFlag : Type 0 where
  Input : UsageFlag
  Storage : UsageFlag
  TransferSrc : UsageFlag
  TransferDst : UsageFlag
  Scratch : UsageFlag
  Structure : UsageFlag

-- the bits of each usage
abbrev pub usage_bits : UsageFlag → ℕ
usage_bits Input = 1
usage_bits Storage = 2
usage_bits TransferSrc = 4
usage_bits TransferDst = 8
usage_bits Scratch = 16
usage_bits Structure = 32

-- whether a buffer may be used so
abbrev pub usage_has : Usage → UsageFlag → Bool
usage_has usage flag = has_bits usage.0 (usage_bits flag)

-- how a structure is built (VkBuildAccelerationStructureFlagBitsKHR, with its bits)
pub data BuildFlag : Type 0 where
  AllowUpdate : BuildFlag
  AllowCompaction : BuildFlag
  PreferFastTrace : BuildFlag
  PreferFastBuild : BuildFlag
  LowMemory : BuildFlag

-- the bits of each flag of a build
abbrev pub build_bits : BuildFlag → ℕ
build_bits AllowUpdate = 1
build_bits AllowCompaction = 2
build_bits PreferFastTrace = 4
build_bits PreferFastBuild = 8
build_bits LowMemory = 16

-- whether a build has a flag
abbrev pub build_has : BuildFlags → BuildFlag → Bool
build_has flags flag = has_bits flags.0 (build_bits flag)

-- what a ray skips and culls, and when it ends (the Ray Flags of SPIR-V, with their bits)
pub data RayFlag : Type 0 where
  Opaque : RayFlag
  NoOpaque : RayFlag
  TerminateOnFirstHit : RayFlag
  SkipClosestHitShader : RayFlag
  CullBackFacing : RayFlag
  CullFrontFacing : RayFlag
  CullOpaque : RayFlag
  CullNoOpaque : RayFlag
  SkipTriangles : RayFlag
  SkipAabbs : RayFlag

-- the bits of each flag of a ray
abbrev pub ray_bits : RayFlag → ℕ
ray_bits Opaque = 1
ray_bits NoOpaque = 2
ray_bits TerminateOnFirstHit = 4
ray_bits SkipClosestHitShader = 8
ray_bits CullBackFacing = 16
ray_bits CullFrontFacing = 32
ray_bits CullOpaque = 64
ray_bits CullNoOpaque = 128
ray_bits SkipTriangles = 256
ray_bits SkipAabbs = 512

-- whether a ray has a flag
abbrev pub ray_has : RayFlags → RayFlag → Bool
ray_has ray flag = has_bits ray.0 (ray_bits flag)

-- the facing and the opacity of an instance (VkGeometryInstanceFlagBitsKHR, with its bits)
pub data InstanceFlag : Type 0 where
  TriangleFacingCullDisable : InstanceFlag
  TriangleFlipFacing : InstanceFlag
  ForceOpaque : InstanceFlag
  ForceNoOpaque : InstanceFlag

-- the bits of each flag of an instance
abbrev pub instance_bits : InstanceFlag → ℕ
instance_bits TriangleFacingCullDisable = 1
instance_bits TriangleFlipFacing = 2
instance_bits ForceOpaque = 4
instance_bits ForceNoOpaque = 8

-- whether an instance has a flag
abbrev pub instance_has : InstanceFlags → InstanceFlag → Bool
instance_has instance flag = has_bits instance.0 (instance_bits flag)

-- the stages of a barrier (VkPipelineStageFlagBits; the bits are own); `all` is
-- transfer, build, structure_copy and compute together, and not the host
pub data Stage : Type 0 where
  Transfer : Stage
  Build : Stage
  StructureCopy : Stage
  Compute : Stage
  Host : Stage
  AllStages : Stage

-- the bits of each stage
abbrev pub stage_bits : Stage → ℕ
stage_bits Transfer = 1
stage_bits Build = 2
stage_bits Compute = 4
stage_bits Host = 8
stage_bits StructureCopy = 16
stage_bits AllStages = 23

-- whether a set of stages has a stage
abbrev pub stages_have : Stages → Stage → Bool
stages_have stages flag = has_bits stages.0 (stage_bits flag)

-- the accesses of a barrier (VkAccessFlagBits; the bits are own)
pub data AccessFlag : Type 0 where
  TransferRead : AccessFlag
  TransferWrite : AccessFlag
  ShaderRead : AccessFlag
  ShaderWrite : AccessFlag
  StructureRead : AccessFlag
  StructureWrite : AccessFlag
  HostRead : AccessFlag
  HostWrite : AccessFlag
  MemoryRead : AccessFlag
  MemoryWrite : AccessFlag

-- the bits of each access
abbrev pub access_bits : AccessFlag → ℕ
access_bits TransferRead = 1
access_bits TransferWrite = 2
access_bits ShaderRead = 4
access_bits ShaderWrite = 8
access_bits StructureRead = 16
access_bits StructureWrite = 32
access_bits HostRead = 64
access_bits HostWrite = 128
access_bits MemoryRead = 256
access_bits MemoryWrite = 512

-- whether a set of accesses has an access
abbrev pub access_has : Access → AccessFlag → Bool
access_has access flag = has_bits access.0 (access_bits flag)
