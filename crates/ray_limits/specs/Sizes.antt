-- The sizes of structures that V11 compares. (Own.)
use Rattle.std.specs.Prelude.{ℕ, Option, Some, None, if◌then◌else◌, length, nat_lt, option_map}
use Rattle.std.specs.Option.{option_and_then}
use Rattle.ray_bytes.specs.StructureSizes.{structure_size}
use Rattle.ray_cmd.specs.declared.build_mode.BuildMode.{BuildMode}
use Rattle.ray_cmd.specs.declared.build_mode.BuildMode.TheVariants as modes
use Rattle.ray_cmd.specs.declared.command.Command.{Command}
use Rattle.ray_cmd.specs.declared.command.Command.TheVariants as commands
use Rattle.ray_cmd.specs.declared.copy_mode.CopyMode.{CopyMode}
use Rattle.ray_cmd.specs.declared.copy_mode.CopyMode.TheVariants as copies
use Rattle.ray_cmd.specs.declared.info.Info.{Info}
use Rattle.ray_causes.specs.declared.member.Member.{Member}
use Rattle.ray_causes.specs.declared.member.Member.TheVariants as members
use Rattle.ray_causes.specs.declared.member.Name.{Name}
use Rattle.ray_causes.specs.declared.member.Name.TheVariants as names
use Rattle.ray_causes.specs.Geometries.{info_at}
use Rattle.ray_causes.specs.Naming.{at_dst}
use Rattle.ray_limits.specs.declared.limit.Sizes.{Sizes}
use Rattle.ray_rules.specs.Ranges.{primitives}
use Rattle.ray_rules.specs.Status.{Status}
use Rattle.ray_rules.specs.Structures.{made_size}

-- the size of the structure of an id, and that which it has to have
abbrev pub sizes : Status → ℕ → ℕ → Sizes
sizes z id wanted = record { id = id; size = made_size z id; wanted = wanted }

-- of the destination of a clone: the size of the source
abbrev pub clone_sizes : Status → CopyMode → ℕ → ℕ → Option Sizes
clone_sizes z copies.Clone src dst = Some (sizes z dst (made_size z src))
clone_sizes z copies.Compact src dst = None

-- of the destination of a build: the structure size of its geometries; of an update: the size of its source
abbrev pub info_sizes : Status → Info → BuildMode → Option Sizes
info_sizes z info modes.Build =
    Some (sizes z info.dst (structure_size (length info.geometries) (primitives info.geometries)))
info_sizes z info modes.Update = option_map (λ id. sizes z info.dst (made_size z id)) info.src

abbrev pub mode_sizes : Status → Info → Option Sizes
mode_sizes z info = info_sizes z info info.mode

-- of a member of the command itself
abbrev pub own_sizes : Status → Command → Name → Option Sizes
own_sizes z (commands.CopyStructure mode src dst) name = option_and_then (at_dst name) (clone_sizes z mode src dst)
own_sizes z _ name = None

-- of any member
abbrev pub sizes_at : Status → Command → Member → Option Sizes
sizes_at z c (members.Own name) = own_sizes z c name
sizes_at z c (members.Info k name) = option_and_then (at_dst name) (option_and_then (mode_sizes z) (info_at c k))
sizes_at z c _ = None

-- the sizes, where the structure is smaller than it has to be
abbrev pub short_by : Sizes → Option Sizes
short_by s = if nat_lt s.size s.wanted then Some s else None

-- the same of a member
abbrev pub short_at : Status → Command → Member → Option Sizes
short_at z c member = option_and_then short_by (sizes_at z c member)
