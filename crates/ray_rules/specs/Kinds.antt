-- What a command is, as far as stages and order go: a device command of a stage, a barrier or a host
-- command. The one table of it. (Vulkan: the pipeline stages of the commands.)
use Rattle.std.specs.Prelude.{Option, Some, None, Bool, true, false}
use Rattle.ray_cmd.specs.declared.command.Command.{Command}
use Rattle.ray_cmd.specs.declared.command.Command.TheVariants as commands
use Rattle.ray_rules.specs.declared.kind.Kind.{Kind}
use Rattle.ray_rules.specs.declared.kind.Kind.TheVariants.{Device, Barrier, HostCommand}
use Rattle.ray_rules.specs.declared.stage.Stage.{Stage}
use Rattle.ray_rules.specs.declared.stage.Stage.TheVariants.{Transfer, Build, StructureCopy, Compute}

-- the kind of a command
unfoldable pub kind_of : Command → Kind
kind_of (commands.Update buffer offset content) = Device Transfer
kind_of (commands.Fill buffer offset size value) = Device Transfer
kind_of (commands.Copy src dst regions) = Device Transfer
kind_of (commands.Build infos) = Device Build
kind_of (commands.CopyStructure mode src dst) = Device StructureCopy
kind_of (commands.Serialize src dst form) = Device StructureCopy
kind_of (commands.Deserialize src dst uses) = Device StructureCopy
kind_of (commands.Property what structures dst) = Device Build
kind_of (commands.Barrier src_stages src_access dst_stages dst_access buffers) = Barrier
kind_of (commands.Trace top rays count hits flags mask script) = Device Compute
kind_of _ = HostCommand

-- the stage of a kind: none of a barrier, which has no access, and of a host command
abbrev pub stage_in : Kind → Option Stage
stage_in (Device stage) = Some stage
stage_in Barrier = None
stage_in HostCommand = None

-- whether a kind of command is done by the host. A barrier is a command of the device
abbrev pub is_by_host : Kind → Bool
is_by_host (Device stage) = false
is_by_host Barrier = false
is_by_host HostCommand = true
