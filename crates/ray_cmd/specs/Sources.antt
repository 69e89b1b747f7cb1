-- Which infos of builds have a source. (Vulkan: srcAccelerationStructure of
-- VkAccelerationStructureBuildGeometryInfoKHR; own: that it is there with an update alone.)
use Rattle.std.specs.Prelude.{ℕ, ◌≡◌, List, Some, Bool, true, slice_get}
use Rattle.std.specs.List.{list_all}
use Rattle.ray_cmd.specs.Infos.{source_fits}
use Rattle.ray_cmd.specs.declared.command.Command.{Command}
use Rattle.ray_cmd.specs.declared.command.Command.TheVariants as commands
use Rattle.ray_cmd.specs.declared.info.Info.{Info}

-- whether an info has a source exactly where it is an update
abbrev pub has_its_source : Info → Bool
has_its_source info = source_fits info.mode info.src

-- the same of all infos of a command
abbrev pub have_their_sources : Command → Bool
have_their_sources (commands.Build infos) = list_all has_its_source infos
have_their_sources _ = true

-- and of all commands
pub record AreSourced (rec : List Command) : Type 0 where
  pub each : (i : ℕ) (c : Command) → slice_get rec i ≡ Some c → have_their_sources c ≡ true
