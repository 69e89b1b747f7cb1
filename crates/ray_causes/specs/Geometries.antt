-- The infos, geometries and regions of a command, by number. (Own.)
use Rattle.std.specs.Prelude.{ℕ, Option, None, slice_get}
use Rattle.std.specs.Option.{option_and_then}
use Rattle.ray_cmd.specs.declared.command.Command.{Command}
use Rattle.ray_cmd.specs.declared.command.Command.TheVariants as commands
use Rattle.ray_cmd.specs.declared.geometry.Geometry.{Geometry}
use Rattle.ray_cmd.specs.declared.info.Info.{Info}

-- info number k of a build
abbrev pub info_at : Command → ℕ → Option Info
info_at (commands.Build infos) k = slice_get infos k
info_at _ k = None

-- geometry number g of info number k
abbrev pub geometry_at : Command → ℕ → ℕ → Option Geometry
geometry_at c k g = option_and_then (λ (info : Info). slice_get info.geometries g) (info_at c k)
