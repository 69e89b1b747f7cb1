-- Builds and updates of structures. (Own: the JSON; each command is named in `Command`.)
use Rattle.std.specs.Prelude.{[], ◌∷◌, Option, Some, codes}
use Rattle.serde_json.specs.Data.{Data}
use Rattle.ray_json.specs.Fields.{◌>>=◌, only, at, list_of}
use Rattle.ray_cmd.specs.Infos.{info_of}
use Rattle.ray_cmd.specs.declared.command.Command.{Command}
use Rattle.ray_cmd.specs.declared.command.Command.TheVariants as commands

-- the command `build`: builds and updates
unfoldable pub build_of : Data → Option Command
build_of d = do
  _ ← only (codes "op" ∷ codes "infos" ∷ []) d
  infos ← at (list_of info_of) (codes "infos") d
  Some (commands.Build infos)
