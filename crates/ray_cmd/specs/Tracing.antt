-- Traces of rays. (Own: the JSON; each command is named in `Command`.)
use Rattle.std.specs.Prelude.{[], ◌∷◌, Option, Some, codes}
use Rattle.serde_json.specs.Data.{Data}
use Rattle.ray_json.specs.Fields.{◌>>=◌, only, at, u32_of}
use Rattle.ray_cmd.specs.Words.{ray_flags_of}
use Rattle.ray_cmd.specs.Places.{spot_of}
use Rattle.ray_script.specs.Rules.{rules_of}
use Rattle.ray_cmd.specs.declared.command.Command.{Command}
use Rattle.ray_cmd.specs.declared.command.Command.TheVariants as commands

-- the command `trace`: rays that are traced
unfoldable pub trace_of : Data → Option Command
trace_of d = do
  _ ← only (codes "op" ∷ codes "top" ∷ codes "rays" ∷ codes "count" ∷ codes "hits" ∷ codes "flags" ∷ codes "mask" ∷ codes "script" ∷ []) d
  top ← at u32_of (codes "top") d
  rays ← at spot_of (codes "rays") d
  count ← at u32_of (codes "count") d
  hits ← at spot_of (codes "hits") d
  flags ← at ray_flags_of (codes "flags") d
  mask ← at u32_of (codes "mask") d
  script ← at rules_of (codes "script") d
  Some (commands.Trace top rays count hits flags mask script)
