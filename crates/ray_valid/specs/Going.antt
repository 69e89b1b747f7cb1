-- Whether the status goes on past a command. (Own.)
use Rattle.std.specs.Prelude.{Bool, ◌&&◌, is_none}
use Rattle.ray_cmd.specs.declared.command.Command.{Command}
use Rattle.ray_rules.specs.Buffers.{v2}
use Rattle.ray_rules.specs.Names.{v1}
use Rattle.ray_rules.specs.Status.{Status}
use Rattle.ray_rules.specs.Structures.{v6}

-- whether a command names what is live, has the sizes that it needs and makes no structure over another
abbrev pub goes_on : Status → Command → Bool
goes_on z c = is_none (v1 z c) && (is_none (v2 z c) && is_none (v6 z c))
