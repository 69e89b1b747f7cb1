-- By what usage a buffer can't be made or can't be read. (VkBufferCreateInfo: usage; own: which stand alone.)
use Rattle.std.specs.Prelude.{ℕ, Bool, false, ◌==◌, ◌&&◌, not, Option, Some, None, is_some}
use Rattle.ray_cmd.specs.declared.command.Command.{Command}
use Rattle.ray_cmd.specs.declared.command.Command.TheVariants as commands
use Rattle.ray_rules.specs.Buffers.{is_alone, is_private}

-- whether a command makes a buffer without a usage
abbrev pub has_no_usage : Command → Bool
has_no_usage (commands.Buffer id size usage content) = usage.0 == 0
has_no_usage _ = false

-- whether it makes one for scratch memory or for structures, and for something else
abbrev pub is_mixed : Command → Bool
is_mixed (commands.Buffer id size usage content) = is_private usage && not (is_alone usage)
is_mixed _ = false

-- whether it makes one for scratch memory or for structures, with content
abbrev pub is_filled : Command → Bool
is_filled (commands.Buffer id size usage content) = is_private usage && is_some content
is_filled _ = false

-- the buffer that a command shows
abbrev pub buffer_read : Command → Option ℕ
buffer_read (commands.Read buffer offset size form) = Some buffer
buffer_read _ = None
