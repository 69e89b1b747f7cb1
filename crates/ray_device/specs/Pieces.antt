-- The pieces of a command, and what each does. (Own.)
use Rattle.std.specs.Prelude.{ℕ, ◌<◌, List, length, slice_get, unwrap_or, Bool, not, if◌then◌else◌}
use Rattle.ray_cmd.specs.declared.command.Command.{Command}
use Rattle.ray_cmd.specs.declared.command.Command.TheVariants as commands
use Rattle.ray_rules.specs.Hazards.{status_at}
use Rattle.ray_rules.specs.Kinds.{is_by_host, kind_of}
use Rattle.ray_rules.specs.Status.{Status}
use Rattle.ray_action.specs.Action.{Action, Rest}
use Rattle.ray_action.specs.Pieces.{actions_of, command_at, trace_pieces}
use Rattle.ray_device.specs.declared.piece.Piece.{Piece}

-- whether a command is done by the device, piece by piece
abbrev pub is_device : Command → Bool
is_device c = not (is_by_host (kind_of c))

-- how many pieces a command has: none where the host does it, one an info of a build, a region of a copy or
-- a run of 64 rays of a trace, and else one
abbrev pub piece_count : Command → ℕ
piece_count (commands.Copy src dst regions) = length regions
piece_count (commands.Build infos) = length infos
piece_count (commands.Trace top rays count hits flags mask script) = trace_pieces count
piece_count c = if is_device c then 1 else 0

-- a piece is there: its command, and so many pieces of it
pub record IsPiece (rec : List Command) (piece : Piece) : Type 0 where
  pub command : piece.command < length rec
  pub part : piece.part < piece_count (command_at rec piece.command)

-- action number k of a command where this status stands before it, where there is one
abbrev pub part_action : List Command → Status → Command → ℕ → Action
part_action rec z command k = unwrap_or (slice_get (actions_of rec z command) k) Rest

-- what a piece does
abbrev pub piece_action : List Command → Piece → Action
piece_action rec piece = part_action rec (status_at rec piece.command) (command_at rec piece.command) piece.part
