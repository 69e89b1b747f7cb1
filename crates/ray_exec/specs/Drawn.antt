-- Words that private contracts cite: what workers come back with.
use Rattle.std.specs.Prelude.{◌≡◌, ◌<◌, List, All, IfOk, length, slice_get, Some}
use Rattle.ray_claim.specs.Seats.{ClaimsView}
use Rattle.ray_cmd.specs.declared.command.Command.{Command}
use Rattle.ray_action.specs.Clients.{Clients}
use Rattle.ray_action.specs.Memory.{Memory}
use Rattle.ray_device.specs.declared.piece.Piece.{Piece}
use Rattle.ray_exec.specs.declared.drawing.Drawn.{Drawn}
use Rattle.ray_exec.specs.declared.drawing.Worked.{Worked}
use Rattle.ray_exec.specs.Given.{IsGivenBy}

-- what was drawn is what the piece of its number gives
pub record IsDrawn (rec : List Command) (clients : Clients) (memory : Memory) (pieces : List Piece) (drawn : Drawn) : Type 0 where
  pub within : drawn.number < length pieces
  pub given : (piece : Piece) → slice_get pieces drawn.number ≡ Some piece → IsGivenBy rec clients memory piece drawn.given

-- a worker's seat is of these claims, and what it drew is what its pieces give
pub record IsWorked (claims : ClaimsView) (rec : List Command) (clients : Clients) (memory : Memory) (pieces : List Piece) (worked : Worked) : Type 0 where
  pub seat : worked.seat.table ≡ claims.table
  pub outs : IfOk worked.outs (λ v. All (IsDrawn rec clients memory pieces) v.items)
