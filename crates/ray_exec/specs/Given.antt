-- Words that private contracts cite: what the pieces of a wave give, all in one memory.
use Rattle.std.specs.Prelude.{◌≡◌, List, [], ◌∷◌, Option, Some, None, true, false}
use Rattle.ray_schedule.specs.Waves.{IsAmong}
use Rattle.ray_cmd.specs.declared.command.Command.{Command}
use Rattle.ray_action.specs.Memory.{Memory}
use Rattle.ray_action.specs.Clients.{Clients}
use Rattle.ray_action.specs.Outcomes.{Gives}
use Rattle.ray_action.specs.Pieces.{command_at}
use Rattle.ray_action.specs.Readiness.{IsReady}
use Rattle.ray_device.specs.declared.piece.Piece.{Piece}
use Rattle.ray_device.specs.Pieces.{is_device, piece_action}
use Rattle.ray_exec.specs.declared.given.Given.{Given}
use Rattle.ray_exec.specs.declared.given.Given.TheVariants.{Out, Broken, ByHost}
use Rattle.ray_exec.specs.Steps.{IsBroken, piece_outcome}
use Rattle.ray_exec.specs.Waves.{IsPart}

-- parts of commands are ready in a memory, and can be fetched, as far as their commands tell it
pub record AreReady (can : Command → Type 0) (rec : List Command) (memory : Memory) (pieces : List Piece) : Type 0 where
  pub each : (piece : Piece) → IsAmong piece pieces → IsPart rec piece × IsReady (piece_action rec piece) memory
  pub can_each : (piece : Piece) → IsAmong piece pieces → can (command_at rec piece.command)

-- what a piece gives in a memory, where these clients decide: its output, the data rule that it breaks, or nothing, where the host does it
abbrev pub IsGivenBy : List Command → Clients → Memory → Piece → Given → Type 0
IsGivenBy rec clients memory piece (Out out) =
    (is_device (command_at rec piece.command) ≡ true) × (out.piece ≡ piece)
    × (piece_outcome rec clients piece memory ≡ Gives out.output)
IsGivenBy rec clients memory piece (Broken refusal) = IsBroken piece.command (piece_outcome rec clients piece memory) refusal
IsGivenBy rec clients memory piece (ByHost command) =
    (is_device (command_at rec piece.command) ≡ false) × (command ≡ piece.command)

-- each of some pieces gives what stands at its place
abbrev pub AreGiven : List Command → Clients → Memory → List Piece → List Given → Type 0
AreGiven rec clients memory [] [] = Unit {0}
AreGiven rec clients memory (piece ∷ pieces) (given ∷ outs) = IsGivenBy rec clients memory piece given × AreGiven rec clients memory pieces outs
AreGiven rec clients memory _ _ = ⊥

-- the same where a place may be empty
abbrev pub IsFilledBy : List Command → Clients → Memory → Piece → Option Given → Type 0
IsFilledBy rec clients memory piece None = Unit {0}
IsFilledBy rec clients memory piece (Some given) = IsGivenBy rec clients memory piece given

abbrev pub AreFilled : List Command → Clients → Memory → List Piece → List (Option Given) → Type 0
AreFilled rec clients memory [] [] = Unit {0}
AreFilled rec clients memory (piece ∷ pieces) (place ∷ places) = IsFilledBy rec clients memory piece place × AreFilled rec clients memory pieces places
AreFilled rec clients memory _ _ = ⊥
