-- Words that private contracts cite: the stores of a wave, whose fetches were all from one memory.
use Rattle.std.specs.Prelude.{ℕ, ◌≡◌, List, [], ◌∷◌, ◌++◌, Option, Some, None, true}
use Rattle.ray_schedule.specs.Waves.{EachLater}
use Rattle.ray_cmd.specs.declared.command.Command.{Command}
use Rattle.ray_cmd.specs.declared.refusal.Refusal.{Refusal}
use Rattle.ray_action.specs.Memory.{Location, Memory}
use Rattle.ray_action.specs.Areas.{cover}
use Rattle.ray_action.specs.Action.{areas_read}
use Rattle.ray_action.specs.Clients.{Clients}
use Rattle.ray_action.specs.Outcomes.{Outcome, Gives, Breaks, Undefined}
use Rattle.ray_action.specs.Running.{refusal_by, text_with}
use Rattle.ray_action.specs.Storing.{put, writes}
use Rattle.ray_device.specs.declared.piece.Piece.{Piece}
use Rattle.ray_device.specs.Pieces.{piece_action}
use Rattle.ray_exec.specs.Steps.{piece_outcome}

-- what pieces leave that were stored: the memory, the text, and the refusal of the first that breaks a data
-- rule, behind which none is stored
pub record Settled : Type 0 where
  pub memory : Memory
  pub text : List ℕ
  pub stop : Option Refusal

-- a piece of command number i with an outcome, and then those after it
abbrev pub then_settled : ℕ → Outcome → Memory → List ℕ → Settled → Settled
then_settled i (Gives output) memory text later = later
then_settled i (Breaks fault) memory text later = record { memory = memory; text = text; stop = Some (refusal_by i fault) }
then_settled i Undefined memory text later = record { memory = memory; text = text; stop = None }

-- pieces are stored one after the other, each with its outcome in the memory before all of them
abbrev pub settled : List Command → Clients → Memory → List Piece → Memory → List ℕ → Settled
settled rec clients before [] memory text = record { memory = memory; text = text; stop = None }
settled rec clients before (piece ∷ pieces) memory text =
    then_settled piece.command (piece_outcome rec clients piece before) memory text
    (settled rec clients before pieces (put (piece_action rec piece) (piece_outcome rec clients piece before) memory)
    (text ++ text_with (piece_action rec piece) (piece_outcome rec clients piece before)))

-- no piece writes what a later one reads
abbrev pub AreApart : List Command → List Piece → Type 0
AreApart rec pieces =
    EachLater (λ (piece other : Piece). (l : Location) → writes (piece_action rec piece) l ≡ true
    → cover (areas_read (piece_action rec other)) l ≡ true → ⊥) pieces

-- a memory, a text and a refusal are what was left
pub record IsLeftBy (left : Settled) (memory : Memory) (text : List ℕ) (stop : Option Refusal) : Type 0 where
  pub same_memory : (l : Location) → memory l ≡ left.memory l
  pub same_text : text ≡ left.text
  pub same_stop : stop ≡ left.stop
