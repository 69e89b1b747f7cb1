-- Words that private contracts cite: the waves of a recording, and the pieces of each.
use Rattle.std.specs.Prelude.{ℕ, ◌≡◌, ◌<◌, ◌≤◌, List, [], ◌∷◌, ◌++◌, filter, flat_map, map, length, slice_get, slice_index_or, Some, Vec, nat_lt, ◌==◌, if◌then◌else◌}
use Rattle.std.specs.List.{range_with_len}
use Rattle.std.specs.declared.alloc.Global.{Global}
use Rattle.ray_cmd.specs.declared.command.Command.{Command}
use Rattle.ray_rules.specs.Order.{IsLongest, barriers, before}
use Rattle.ray_action.specs.Pieces.{command_at}
use Rattle.ray_ready.specs.Accepted.{IsAccepted}
use Rattle.ray_permitted.specs.Separates.{NumbersSeparate}
use Rattle.ray_device.specs.declared.piece.Piece.{Piece}
use Rattle.ray_device.specs.Pieces.{is_device, piece_count}

-- the wave number of command number i
abbrev pub wave_at : List ℕ → ℕ → ℕ
wave_at numbers i = slice_index_or numbers i 0

-- so many wave numbers are the lengths of the longest chains in the order of a recording's barriers and waits
pub record AreLongest (rec : List Command) (n : ℕ) (waves : List ℕ) : Type 0 where
  pub many : length waves ≡ n
  pub each : (i : ℕ) → i < n → IsLongest (before (barriers rec) rec) i (wave_at waves i)

-- what is known of the commands below a number that run in waves of these numbers: they may be run one by
-- one, and the numbers separate them
pub record AreRun (rec : List Command) (numbers : List ℕ) (n : ℕ) : Type 0 where
  pub accepted : IsAccepted rec n
  pub within : n ≤ length rec
  pub ordered : n ≤ length numbers
  pub separate : NumbersSeparate rec n (wave_at numbers)

-- the same where no number is greater than there are commands
pub record AreRanked (rec : List Command) (ranks : List ℕ) (n : ℕ) : Type 0 where
  pub run : AreRun rec ranks n
  pub short : (i : ℕ) → i < n → wave_at ranks i < n

-- those of the first n commands that are of wave v, in recording order
abbrev pub commands_of_wave : List ℕ → ℕ → ℕ → List ℕ
commands_of_wave numbers n v = filter (λ i. wave_at numbers i == v) (range_with_len 0 n)

-- so many lists, one for each wave, have its commands among the first n
pub record AreWavesOf (numbers : List ℕ) (count n : ℕ) (waves : List (Vec ℕ Global)) : Type 0 where
  pub many : length waves ≡ count
  pub are : (v : ℕ) (wave : Vec ℕ Global) → slice_get waves v ≡ Some wave → wave.items ≡ commands_of_wave numbers n v

-- how many pieces a command has, where what the host does counts as one
abbrev pub part_count : Command → ℕ
part_count c = if is_device c then piece_count c else 1

-- part k of command number i
abbrev pub part : ℕ → ℕ → Piece
part i k = record { command = i; part = k }

-- the pieces of command number i
abbrev pub pieces_of : List Command → ℕ → List Piece
pieces_of rec i = map (part i) (range_with_len 0 (part_count (command_at rec i)))

-- those of the commands below a bound
abbrev pub pieces_below : List Command → ℕ → List ℕ → List Piece
pieces_below rec bound commands = flat_map (pieces_of rec) (filter (λ i. nat_lt i bound) commands)

-- a part of a command of the recording
pub record IsPart (rec : List Command) (piece : Piece) : Type 0 where
  pub command : piece.command < length rec
  pub part : piece.part < part_count (command_at rec piece.command)

-- so many lists with nothing in them
pub record AreEmpty (count : ℕ) (lists : List (Vec ℕ Global)) : Type 0 where
  pub many : length lists ≡ count
  pub empty : (v : ℕ) (list : Vec ℕ Global) → slice_get lists v ≡ Some list → list.items ≡ []

-- one list has a number more behind its own, and the others are as they were
pub record HasOneMore (v number : ℕ) (before after : List (Vec ℕ Global)) : Type 0 where
  pub many : length after ≡ length before
  pub here : (old new : Vec ℕ Global) → slice_get before v ≡ Some old → slice_get after v ≡ Some new → new.items ≡ old.items ++ number ∷ []
  pub others : (w : ℕ) → (w ≡ v → ⊥) → slice_get after w ≡ slice_get before w
