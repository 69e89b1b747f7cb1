-- What is kept of how many `submit`s come before each command. (Own.)
use Rattle.std.specs.Prelude.{◌≡◌, ◌<◌, ℕ, List, length, slice_index_or}
use Rattle.ray_cmd.specs.declared.command.Command.{Command}
use Rattle.ray_submits.specs.declared.counts.Counts.{Counts}
use Rattle.ray_submits.specs.Submits.{submits_below}

-- the number before command number i
abbrev pub count_at : Counts → ℕ → ℕ
count_at counts i = slice_index_or counts.below.items i 0

-- they are the numbers before each of these commands, and that of all of them
pub record AreCounts (cs : List Command) (counts : Counts) : Type 0 where
  pub many : length counts.below.items ≡ length cs
  pub each : (i : ℕ) → i < length cs → count_at counts i ≡ submits_below cs i
  pub all : counts.all ≡ submits_below cs (length cs)
