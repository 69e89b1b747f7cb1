-- What a recording is of the items of an array, and which item is the first that is bad. (Own.)
use Rattle.std.specs.Prelude.{ℕ, zero, suc, ◌+◌, ◌<◌, ◌≤◌, ◌≡◌, ◌⊎◌, List, length, slice_get, Some, None, option_and_then}
use Rattle.serde_json.specs.Data.{Data, Items, no_items, item}
use Rattle.serde_json.specs.Find.{get_item}
use Rattle.serde_json.specs.Events.{items_len}
use Rattle.ray_cmd.specs.declared.command.Command.{Command}
use Rattle.ray_cmd.specs.Counting.{listed_in}
use Rattle.ray_cmd.specs.Grammar.{command_of}
use Rattle.ray_cmd.specs.Recordings.{most_commands, most_members}

-- item number i is there and spells the command
abbrev pub IsSpelled : Items → ℕ → Command → Type 0
IsSpelled ds i c = option_and_then command_of (get_item i ds) ≡ Some c

-- how many members the lists in the first n items have together
abbrev pub listed_before : ℕ → Items → ℕ
listed_before n no_items = 0
listed_before zero (item d ds) = 0
listed_before (suc n) (item d ds) = listed_in d + listed_before n ds

-- the commands are what the items spell, each in its place, and neither they nor their lists are too many
pub record IsRecordingOf (ds : Items) (cs : List Command) : Type 0 where
  pub few : length cs ≤ most_commands
  pub all : items_len ds ≡ length cs
  pub each : (i : ℕ) (c : Command) → slice_get cs i ≡ Some c → IsSpelled ds i c
  pub members : listed_before (length cs) ds ≤ most_members

-- item number i is one too many, or spells no command, or with it the lists have too many members
abbrev pub IsBad : Items → ℕ → Data → Type 0
IsBad ds i d = (i ≡ most_commands) ⊎ ((i < most_commands) × ((command_of d ≡ None) ⊎ (most_members < listed_before (i + 1) ds)))

-- item number i is bad, and each before it spells a command, with lists that aren't too many
pub record IsFirstBad (ds : Items) (i : ℕ) : Type 0 where
  pub below : (k : ℕ) → k < i → (c : Command) × IsSpelled ds k c
  pub members : listed_before i ds ≤ most_members
  pub here : (d : Data) × (get_item i ds ≡ Some d) × IsBad ds i d
