-- The reading of a JSON value, and of bytes, as a recording. (Own.)
use Rattle.std.specs.Prelude.{ℕ, ◌+◌, ◌^◌, ◌≡◌, List, [], ◌∷◌, Option, Some, None, Result, Ok, Err, nat_le, if◌then◌else◌}
use Rattle.serde_json.specs.Data.{Data, null, boolean, number, string, array, object, Items, no_items, item}
use Rattle.ray_cmd.specs.declared.command.Command.{Command}
use Rattle.ray_cmd.specs.declared.fault.RecordingFault.{RecordingFault}
use Rattle.ray_cmd.specs.declared.fault.RecordingFault.TheVariants.{NotJson, BadShape, NoMemory}
use Rattle.ray_cmd.specs.Counting.{listed_in, less}
use Rattle.ray_cmd.specs.Grammar.{command_of}
use Rattle.ray_cmd.specs.Json.{json_of}

-- a recording's commands, or why there is none
abbrev pub Reading : Type 0
Reading = Result (List Command) RecordingFault

-- the greatest number of commands
abbrev pub most_commands : ℕ
most_commands = 65536

-- the greatest number of members that all lists of a recording have together
abbrev pub most_members : ℕ
most_members = 2 ^ 26

infixl 10 ◌>>=◌
-- what is read after the first, or why the first is none
abbrev pub ◌>>=◌ : {A B : Type 0} → Result A RecordingFault → (A → Result B RecordingFault) → Result B RecordingFault
Ok x >>= next = next x
Err fault >>= next = Err fault

-- what is spelled at command number i, whose shape is bad where nothing is
abbrev pub or_bad : {A : Type 0} → ℕ → Option A → Result A RecordingFault
or_bad i None = Err (BadShape i)
or_bad i (Some x) = Ok x

-- the commands that items from number i on spell, where lists may have so many members more
unfoldable pub commands_from : ℕ → ℕ → Items → Reading
commands_from i left no_items = Ok []
commands_from i left (item d ds) =
    if nat_le most_commands i then Err (BadShape most_commands)
    else or_bad i (less (listed_in d) left) >>= λ rest.
    or_bad i (command_of d) >>= λ command.
    commands_from (i + 1) rest ds >>= λ commands.
    Ok (command ∷ commands)

-- the recording that a value spells: it is an array of its commands
abbrev pub recording_of : Data → Reading
recording_of null = Err (BadShape 0)
recording_of (boolean b) = Err (BadShape 0)
recording_of (number n) = Err (BadShape 0)
recording_of (string s) = Err (BadShape 0)
recording_of (array ds) = commands_from 0 most_members ds
recording_of (object ms) = Err (BadShape 0)

-- the recording of a JSON value that may not be there
abbrev pub recording_if : Option Data → Reading
recording_if None = Err NotJson
recording_if (Some d) = recording_of d

-- the recording that bytes spell
abbrev pub recording_in : List ℕ → Reading
recording_in bytes = recording_if (json_of bytes)

-- the answer is what is spelled; want of memory is free
abbrev pub Answers : {A : Type 0} → Result A RecordingFault → Result A RecordingFault → Type 0
Answers (Ok x) spelled = spelled ≡ Ok x
Answers (Err NotJson) spelled = spelled ≡ Err NotJson
Answers (Err (BadShape i)) spelled = spelled ≡ Err (BadShape i)
Answers (Err NoMemory) spelled = Unit {0}
