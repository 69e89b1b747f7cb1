-- What the bytes of an input spell for the words that read an object: the commands of a recording and what
-- belongs to them. (Own.)
use Rattle.std.specs.Prelude.{ℕ, ◌≡◌, List, [], ◌∷◌, Option, Some, None, Result, Ok, Err, codes}
use Rattle.serde_json.specs.Data.{Data}
use Rattle.serde_json.specs.Find.{get}
use Rattle.ray_cmd.specs.declared.command.Command.{Command}
use Rattle.ray_cmd.specs.declared.fault.RecordingFault.TheVariants as recordings
use Rattle.ray_cmd.specs.Json.{json_of}
use Rattle.ray_cmd.specs.Recordings.{Reading, recording_of}
use Rattle.ray_json.specs.Fields.{list_of, only, text_of}
use Rattle.ray_pipe.specs.declared.fault.TableFault.{TableFault}
use Rattle.ray_pipe.specs.declared.fault.TableFault.TheVariants as tables
use Rattle.ray_pipe.specs.Reading.{tables_of}
use Rattle.ray_pipe.specs.Tables.{TraceTables}
use Rattle.ray_submits.specs.declared.fault.QueueFault.{QueueFault}
use Rattle.ray_submits.specs.declared.fault.QueueFault.TheVariants as queues
use Rattle.ray_submits.specs.Reading.{queues_of}
use Rattle.ray_submits.specs.Submits.{QueueCommands}
use Rattle.ray_inputs.specs.declared.fault.BadInput.{BadInput}
use Rattle.ray_inputs.specs.declared.fault.BadInput.TheVariants.{NotJson, BadObject, BadShape, BadTable, BadSubmits, BadCertificates, NoMemory}

infixl 10 ◌>>=◌
-- what is read after the first, or why the first is none
abbrev pub ◌>>=◌ : {A B : Type 0} → Result A BadInput → (A → Result B BadInput) → Result B BadInput
Ok x >>= next = next x
Err fault >>= next = Err fault

-- ---- parts

-- a JSON value, which the bytes are where they spell one
abbrev pub or_no_json : Option Data → Result Data BadInput
or_no_json None = Err NotJson
or_no_json (Some d) = Ok d

-- what belongs to the object, which is bad where it isn't there
abbrev pub or_no_object : {A : Type 0} → Option A → Result A BadInput
or_no_object None = Err BadObject
or_no_object (Some x) = Ok x

-- the commands, or which of them is bad
abbrev pub commands_in : Reading → Result (List Command) BadInput
commands_in (Ok cs) = Ok cs
commands_in (Err recordings.NotJson) = Err NotJson
commands_in (Err (recordings.BadShape i)) = Err (BadShape i)
commands_in (Err recordings.NoMemory) = Err NoMemory

-- the tables, or which of them is bad
abbrev pub tables_in : Result TraceTables TableFault → Result TraceTables BadInput
tables_in (Ok t) = Ok t
tables_in (Err (tables.BadTable k)) = Err (BadTable k)
tables_in (Err tables.NoMemory) = Err NoMemory

-- the recording that is submitted to queues, or what of it is bad
abbrev pub queues_in : Result QueueCommands QueueFault → Result QueueCommands BadInput
queues_in (Ok q) = Ok q
queues_in (Err queues.BadObject) = Err BadObject
queues_in (Err (queues.BadShape i)) = Err (BadShape i)
queues_in (Err (queues.BadSubmits k)) = Err (BadSubmits k)
queues_in (Err queues.NoMemory) = Err NoMemory

-- lines of text, where the value is a list of strings
abbrev pub or_no_lines : Option (List (List ℕ)) → Result (List (List ℕ)) BadInput
or_no_lines None = Err BadCertificates
or_no_lines (Some lines) = Ok lines

abbrev pub lines_in : Data → Result (List (List ℕ)) BadInput
lines_in d = or_no_lines (list_of text_of d)

-- ---- inputs

-- commands, and the tables of hit groups of their traces
pub record TabledCommands : Type 0 where
  pub commands : List Command
  pub tables : TraceTables

-- the ones that a value spells: an object of `commands` and `tables`, and of nothing else
abbrev pub tabled_of : Data → Result TabledCommands BadInput
tabled_of d =
    or_no_object (only (codes "commands" ∷ codes "tables" ∷ []) d) >>= λ u.
    or_no_object (get (codes "commands") d) >>= λ commands.
    or_no_object (get (codes "tables") d) >>= λ tables.
    commands_in (recording_of commands) >>= λ cs.
    tables_in (tables_of cs tables) >>= λ t.
    Ok (record { commands = cs; tables = t })

-- and those that bytes spell
abbrev pub tabled_in : List ℕ → Result TabledCommands BadInput
tabled_in bytes = or_no_json (json_of bytes) >>= tabled_of

-- the recording that is submitted to queues which bytes spell: an object of `commands` and `submits`
abbrev pub queued_in : List ℕ → Result QueueCommands BadInput
queued_in bytes = or_no_json (json_of bytes) >>= λ d. queues_in (queues_of d)

-- commands, and lines that are to be certificates of the rays of their traces
pub record CertifiedCommands : Type 0 where
  pub commands : List Command
  pub certificates : List (List ℕ)

-- the ones that a value spells: an object of `commands` and `certificates`, and of nothing else
abbrev pub certified_of : Data → Result CertifiedCommands BadInput
certified_of d =
    or_no_object (only (codes "certificates" ∷ codes "commands" ∷ []) d) >>= λ u.
    or_no_object (get (codes "commands") d) >>= λ commands.
    or_no_object (get (codes "certificates") d) >>= λ certificates.
    commands_in (recording_of commands) >>= λ cs.
    lines_in certificates >>= λ lines.
    Ok (record { commands = cs; certificates = lines })

-- and those that bytes spell
abbrev pub certified_in : List ℕ → Result CertifiedCommands BadInput
certified_in bytes = or_no_json (json_of bytes) >>= certified_of

-- ---- answers

-- the answer is what is spelled; want of memory is free
abbrev pub Answers : {A : Type 0} → Result A BadInput → Result A BadInput → Type 0
Answers (Ok x) spelled = spelled ≡ Ok x
Answers (Err NotJson) spelled = spelled ≡ Err NotJson
Answers (Err BadObject) spelled = spelled ≡ Err BadObject
Answers (Err (BadShape i)) spelled = spelled ≡ Err (BadShape i)
Answers (Err (BadTable k)) spelled = spelled ≡ Err (BadTable k)
Answers (Err (BadSubmits k)) spelled = spelled ≡ Err (BadSubmits k)
Answers (Err BadCertificates) spelled = spelled ≡ Err BadCertificates
Answers (Err NoMemory) spelled = Unit {0}

-- the same of an answer that is seen by a function
abbrev pub AnswersBy : {A B : Type 0} → (A → B) → Result A BadInput → Result B BadInput → Type 0
AnswersBy f (Ok x) spelled = spelled ≡ Ok (f x)
AnswersBy f (Err NotJson) spelled = spelled ≡ Err NotJson
AnswersBy f (Err BadObject) spelled = spelled ≡ Err BadObject
AnswersBy f (Err (BadShape i)) spelled = spelled ≡ Err (BadShape i)
AnswersBy f (Err (BadTable k)) spelled = spelled ≡ Err (BadTable k)
AnswersBy f (Err (BadSubmits k)) spelled = spelled ≡ Err (BadSubmits k)
AnswersBy f (Err BadCertificates) spelled = spelled ≡ Err BadCertificates
AnswersBy f (Err NoMemory) spelled = Unit {0}
