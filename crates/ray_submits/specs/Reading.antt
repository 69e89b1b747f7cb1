-- The reading of a JSON value as a recording that is submitted to queues. (Own.)
use Rattle.std.specs.Prelude.{ℕ, ◌+◌, ◌≡◌, ◌==◌, List, [], ◌∷◌, Option, Some, None, Result, Ok, Err, codes, length, min, if◌then◌else◌}
use Rattle.serde_json.specs.Data.{Data, null, boolean, number, string, array, object, Items, no_items, item}
use Rattle.serde_json.specs.Find.{get}
use Rattle.ray_cmd.specs.declared.command.Command.{Command}
use Rattle.ray_cmd.specs.declared.fault.RecordingFault.{RecordingFault}
use Rattle.ray_cmd.specs.declared.fault.RecordingFault.TheVariants as faults
use Rattle.ray_cmd.specs.Recordings.{recording_of}
use Rattle.ray_json.specs.Fields.{only}
use Rattle.ray_submits.specs.declared.fault.QueueFault.{QueueFault}
use Rattle.ray_submits.specs.declared.fault.QueueFault.TheVariants.{BadObject, BadShape, BadSubmits, NoMemory}
use Rattle.ray_submits.specs.declared.submission.Submission.{Submission}
use Rattle.ray_submits.specs.Shapes.{submission_of}
use Rattle.ray_submits.specs.Submits.{QueueCommands, submits_below}

infixl 10 ◌>>=◌
-- what is read after the first, or why the first is none
abbrev pub ◌>>=◌ : {A B : Type 0} → Result A QueueFault → (A → Result B QueueFault) → Result B QueueFault
Ok x >>= next = next x
Err fault >>= next = Err fault

-- what belongs to the object, which is bad where it isn't there
abbrev pub or_no_object : {A : Type 0} → Option A → Result A QueueFault
or_no_object None = Err BadObject
or_no_object (Some x) = Ok x

-- the commands, or which of them is bad. That it is no JSON isn't said of a value, nor want of memory
abbrev pub commands_in : Result (List Command) RecordingFault → Result (List Command) QueueFault
commands_in (Ok cs) = Ok cs
commands_in (Err (faults.BadShape i)) = Err (BadShape i)
commands_in (Err _) = Err NoMemory

-- what is spelled by entry number k, which is bad where nothing is
abbrev pub or_bad : {A : Type 0} → ℕ → Option A → Result A QueueFault
or_bad k None = Err (BadSubmits k)
or_bad k (Some x) = Ok x

-- the submissions that items from number k on spell
unfoldable pub submits_from : ℕ → Items → Result (List Submission) QueueFault
submits_from k no_items = Ok []
submits_from k (item d ds) =
    or_bad k (submission_of d) >>= λ submission.
    submits_from (k + 1) ds >>= λ submissions.
    Ok (submission ∷ submissions)

-- the submissions that a value spells: it is an array of them
abbrev pub submits_of : Data → Result (List Submission) QueueFault
submits_of null = Err (BadSubmits 0)
submits_of (boolean b) = Err (BadSubmits 0)
submits_of (number n) = Err (BadSubmits 0)
submits_of (string s) = Err (BadSubmits 0)
submits_of (array ds) = submits_from 0 ds
submits_of (object ms) = Err (BadSubmits 0)

-- how many `submit`s there are
abbrev pub submit_count : List Command → ℕ
submit_count cs = submits_below cs (length cs)

-- commands and submissions, as many as there are `submit`s
abbrev pub counted : List Command → List Submission → Result QueueCommands QueueFault
counted cs submits =
    if length submits == submit_count cs then Ok (record { commands = cs; submits = submits })
    else Err (BadSubmits (min (length submits) (submit_count cs)))

-- the recording that a value spells: an object with these two members and no others
abbrev pub queues_of : Data → Result QueueCommands QueueFault
queues_of d =
    or_no_object (only (codes "commands" ∷ codes "submits" ∷ []) d) >>= λ u.
    or_no_object (get (codes "commands") d) >>= λ commands.
    or_no_object (get (codes "submits") d) >>= λ entries.
    commands_in (recording_of commands) >>= λ cs.
    submits_of entries >>= λ submits.
    counted cs submits

-- the answer is what is spelled; want of memory is free
abbrev pub Answers : {A : Type 0} → Result A QueueFault → Result A QueueFault → Type 0
Answers (Ok x) spelled = spelled ≡ Ok x
Answers (Err BadObject) spelled = spelled ≡ Err BadObject
Answers (Err (BadShape i)) spelled = spelled ≡ Err (BadShape i)
Answers (Err (BadSubmits k)) spelled = spelled ≡ Err (BadSubmits k)
Answers (Err NoMemory) spelled = Unit {0}

-- the same of an answer that is seen by a function
abbrev pub AnswersBy : {A B : Type 0} → (A → B) → Result A QueueFault → Result B QueueFault → Type 0
AnswersBy f (Ok x) spelled = spelled ≡ Ok (f x)
AnswersBy f (Err BadObject) spelled = spelled ≡ Err BadObject
AnswersBy f (Err (BadShape i)) spelled = spelled ≡ Err (BadShape i)
AnswersBy f (Err (BadSubmits k)) spelled = spelled ≡ Err (BadSubmits k)
AnswersBy f (Err NoMemory) spelled = Unit {0}
